-- Building: what the hull of a checked list has, and the answer by its cases.
use Rattle.std.specs.Prelude.{Result, Ok, Err, None}
use mathlib.Core.Path.{◌≡◌, refl, sym, ap, ◌∙◌}
use mathlib.Core.Bool.{Bool}
use mathlib.Core.List.{List}
use mathlib.Core.Option.{none, some}
use Prim.Native.Nat.{ℕ, ◌<◌, ◌≤◌}
use native.Mathlib.Nat.{le_trans}
use native.Mathlib.Omega.{arith}
use borrow.Author.Tests.{le-leb, lt-leb}
use lib.Dec.{leb}
use lib.IntN.{ℤ}
use lib.ListN.{length, take}
use Rattle.touches.specs.declared.refusal.Refusal.TheVariants.{AllTouchesOnOnePlane, FaceTableTooSmall}
use Rattle.touches.specs.declared.refusal.Refusal.{Refusal}
use Rattle.touches.specs.Limits.{most_faces}
use Rattle.touches.specs.Touches.{touch, touch_count, Sound}
use Rattle.touches.specs.Check.{pick, checked}
use Rattle.touches.proofs.SoundLaws.{accepted_sound}
use Rattle.rules.specs.Faces.{Face, Places}
use Rattle.rules.specs.Building.{volume}
use Rattle.rules.specs.Start.{start, Start as Four}
use Rattle.rules.proofs.AfterLaws.{hull_built, hull_some}
use Rattle.rules.proofs.Theorems.{start_order, accepted_few}
use Rattle.cover.specs.Room.{enough}
use Rattle.cover.proofs.Theorems.{hull_few}
use Rattle.points.specs.Whole.{Plane}
use Rattle.hull.specs.Build.{hull_of, hull_with, built_from, built}
use Rattle.hull.specs.Whole.{Planed}
use Rattle.hull.specs.Inner.{Begun, Taken, Builds}
use Rattle.hull.specs.Start.{started_of}
use Rattle.hull.proofs.RaiseLaws.{hull_flat}
use Rattle.hull.specs.declared.build.Hull.{Hull}

-- ---- the hull of a list
pub hull_touched : (cs : List ℤ) {h : List Face} → hull_of cs ≡ some h → 0 < touch_count cs
hull_touched cs e = omega (arith, start_order (touch cs) (touch_count cs) (hull_built (touch cs) (touch_count cs) e).1)

pub hull_most : {cs : List ℤ} → Sound cs → {h : List Face} → hull_of cs ≡ some h → length h ≤ most_faces
hull_most {cs} d e = omega (arith, hull_few (touch cs) (touch_count cs) e, accepted_few d)

-- ---- the answer: refusal 5 or the hull
module _ (p : Places) (n : ℕ) (h : List Face) where
  by_room : {b : Bool} → leb (length h) n ≡ b → pick b (Ok (hull_with (length h) (volume p h))) (Err FaceTableTooSmall) ≡ built_from p n (some h)
  by_room e = ap (λ (b : Bool). pick b (Ok (hull_with (length h) (volume p h))) (Err FaceTableTooSmall)) (sym e)

  pub no_room : n < length h → {r : Refusal} → r ≡ FaceTableTooSmall → Err r ≡ built_from p n (some h)
  no_room l e = ap (λ (r : Refusal). Err r) e ∙ by_room (lt-leb (length h) n l)

  pub given : length h ≤ n → {v : ℤ} → v ≡ volume p h → Ok (hull_with (length h) v) ≡ built_from p n (some h)
  given l e = ap (λ (v : ℤ). Ok (hull_with (length h) v)) e ∙ by_room (le-leb (length h) n l)

-- with room for 2n − 4 faces the hull is never refused
pub room_enough : (cs : List ℤ) {h : List Face} → hull_of cs ≡ some h → {n : ℕ} → enough (touch_count cs) ≤ n → Ok (hull_with (length h) (volume (touch cs) h)) ≡ built_from (touch cs) n (some h)
room_enough cs {h} e {n} b = given (touch cs) n h (le_trans (hull_few (touch cs) (touch_count cs) e) b) refl

-- ---- the faces at the front of a table after the last touch
module _ {cs : List ℤ} {s : Four} (b : Begun cs s) {m : ℕ} {table : List Face} {planes : List Plane} (t : Taken cs s (touch_count cs) m table planes) where
  pub front_hull : hull_of cs ≡ some (take m table)
  front_hull = hull_some (touch cs) (touch_count cs) b.begins ∙ ap some (sym t.faces)

  pub front_count : m ≡ length (take m table)
  front_count = t.count ∙ ap length (sym t.faces)

  -- what writing them asks
  pub front_asked : Sound cs → (0 < touch_count cs) × Planed cs m table planes × (m ≤ most_faces)
  front_asked d = (hull_touched cs front_hull, t.planed, omega (arith, front_count, hull_most d front_hull))

  -- and what it gives
  pub front_builds : {old after : List ℕ} {r : Result Hull Refusal} → Builds cs (some (take m table)) old r after → Builds cs (hull_of cs) old r after
  front_builds w = rw front_hull w

-- ---- a list that passed but whose touches are flat
pub flat_built : (cs l : List ℤ) (old : List ℕ) → checked cs ≡ Ok l → None ≡ started_of (start (touch l) (touch_count l)) → Err AllTouchesOnOnePlane ≡ built cs old
flat_built cs l old a e =
    let f : hull_of cs ≡ none = hull_flat cs refl (rw (accepted_sound cs l a).same at e) in
    rw (a, f) refl
