-- Building into a table of the call's own, with room for every hull: what it left, and that it refuses what the plumb line refuses.
use mathlib.Core.Path.{◌≡◌, refl, sym, ap, subst, ◌∙◌}
use mathlib.Core.List.{List}
use mathlib.Core.Option.{Option, none, some}
use Prim.Native.Nat.{ℕ, ◌*◌, ◌≤◌}
use native.Mathlib.Omega.{arith}
use lib.IntN.{ℤ}
use lib.ListN.{length}
use Rattle.std.specs.Prelude.{Result, Ok, Err}
use Rattle.touches.specs.declared.refusal.Refusal.{Refusal}
use Rattle.touches.specs.Limits.{most_touches}
use Rattle.touches.specs.Touches.{touch, Sound}
use Rattle.touches.specs.Check.{checked, if_accepted}
use Rattle.touches.proofs.SoundLaws.{accepted_sound}
use Rattle.rules.specs.Faces.{Face}
use Rattle.rules.proofs.Theorems.{accepted_few}
use Rattle.cover.specs.Room.{enough}
use Rattle.table.specs.Table.{stride, room, lent, first_faces}
use Rattle.table.proofs.LentLaws.{room_laid}
use Rattle.hull.specs.Build.{hull_of, built_from, built, table_after}
use Rattle.hull.specs.declared.build.Hull.{Hull}
use Rattle.hull.proofs.BuildLaws.{room_enough}
use Rattle.hull.proofs.Inversion.{inverted}
use Rattle.plumb.specs.Plumb.{plumbed_over, plumbed}

-- a refusal of building is the plumb line's
pub own_refused : (cs : List ℤ) (old : List ℕ) → enough most_touches ≤ room old → (x y : ℤ) {r : Refusal} → built cs old ≡ Err r → Err r ≡ plumbed cs x y
own_refused cs old w x y {r} e = list (checked cs) refl e
  where
    hull : Sound cs → (o : Option (List Face)) → hull_of cs ≡ o → built_from (touch cs) (room old) o ≡ Err r → Err r ≡ plumbed_over cs x y o
    hull d none i f = cc
    hull d (some h) i f = let g = room_enough cs i (omega (arith, w, accepted_few d)) ∙ f in cc

    list : (k : Result (List ℤ) Refusal) → checked cs ≡ k → if_accepted k (built_from (touch cs) (room old) (hull_of cs)) ≡ Err r → Err r ≡ if_accepted k (plumbed_over cs x y (hull_of cs))
    list (Ok l) g f = hull (accepted_sound cs l g).sound (hull_of cs) refl f
    list (Err q) g f = cc

-- the list is sound, and the table's first n faces are its hull
pub record Filled (cs : List ℤ) (n : ℕ) (t : List ℕ) : Type 0 where
  pub sound : Sound cs
  pub faces : List Face
  pub is : hull_of cs ≡ some faces
  pub part : first_faces n t ≡ lent faces
  pub count : n ≡ length faces
  pub long : n * stride ≤ length t

pub own_filled : (cs : List ℤ) (old : List ℕ) {u : Hull} → Ok u ≡ built cs old → {after : List ℕ} → after ≡ table_after (Ok u) (hull_of cs) old → Filled cs u.faces after
own_filled cs old {u} e {after} t =
    let i = inverted cs old (sym e) in
    let h = i.0 in
    let a = t ∙ ap (λ (r : Result Hull Refusal). table_after r (hull_of cs) old) e in
    let r : length h ≤ room after = subst (λ (l : List ℕ). length h ≤ room l) (sym (a ∙ i.1.table)) (room_laid h old) in
    record { sound = i.1.sound; faces = h; is = i.1.is; part = ap (first_faces u.faces) a ∙ i.1.part; count = i.1.count; long = omega (arith, i.1.count) }
