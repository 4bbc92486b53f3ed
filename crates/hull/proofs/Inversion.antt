-- From an accepted build back to the list, the hull of the rules and the table.
use Rattle.touches.specs.declared.refusal.Refusal.{Refusal}
use Rattle.std.specs.Prelude.{Result, Ok, Err}
use mathlib.Core.Path.{◌≡◌, refl, sym, ap, ◌∙◌}
use mathlib.Core.Bool.{Bool, true, false}
use mathlib.Core.List.{List}
use mathlib.Core.Option.{Option, none, some}
use Prim.Native.Nat.{ℕ, ◌≤◌}
use borrow.Author.Tests.{leb-true}
use lib.Dec.{leb}
use lib.IntN.{ℤ}
use lib.ListN.{length}
use Rattle.laws.specs.Lists.{lay}
use Rattle.touches.specs.declared.refusal.Refusal.TheVariants.{FaceTableTooSmall}
use Rattle.touches.specs.Touches.{touch, Sound}
use Rattle.touches.specs.Check.{pick, checked, if_accepted}
use Rattle.touches.proofs.SoundLaws.{accepted_sound}
use Rattle.rules.specs.Faces.{Face}
use Rattle.rules.specs.Building.{volume}
use Rattle.table.specs.Table.{room, lent, first_faces}
use Rattle.table.proofs.LentLaws.{part_laid}
use Rattle.hull.specs.declared.build.Hull.{Hull}
use Rattle.hull.specs.Build.{hull_of, hull_with, built_from, built, table_after}

-- building cs into the table old gave n faces and the volume v, and h is the hull
pub record Inverted (cs : List ℤ) (old : List ℕ) (n : ℕ) (v : ℤ) (h : List Face) : Type 0 where
  pub answer : built cs old ≡ Ok (hull_with n v)
  pub sound : Sound cs
  pub is : hull_of cs ≡ some h
  pub count : n ≡ length h
  pub sum : v ≡ volume (touch cs) h
  pub fits : length h ≤ room old
  pub table : table_after (built cs old) (hull_of cs) old ≡ lay 0 (lent h) old
  pub part : first_faces n (table_after (built cs old) (hull_of cs) old) ≡ lent h

pub inverted : (cs : List ℤ) (old : List ℕ) {n : ℕ} {v : ℤ} → built cs old ≡ Ok (hull_with n v) → (h : List Face) × Inverted cs old n v h
inverted cs old {n} {v} e = list (checked cs) refl e
  where
    fits : Sound cs → (h : List Face) → hull_of cs ≡ some h → (b : Bool) → leb (length h) (room old) ≡ b → pick b (Ok (hull_with (length h) (volume (touch cs) h))) (Err FaceTableTooSmall) ≡ Ok (hull_with n v) → (h : List Face) × Inverted cs old n v h
    fits d h i true r f =
        let u : hull_with (length h) (volume (touch cs) h) ≡ hull_with n v = cc in
        let c : n ≡ length h = ap (λ (u : Hull). u.faces) (sym u) in
        let t : table_after (built cs old) (hull_of cs) old ≡ lay 0 (lent h) old = λ j. table_after (e j) (i j) old in
        (h, record { answer = e; sound = d; is = i; count = c; sum = ap (λ (u : Hull). u.volume) (sym u); fits = leb-true (length h) (room old) r; table = t; part = (λ j. first_faces (c j) (t j)) ∙ part_laid h old })
    fits d h i false r f = cc

    hull : Sound cs → (o : Option (List Face)) → hull_of cs ≡ o → built_from (touch cs) (room old) o ≡ Ok (hull_with n v) → (h : List Face) × Inverted cs old n v h
    hull d none i f = cc
    hull d (some h) i f = fits d h i (leb (length h) (room old)) refl f

    list : (k : Result (List ℤ) Refusal) → checked cs ≡ k → if_accepted k (built_from (touch cs) (room old) (hull_of cs)) ≡ Ok (hull_with n v) → (h : List Face) × Inverted cs old n v h
    list (Ok l) g f = hull (accepted_sound cs l g).sound (hull_of cs) refl f
    list (Err r) g f = cc
