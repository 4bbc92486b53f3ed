-- The text for what the building call gave.
use Rattle.std.specs.Prelude.{Result, Ok, Err}
use mathlib.Core.Path.{◌≡◌, refl, sym, ap, ◌∙◌}
use mathlib.Core.List.{List, ◌++◌}
use mathlib.Core.Option.{Option, none, some}
use Prim.Native.Nat.{ℕ}
use native.Mathlib.Omega.{arith}
use lib.IntN.{ℤ}
use lib.ListN.{take}
use Rattle.laws.specs.Lists.{lay}
use Rattle.touches.specs.Limits.{most_touches, most_faces}
use Rattle.touches.specs.Touches.{touch, Sound}
use Rattle.touches.specs.Check.{checked, if_accepted}
use Rattle.touches.specs.declared.refusal.Refusal.{Refusal}
use Rattle.touches.proofs.SoundLaws.{accepted_sound}
use Rattle.rules.specs.Faces.{Face}
use Rattle.rules.proofs.Theorems.{accepted_few}
use Rattle.cover.specs.Room.{enough}
use Rattle.table.specs.Table.{room, lent, faces_in}
use Rattle.hull.specs.Build.{hull_of, built_from, built, table_after}
use Rattle.hull.specs.declared.build.Hull.{Hull}
use Rattle.hull.proofs.BuildLaws.{room_enough}
use Rattle.hull.proofs.Inversion.{Inverted, inverted}
use Rattle.lister.specs.Listing.{refused_line, hull_line, face_lines, answer, faces_of, built_text, hull_text}
use Rattle.lister.proofs.FaceLaws.{lines_after}

-- which answers as one with room for 1,344
as_with_most : (cs : List ℤ) (n : ℕ) → n ≡ enough most_touches → if_accepted (checked cs) (built_from (touch cs) n (hull_of cs)) ≡ answer cs
as_with_most cs n w = list (checked cs) refl
  where
    hull : Sound cs → (o : Option (List Face)) → hull_of cs ≡ o → built_from (touch cs) n o ≡ built_from (touch cs) most_faces o
    hull d none e = refl
    hull d (some h) e = sym (room_enough cs e (omega (arith, w, accepted_few d))) ∙ room_enough cs e (omega (arith, accepted_few d))

    list : (c : Result (List ℤ) Refusal) → checked cs ≡ c → if_accepted c (built_from (touch cs) n (hull_of cs)) ≡ if_accepted c (built_from (touch cs) most_faces (hull_of cs))
    list (Ok l) e = hull (accepted_sound cs l e).sound (hull_of cs) refl
    list (Err r) e = refl

-- what the building call promises of a table with room for every hull
module _ (cs : List ℤ) (old : List ℕ) {a : Result Hull Refusal} {after : List ℕ} (answered : a ≡ built cs old) (table : after ≡ table_after a (hull_of cs) old) (wide : room old ≡ enough most_touches) where
  text_of : {b : Result Hull Refusal} → a ≡ b → hull_text cs ≡ built_text b (faces_of (hull_of cs))
  unfolding hull_text
  text_of f = ap (λ (c : Result Hull Refusal). built_text c (faces_of (hull_of cs))) (sym (answered ∙ as_with_most cs (room old) wide) ∙ f)

  pub refused_text : {x : Refusal} → a ≡ Err x → hull_text cs ≡ refused_line x
  refused_text f = text_of f

  module _ {u : Hull} (f : a ≡ Ok u) where
    abbrev faces : List Face
    faces = (inverted cs old (sym answered ∙ f)).0

    i : Inverted cs old u.faces u.volume faces
    i = (inverted cs old (sym answered ∙ f)).1

    after_is : after ≡ lay 0 (lent faces) old
    after_is = table ∙ ap (λ (b : Result Hull Refusal). table_after b (hull_of cs) old) answered ∙ i.table

    lines : face_lines (take u.faces (faces_in after)) ≡ face_lines (faces_of (hull_of cs))
    lines = lines_after faces old i.count after_is ∙ ap (λ (o : Option (List Face)). face_lines (faces_of o)) (sym i.is)

    pub hull_text_lem : hull_text cs ≡ hull_line u.faces u.volume ++ face_lines (take u.faces (faces_in after))
    hull_text_lem = text_of f ∙ ap (λ (l : List ℕ). hull_line u.faces u.volume ++ l) (sym lines)
