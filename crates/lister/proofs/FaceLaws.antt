-- The lines of a lent table's faces, a face a turn, and of the face list that building laid into it.
use mathlib.Core.Path.{◌≡◌, refl, sym, ap, ◌∙◌}
use mathlib.Core.List.{List, [], ◌∷◌, ◌++◌, append_assoc, append-nil, map}
use Prim.Native.Nat.{ℕ, ◌+◌, ◌<◌}
use native.Mathlib.Numerals.{add-one}
use lib.ListN.{length, take, get_or}
use lib.Seq.{take-suc}
use Rattle.laws.specs.Lists.{lay}
use Rattle.rules.specs.Faces.{Face}
use Rattle.table.specs.Table.{numbers, lent, faces_in}
use Rattle.table.proofs.LentLaws.{faces_laid}
use Rattle.lister.specs.Listing.{face_line, face_lines}

lines_append : (g h : List Face) → face_lines (g ++ h) ≡ face_lines g ++ face_lines h
unfolding face_lines
lines_append [] h = refl
lines_append (f ∷ g) h = ap (λ (t : List ℕ). face_line f ++ t) (lines_append g h) ∙ sym (append_assoc (face_line f) (face_lines g) (face_lines h))

pub lines_none : face_lines [] ≡ []
unfolding face_lines
lines_none = refl

lines_one : (f : Face) → face_lines (f ∷ []) ≡ face_line f
unfolding face_lines
lines_one f = simp append-nil

-- the next face's line
pub lines_next : (old : List ℕ) {mid after : List ℕ} (h : List Face) (i : ℕ) {f : Face} → i < length h → f ≡ get_or h i []
    → mid ≡ old ++ face_lines (take i h) → after ≡ mid ++ face_line f → after ≡ old ++ face_lines (take (i + 1) h)
lines_next old h i {f} n e p q =
    let g = take i h in
    let line : face_lines (get_or h i [] ∷ []) ≡ face_line f = lines_one (get_or h i []) ∙ ap face_line (sym e) in
    let more : face_lines (take (i + 1) h) ≡ face_lines g ++ face_line f = rw (add-one, take-suc h i [] n, lines_append g (get_or h i [] ∷ []), line) in
    q ∙ rw (p, more) (append_assoc old (face_lines g) (face_line f))

-- ---- the faces of a table that building wrote
-- a line shows corners only
lines_numbers : (h : List Face) → face_lines (map numbers h) ≡ face_lines h
unfolding face_lines
lines_numbers [] = refl
lines_numbers (f ∷ h) = ap (λ (t : List ℕ). face_line f ++ t) (lines_numbers h)

module _ (h : List Face) (old : List ℕ) {n : ℕ} {after : List ℕ} (count : n ≡ length h) (is : after ≡ lay 0 (lent h) old) where
  pub lines_after : face_lines (take n (faces_in after)) ≡ face_lines h
  lines_after = rw (count, is) (ap face_lines (faces_laid h old) ∙ lines_numbers h)
