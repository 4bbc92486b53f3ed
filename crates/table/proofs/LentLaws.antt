-- What is read back from a table that a face list was put into.
use mathlib.Core.Path.{◌≡◌, refl, sym, ap₂, subst, ◌∙◌}
use mathlib.Core.List.{List, [], ◌∷◌, ◌++◌, map, append-nil}
use Prim.Native.Nat.{ℕ, zero, suc, ◌+◌, ◌*◌, ◌<◌, ◌≤◌}
use native.Mathlib.Omega.{arith}
use lib.ListN.{length, take, drop, get_or, length-append, length-map}
use lib.Seq.{ext_get_or, length-take-le, get_or-take, take_all}
use Rattle.laws.specs.Lists.{In, lay}
use Rattle.laws.proofs.Members.{here, there}
use Rattle.laws.proofs.Tables.{lay_first}
use Rattle.touches.proofs.PlainLaws.{by_three}
use Rattle.rules.specs.Faces.{Face}
use Rattle.table.specs.Table.{stride, room, numbers, lent, first_faces, face_at, faces_in}
use Rattle.table.proofs.TableLaws.{length_faces, face_at_lem}

pub length_lent : (h : List Face) → length (lent h) ≡ length h * stride
length_lent [] = refl
length_lent (f ∷ h) = omega (arith, length_lent h)

-- ---- the faces at the front of a table
at_lent : (h : List Face) (rest : List ℕ) (i : ℕ) → i < length h → face_at (lent h ++ rest) i ≡ numbers (get_or h i [])
at_lent [] rest i k = absurd (omega arith)
at_lent (f ∷ h) rest zero k = refl
at_lent (f ∷ h) rest (suc i) k =
    let a : suc i * stride ≡ suc (suc (suc (i * stride))) = omega arith in
    let b : suc (suc (suc (i * stride))) + 1 ≡ suc (suc (suc (i * stride + 1))) = omega arith in
    let c : suc (suc (suc (i * stride))) + 2 ≡ suc (suc (suc (i * stride + 2))) = omega arith in
    rw (a, b, c) (at_lent h rest i (omega arith))

at_numbers : (h : List Face) (i : ℕ) → i < length h → get_or (map numbers h) i [] ≡ numbers (get_or h i [])
at_numbers [] i k = absurd (omega arith)
at_numbers (f ∷ h) zero k = refl
at_numbers (f ∷ h) (suc i) k = at_numbers h i (omega arith)

module _ (h : List Face) (rest : List ℕ) where
  room_front : length h ≤ room (lent h ++ rest)
  room_front = omega (arith, length_lent h, length-append (lent h) rest)

  faces_front : take (length h) (faces_in (lent h ++ rest)) ≡ map numbers h
  faces_front =
      let t = lent h ++ rest in
      let n : length (take (length h) (faces_in t)) ≡ length h = length-take-le (length h) (faces_in t) (omega (arith, room_front, length_faces t)) in
      ext_get_or [] (take (length h) (faces_in t)) (map numbers h) (n ∙ sym (length-map h numbers)) (λ i k. go i (omega arith))
    where
      go : (i : ℕ) → i < length h → get_or (take (length h) (faces_in (lent h ++ rest))) i [] ≡ get_or (map numbers h) i []
      go i k =
          let t = lent h ++ rest in
          get_or-take (length h) (faces_in t) i [] k ∙ face_at_lem t i (omega (arith, room_front)) ∙ at_lent h rest i k ∙ sym (at_numbers h i k)

-- ---- a face list laid into a table
module _ (h : List Face) (old : List ℕ) where
  pub room_laid : length h ≤ room (lay 0 (lent h) old)
  unfolding lay
  room_laid = room_front h (drop (0 + length (lent h)) old)

  pub faces_laid : take (length h) (faces_in (lay 0 (lent h) old)) ≡ map numbers h
  unfolding lay
  faces_laid = faces_front h (drop (0 + length (lent h)) old)

  -- the part that holds it
  pub part_laid : first_faces (length h) (lay 0 (lent h) old) ≡ lent h
  part_laid = rw (← length_lent h) (lay_first (lent h) old)

-- ---- faces of three numbers come back as they were
all_numbers : (h : List Face) → ((f : Face) → In f h → length f ≡ 3) → map numbers h ≡ h
all_numbers [] t = refl
all_numbers (f ∷ h) t = ap₂ (λ (g : Face) (l : List Face). g ∷ l) (by_three f (t f (here refl))) (all_numbers h (λ g m. t g (there m)))

pub lent_back : (h : List Face) → ((f : Face) → In f h → length f ≡ 3) → faces_in (lent h) ≡ h
lent_back h t =
    let n : length (faces_in (lent h)) ≤ length h = omega (arith, length_faces (lent h), length_lent h) in
    sym (take_all (length h) (faces_in (lent h)) n) ∙ subst (λ (l : List ℕ). take (length h) (faces_in l) ≡ map numbers h) (append-nil (lent h)) (faces_front h []) ∙ all_numbers h t
