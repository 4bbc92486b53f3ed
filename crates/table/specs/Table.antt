-- 01 'Numbers': how a lent table holds faces. Only this file and the constant of the code say how many numbers a face takes there.
use Rattle.std.specs.Prelude.{Bool, not, ◌&&◌, List, [], ◌∷◌, ◌++◌, map, ℕ, ◌+◌, ◌*◌, ◌/◌, ◌%◌, eqb, leb, ltb, length, take, get_or}
use Rattle.laws.specs.Lists.{every, upward, lay}
use Rattle.touches.specs.Limits.{most_faces}
use Rattle.touches.specs.Check.{pick}
use Rattle.rules.specs.Faces.{Face, corner}

abbrev pub stride : ℕ
stride = 3

-- how many faces there is room for
abbrev pub room : List ℕ → ℕ
room t = length t / stride

-- the numbers of one face, and of a face list
abbrev pub numbers : Face → List ℕ
numbers f = corner f 0 ∷ corner f 1 ∷ corner f 2 ∷ []

abbrev pub lent : List Face → List ℕ
lent [] = []
lent (f ∷ h) = numbers f ++ lent h

-- the part of a table that holds its first n faces
abbrev pub first_faces : ℕ → List ℕ → List ℕ
first_faces n t = take (n * stride) t

-- face number i of a table, and all its faces
abbrev pub face_at : List ℕ → ℕ → Face
face_at t i = get_or t (i * stride) 0 ∷ get_or t (i * stride + 1) 0 ∷ get_or t (i * stride + 2) 0 ∷ []

unfoldable pub faces_in : List ℕ → List Face
faces_in t = map (face_at t) (upward 0 (room t))

-- the table once the faces h were put over its first part; as it was where they have no room
abbrev pub put_over : List Face → List ℕ → List ℕ
put_over h old = pick (leb (length h) (room old)) (lay 0 (lent h) old) old

-- each corner is one of n touches
abbrev pub among : ℕ → Face → Bool
among n f = ltb (corner f 0) n && ltb (corner f 1) n && ltb (corner f 2) n

-- what refusal 6 asks of a table: not empty, only whole faces, not too many, each over the n touches
unfoldable pub usable : ℕ → List ℕ → Bool
usable n t = not (eqb (length t) 0) && eqb (length t % stride) 0 && leb (room t) most_faces && every (among n) (faces_in t)
