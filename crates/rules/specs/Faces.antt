-- 01 'Numbers' and 'Building': faces, their directed sides, and which faces a point is in front of.
use Rattle.std.specs.Prelude.{Bool, not, ◌&&◌, List, [], ◌∷◌, ◌++◌, ℕ, eqb, ℤ, pos, get_or}
use Rattle.std.specs.Int.Signed.{lt_z}
use Rattle.laws.specs.Lists.{keep, has}
use Rattle.touches.specs.declared.Point.{Point}
use Rattle.volume.specs.Volume.{Vol}

-- a face is three touch numbers, as the code holds them in an array
abbrev pub Face : Type 0
Face = List ℕ

abbrev pub corner : Face → ℕ → ℕ
corner f i = get_or f i 0

-- where the touches are, by their numbers
abbrev pub Places : Type 0
Places = ℕ → Point

-- V(face, q)
unfoldable pub face_vol : Places → Face → Point → ℤ
face_vol p f q = Vol (p (corner f 0)) (p (corner f 1)) (p (corner f 2)) q

-- touch k is strictly in front of face f; edge-on does not count
unfoldable pub visible : Places → ℕ → Face → Bool
visible p k f = lt_z (face_vol p f (p k)) (pos 0)

pub record Side : Type 0 where
  pub from : ℕ
  pub to : ℕ

abbrev pub side : ℕ → ℕ → Side
side a b = record { from = a; to = b }

abbrev pub reversed : Side → Side
reversed s = side s.to s.from

abbrev pub same_side : Side → Side → Bool
same_side s t = eqb s.from t.from && eqb s.to t.to

-- a→b, b→c, c→a
abbrev pub sides_of : Face → List Side
sides_of f = side (corner f 0) (corner f 1) ∷ side (corner f 1) (corner f 2) ∷ side (corner f 2) (corner f 0) ∷ []

abbrev pub sides : List Face → List Side
sides [] = []
sides (f ∷ h) = sides_of f ++ sides h

-- the sides of the faces v whose reverse is no side of one of them, face by face and side by side
abbrev pub border : List Face → List Side
border v = keep (λ s. not (has same_side (reversed s) (sides v))) (sides v)
