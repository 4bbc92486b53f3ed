-- 01 'Building', 3 and 4: one step, the hull, and its volume.
use Rattle.std.specs.Prelude.{not, List, [], ◌∷◌, ◌++◌, map, ℕ, ℤ}
use Rattle.std.proofs.Math.Option.{Option, some}
use Rattle.laws.specs.Lists.{keep, upward, sum_z}
use Rattle.rules.specs.Faces.{Face, Places, Side, face_vol, visible, border}
use Rattle.rules.specs.Start.{Start, then, start, corners, start_faces, is_start}

-- the new face (a,b,k) on a side a→b of the border
abbrev pub cone : ℕ → Side → Face
cone k s = s.from ∷ s.to ∷ k ∷ []

unfoldable pub seen : Places → List Face → ℕ → List Face
seen p h k = keep (visible p k) h

unfoldable pub unseen : Places → List Face → ℕ → List Face
unseen p h k = keep (λ f. not (visible p k f)) h

-- the faces not visible from k, in their old order; then the cone over the border of the visible ones
unfoldable pub step : Places → List Face → ℕ → List Face
step p h k = unseen p h k ++ map (cone k) (border (seen p h k))

-- the touches ks taken one after another
unfoldable pub build : Places → List Face → List ℕ → List Face
build p h [] = h
build p h (k ∷ ks) = build p (step p h k) ks

-- the faces after the start and the touches ks
abbrev pub after : Places → Start → List ℕ → List Face
after p s ks = build p (start_faces (corners p s)) ks

-- every touch that is not of the start, by rising number
abbrev pub others : Start → ℕ → List ℕ
others s n = keep (λ k. not (is_start s k)) (upward 0 n)

-- the face list of the first n touches; none where they are flat
unfoldable pub hull : Places → ℕ → Option (List Face)
hull p n = then (start p n) (λ s. some (after p s (others s n)))

-- six times the true volume: the sum of V(face, touch 0)
unfoldable pub volume : Places → List Face → ℤ
volume p h = sum_z (λ f. face_vol p f (p 0)) h
