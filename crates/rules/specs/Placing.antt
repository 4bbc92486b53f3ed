-- 01 'Where a place lies', 02 A5 and A7: outside, on, inside or astray, for any face list.
use Rattle.std.specs.Prelude.{Bool, ◌&&◌, cond, List, ℕ, ℤ, pos, neg_ℤ}
use Rattle.std.proofs.Math.Option.{Option, none, some}
use Rattle.std.specs.Int.Signed.{lt_z}
use Rattle.laws.specs.Lists.{first_from, Least, least_from}
use Rattle.touches.specs.declared.Point.{Point}
use Rattle.volume.specs.Volume.{is_zero}
use Rattle.volume.specs.Triangle.{contains}
use Rattle.rules.specs.Faces.{Face, Places, corner, face_vol}

-- outside with the worst face and minus its V; astray: on the plane of a face, and in no triangle on whose plane it lies (refusal 17)
pub data Lies : Type 0 where
  outside : ℕ → ℤ → Lies
  on : ℕ → Lies
  inside : Lies
  astray : Lies

-- the worst face: the one with the least V, the first of equals
unfoldable pub worst : Places → List Face → Point → Option Least
worst p h q = least_from (λ f. face_vol p f q) 0 h

-- the plane of face f holds q, and its triangle contains it, border included
unfoldable pub holds : Places → Face → Point → Bool
holds p f q = is_zero (face_vol p f q) && contains (p (corner f 0)) (p (corner f 1)) (p (corner f 2)) q

-- the first face that holds q, and the first whose plane does
unfoldable pub first_holding : Places → List Face → Point → Option ℕ
first_holding p h q = first_from (λ f. holds p f q) 0 h

unfoldable pub first_plane : Places → List Face → Point → Option ℕ
first_plane p h q = first_from (λ f. is_zero (face_vol p f q)) 0 h

abbrev pub not_outside : Option ℕ → Option ℕ → Lies
not_outside (some f) e = on f
not_outside none (some f) = astray
not_outside none none = inside

-- outside if q is in front of the worst face
abbrev pub by_worst : Option Least → Lies → Lies
by_worst none l = l
by_worst (some w) l = cond (lt_z w.value (pos 0)) (outside w.place (neg_ℤ w.value)) l

unfoldable pub lies : Places → List Face → Point → Lies
lies p h q = by_worst (worst p h q) (not_outside (first_holding p h q) (first_plane p h q))
