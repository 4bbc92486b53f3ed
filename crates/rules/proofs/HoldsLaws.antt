-- A face holds a place exactly if the place is a mixture of the face's corners.
use mathlib.Core.Logic.{◌↔◌}
use lib.Dec.{T}
use lib.IntN.{pos}
use Rattle.laws.proofs.Tests.{and_both, both_and}
use Rattle.laws.proofs.Order.{eq_z→eq}
use Rattle.touches.specs.declared.Point.{Point}
use Rattle.volume.specs.Volume.{Vol, is_zero}
use Rattle.volume.specs.Triangle.{contains, Mixture}
use Rattle.volume.proofs.TriangleLaws.{mixture_plane}
use Rattle.volume.proofs.ContainsLaws.{contains_exact}
use Rattle.rules.specs.Faces.{Face, Places, corner, face_vol}
use Rattle.rules.specs.Placing.{holds}

pub holds_exact : (p : Places) (f : Face) (q : Point) → T (holds p f q) ↔ Mixture (p (corner f 0)) (p (corner f 1)) (p (corner f 2)) q
unfolding holds face_vol
holds_exact p f q = (
  (λ t. let u = and_both (is_zero (Vol a b c q)) (contains a b c q) t in (contains_exact a b c q (eq_z→eq (Vol a b c q) (pos 0) u.0)).0 u.1),
  (λ m. both_and (is_zero (Vol a b c q)) (contains a b c q) (rw (mixture_plane m) tt) ((contains_exact a b c q (mixture_plane m)).1 m)),
)
  where
    a : Point
    a = p (corner f 0)

    b : Point
    b = p (corner f 1)

    c : Point
    c = p (corner f 2)
