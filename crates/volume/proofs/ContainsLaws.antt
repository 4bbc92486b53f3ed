-- A triangle contains a place of its plane exactly if the place is a mixture of the corners, be they in line or not.
use mathlib.Core.Path.{◌≡◌}
use mathlib.Core.Logic.{◌↔◌}
use lib.Dec.{T}
use lib.IntN.{pos}
use Rattle.laws.proofs.Tests.{by_test}
use Rattle.touches.specs.declared.Point.{Point}
use Rattle.volume.specs.Volume.{Vol, in_line}
use Rattle.volume.specs.Triangle.{in_triangle, on_segment, contains, Mixture}
use Rattle.volume.proofs.TriangleLaws.{mixture_in, in_mixture}
use Rattle.volume.proofs.SegmentLaws.{mixture_segment, segment_mixture}

pub contains_exact : (a b c q : Point) → Vol a b c q ≡ pos 0 → T (contains a b c q) ↔ Mixture a b c q
unfolding contains
contains_exact a b c q e = by_test (in_line a b c) (on_segment a b c q) (in_triangle a b c q) (λ s. T s ↔ Mixture a b c q)
    (λ l. (segment_mixture a b c q, mixture_segment a b c q l)) (λ l. (in_mixture a b c q l e, mixture_in))
