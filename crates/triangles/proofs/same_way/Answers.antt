use mathlib.Core.Path.{◌≡◌, ◌∙◌, ap, ap₂}
use mathlib.Core.Bool.{Bool, not, ◌&&◌}
use lib.IntN.{ℤ}
use Rattle.laws.specs.Numbers.{Within}
use Rattle.volume.specs.Volume.{most_normal}
use Rattle.volume.specs.SameWay.{opposed, same_way}
use Rattle.points.proofs.NumberLaws.{rd, passed}
use Rattle.triangles.proofs.same_way.Goals as goal

-- along one axis
along : {n m : ℤ} {b : Bool} → Within most_normal n → Within most_normal m → b ≡ opposed (rd n) (rd m) → not b ≡ not (opposed n m)
along h k e = ap not (e ∙ ap₂ opposed (passed tt h) (passed tt k))

pub returns : goal.returns
unfolding same_way
returns c =
    let h = c.requires in
    let x = along h.0.x h.1.x c.opposed.ensures in
    let y = along h.0.y h.1.y c.opposed-2.ensures in
    let z = along h.0.z h.1.z c.opposed-3.ensures in
    ap₂ ◌&&◌ (ap₂ ◌&&◌ x y) z
