use mathlib.Core.Path.{◌≡◌, ◌∙◌, ap₂}
use mathlib.Core.Bool.{Bool, ◌&&◌}
use lib.IntN.{ℤ}
use Rattle.laws.specs.Numbers.{Within}
use Rattle.touches.specs.Limits.{reach}
use Rattle.volume.specs.Triangle.{between, on_segment}
use Rattle.points.proofs.NumberLaws.{rd, passed}
use Rattle.triangles.proofs.on_segment.Goals as goal

-- along one axis
along : {x y z t : ℤ} {b : Bool} → Within reach x → Within reach y → Within reach z → Within reach t → b ≡ between (rd x) (rd y) (rd z) (rd t) → b ≡ between x y z t
along x y z t e = e ∙ (λ i. between (passed tt x i) (passed tt y i) (passed tt z i) (passed tt t i))

pub returns : goal.returns
unfolding on_segment
returns c =
    let a = c.a.invariant in
    let b = c.b.invariant in
    let d = c.c.invariant in
    let q = c.q.invariant in
    let lines = ap₂ ◌&&◌ (ap₂ ◌&&◌ c.in_line.ensures c.in_line-2.ensures) c.in_line-3.ensures in
    let x = along a.x b.x d.x q.x c.between.ensures ∙ (λ i. between (c.a.view_is i).x (c.b.view_is i).x (c.c.view_is i).x (c.q.view_is i).x) in
    let y = along a.y b.y d.y q.y c.between-2.ensures ∙ (λ i. between (c.a.view_is i).y (c.b.view_is i).y (c.c.view_is i).y (c.q.view_is i).y) in
    let z = along a.z b.z d.z q.z c.between-3.ensures ∙ (λ i. between (c.a.view_is i).z (c.b.view_is i).z (c.c.view_is i).z (c.q.view_is i).z) in
    ap₂ ◌&&◌ (ap₂ ◌&&◌ (ap₂ ◌&&◌ lines x) y) z
