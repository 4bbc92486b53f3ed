use mathlib.Core.Path.{◌∙◌}
use Prim.Native.Nat.{◌+◌, ◌*◌}
use lib.IntN.{ℤ, ◌-ℤ◌, ◌*ℤ◌}
use mir.Syntax.{w64}
use Rattle.laws.specs.Numbers.{Within}
use Rattle.laws.proofs.Words.{Reads, r_i64, r_mul, r_sub, fits, stored, size}
use Rattle.touches.specs.Limits.{reach}
use Rattle.volume.specs.Volume.{most_normal, most_volume}
use Rattle.points.specs.Whole.{Plane, PlaneNear}
use Rattle.points.proofs.NumberLaws.{rd}
use Rattle.plumb.specs.Held.{most_rest}
use Rattle.plumb.specs.Bounds.{rest_at}
use Rattle.plumb.proofs.bounds.rest.Goals as goal

part : {p q : ℤ} → Within most_normal p → Within reach q → Reads (most_normal * reach) (rd p *ℤ rd q) (p *ℤ q)
part p q = r_mul (r_i64 tt p) (r_i64 tt q)

-- the two differences, one after the other
module _ {w : Plane} {x y : ℤ} (h : PlaneNear w) (hx : Within reach x) (hy : Within reach y) where
  one : Reads (most_volume + most_normal * reach) (rd w.offset -ℤ rd (rd w.normal.x *ℤ rd x)) (w.offset -ℤ w.normal.x *ℤ x)
  one = r_sub (r_i64 tt h.offset) (stored w64 (part h.normal.x hx) tt)

  two : Reads most_rest (rd (rd w.offset -ℤ rd (rd w.normal.x *ℤ rd x)) -ℤ rd (rd w.normal.y *ℤ rd y)) (rest_at w x y)
  two = r_sub (stored w64 one tt) (stored w64 (part h.normal.y hy) tt)

pub overflow_sub-result : goal.overflow_sub-result
overflow_sub-result c = fits w64 (one c.p.invariant c.q.invariant.x c.q.invariant.y) tt

pub overflow_mul-result-2 : goal.overflow_mul-result-2
overflow_mul-result-2 c = fits w64 (part c.p.invariant.normal.y c.q.invariant.y) tt

pub overflow_sub-result-2 : goal.overflow_sub-result-2
overflow_sub-result-2 c = fits w64 (two c.p.invariant c.q.invariant.x c.q.invariant.y) tt

pub returns : goal.returns
returns c =
    let r = stored w64 (two c.p.invariant c.q.invariant.x c.q.invariant.y) tt in
    record { is = r.is ∙ (λ i. rest_at (c.p.view_is i) (c.q.view_is i).x (c.q.view_is i).y); small = size r }
