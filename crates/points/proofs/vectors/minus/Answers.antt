use mathlib.Core.Path.{ap₂, ◌∙◌}
use lib.IntN.{ℤ, ◌-ℤ◌}
use mir.Syntax.{w64}
use Rattle.laws.specs.Numbers.{Within}
use Rattle.laws.proofs.Words.{Reads, r_i64, r_sub, stored, size}
use Rattle.touches.specs.Limits.{reach}
use Rattle.volume.specs.Volume.{most_gap, minus}
use Rattle.points.proofs.NumberLaws.{rd}
use Rattle.points.proofs.vectors.minus.Goals as goal

gap : {p a : ℤ} → Within reach p → Within reach a → Reads most_gap (rd p -ℤ rd a) (p -ℤ a)
gap p a = r_sub (r_i64 tt p) (r_i64 tt a)

pub returns : goal.returns
returns c =
    let p = c.p.invariant in
    let a = c.a.invariant in
    let x = stored w64 (gap p.x a.x) tt in
    let y = stored w64 (gap p.y a.y) tt in
    let z = stored w64 (gap p.z a.z) tt in
    record { is = (λ i. record { x = x.is i; y = y.is i; z = z.is i }) ∙ ap₂ minus c.p.view_is c.a.view_is; small = record { x = size x; y = size y; z = size z } }
