use Rattle.std.proofs.Common.{ap, ap₂, ◌∙◌}
use lib.IntN.{ℤ, ◌-ℤ◌}
use mir.Syntax.{w64}
use Rattle.laws.proofs.Words.{r_i64, r_sub, fits, stored, size}
use Rattle.hull.specs.Whole.{read_at}
use Rattle.hull.proofs.whole.read.Goals as goal

pub overflow_sub-result : goal.overflow_sub-result
overflow_sub-result c = fits w64 (r_sub (r_i64 tt c.p.invariant.offset) (r_i64 tt c.dot.ensures.small)) tt

pub returns : goal.returns
returns c =
    let r = stored w64 (r_sub (r_i64 tt c.p.invariant.offset) (r_i64 tt c.dot.ensures.small)) tt in
    record { is = r.is ∙ ap (λ (z : ℤ). c.p.inside.offset -ℤ z) c.dot.ensures.is ∙ ap₂ read_at c.p.view_is c.from.ensures.is; small = size r }
