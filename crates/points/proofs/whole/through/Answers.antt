use mathlib.Core.Path.{ap₂, ◌∙◌}
use Rattle.volume.specs.Volume.{dot, offset}
use Rattle.points.proofs.NumberLaws.{back}
use Rattle.points.proofs.whole.through.Goals as goal

pub returns : goal.returns
unfolding offset
returns c =
    let n = c.normal-n.ensures in
    let o = back tt c.dot-offset.ensures ∙ ap₂ dot n.is c.from.ensures.is in
    λ i. record { normal = n.is i; offset = o i }
