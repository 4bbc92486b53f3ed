use mathlib.Core.Path.{◌∙◌, ap₂}
use Rattle.volume.specs.Volume.{cross, normal}
use Rattle.points.proofs.vectors.normal.Goals as goal

pub returns : goal.returns
unfolding normal
returns c =
    let n = c.cross.ensures in
    record { is = n.is ∙ ap₂ cross c.minus.ensures.is c.minus-2.ensures.is; small = n.small }
