use mathlib.Core.Path.{◌∙◌, ap}
use mathlib.Core.List.{List}
use lib.ListN.{get_or}
use Rattle.touches.specs.declared.Point.{Point}
use Rattle.volume.specs.Volume.{Vol}
use Rattle.rules.specs.Faces.{face_vol}
use Rattle.points.proofs.NumberLaws.{back, back_small}
use Rattle.hull.proofs.face.face_volume.Goals as goal

pub returns : goal.returns
unfolding face_vol
returns c =
    let v = c.volume.ensures in
    let at = λ (l : List Point). Vol (get_or l 0 c.index-corners-0.result) (get_or l 1 c.index-corners-1.result) (get_or l 2 c.index-corners-2.result) c.args.q in
    record { is = back tt v ∙ ap at c.corners.ensures; small = back_small tt v }
