use mathlib.Core.Path.{◌∙◌, ap₂}
use mathlib.Core.Bool.{◌&&◌}
use Rattle.volume.specs.SameWay.{same_way}
use Rattle.volume.proofs.SameWayLaws.{in_triangle_is}
use Rattle.triangles.proofs.in_triangle.Goals as goal

pub returns : goal.returns
returns c =
    let n = c.normal-n.ensures.is in
    let ab = c.same_way.ensures ∙ ap₂ same_way n c.normal.ensures.is in
    let bc = c.same_way-2.ensures ∙ ap₂ same_way n c.normal-2.ensures.is in
    let ca = c.same_way-3.ensures ∙ ap₂ same_way n c.normal-3.ensures.is in
    ap₂ ◌&&◌ (ap₂ ◌&&◌ ab bc) ca ∙ in_triangle_is c.args.a c.args.b c.args.c c.args.q c.requires
