use Rattle.std.proofs.Common.{sym, append-nil, rules}
use Rattle.lister.proofs.FaceLaws.{lines_none, lines_next}
use Rattle.lister.proofs.put_faces.Goals as goal

pub loop-f-init : goal.loop-f-init
loop-f-init c = (search rules, rw lines_none (sym (append-nil c.args.lines.now)))

pub loop-f-preserved : goal.loop-f-preserved
loop-f-preserved c =
    let l = c.loop-f in
    (search rules, lines_next c.args.lines.now c.args.faces.now l.f-index (search rules) c.corners.ensures l.invariant.1 c.put_face.ensures.put)
