use mathlib.Core.List.{[]}
use native.Mathlib.Omega.{arith}
use Rattle.laws.proofs.Tables.{laid_none, laid_next}
use Rattle.rules.specs.Start.{start_faces}
use Rattle.hull.proofs.StartLaws.{start_face_is}
use Rattle.hull.proofs.start.put_start.Goals as goal

pub loop-i-init : goal.loop-i-init
loop-i-init c = laid_none 0 _

pub loop-i-preserved : goal.loop-i-preserved
loop-i-preserved c =
    let a = c.corners-abcd.result in
    laid_next (start_faces a) [] (start_face_is a c.loop-i.i (omega arith)) (omega arith) (omega arith) c.loop-i.invariant
