use Rattle.plumb.proofs.BoundsLaws.{Read}
use Rattle.plumb.proofs.bounds.tightest.Given as goal

abbrev pub invariant-loop-f : goal.invariant-loop-f
invariant-loop-f l = Read l.list.lent.now l.faces l.q.x l.q.y l.f-index l.b
