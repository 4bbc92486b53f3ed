-- The loop's invariant: the faces whose planes came before are summed.
use Rattle.std.proofs.Common.{take, ◌*◌}
use Rattle.laws.proofs.Words.{Reads}
use Rattle.touches.specs.Touches.{touch}
use Rattle.hull.proofs.SumLaws.{most_read, so_far}
use Rattle.hull.proofs.build.six_volume.Given as goal

abbrev pub invariant-loop-p : goal.invariant-loop-p
invariant-loop-p l = Reads (l.p-index * most_read) l.sum (so_far (touch l.list.lent.now) l.q (take l.work.count l.work.table.now) l.p-index)
