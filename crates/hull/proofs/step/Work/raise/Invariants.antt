-- The loop's invariant: the touches below k are taken.
use Rattle.std.proofs.Common.{◌≡◌, length}
use Rattle.border.specs.Marks.{Fresh}
use Rattle.hull.specs.Start.{start_of}
use Rattle.hull.specs.Inner.{Taken}
use Rattle.hull.proofs.step.Work.raise.Given as goal

abbrev pub invariant-loop-k : goal.invariant-loop-k
invariant-loop-k l = record {
  taken : Taken l.list.lent.now (start_of l.s) l.k l.self.count l.self.table.now l.self.planes.now;
  long : length l.self.table.now ≡ length l.initial.self.table.now;
  width : l.self.marks.width ≡ l.initial.self.marks.width;
  fresh : Fresh l.k l.self.marks.table.now;
}
