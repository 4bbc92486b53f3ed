-- The loop's invariant: the planes of the first i faces are put.
use Rattle.std.proofs.Common.{◌≡◌, length}
use Rattle.hull.specs.Whole.{Planed}
use Rattle.hull.proofs.step.Work.put_planes.Given as goal

abbrev pub invariant-loop-i : goal.invariant-loop-i
invariant-loop-i l = record {
  table : l.self.table.now ≡ l.initial.self.table.now;
  seen_long : length l.self.seen.now ≡ length l.initial.self.seen.now;
  planes_long : length l.self.planes.now ≡ length l.initial.self.planes.now;
  marks : l.self.marks ≡ l.initial.self.marks;
  count : l.self.count ≡ l.initial.self.count;
  planed : Planed l.list.lent.now l.i l.self.table.now l.self.planes.now;
}
