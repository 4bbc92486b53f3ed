-- The loop's invariant: the first i faces are parted.
use Rattle.std.proofs.Common.{◌≡◌, ◌≤◌, length}
use Rattle.hull.proofs.PartLaws.{Parting}
use Rattle.hull.proofs.step.Work.part.Given as goal

abbrev pub invariant-loop-i : goal.invariant-loop-i
invariant-loop-i l = record {
  kept : l.m ≤ l.i;
  visible : l.s ≤ l.i;
  table_long : length l.self.table.now ≡ length l.initial.self.table.now;
  planes_long : length l.self.planes.now ≡ length l.initial.self.planes.now;
  seen_long : length l.self.seen.now ≡ length l.initial.self.seen.now;
  marks : l.self.marks ≡ l.initial.self.marks;
  parting : Parting l.list.lent.now l.q l.n l.initial.self.table.now l.self.table.now l.self.seen.now l.self.planes.now l.m l.s l.i;
}
