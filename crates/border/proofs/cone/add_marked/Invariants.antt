-- The loops' invariants: the cone over the sides of the visible faces so far is laid, and over the sides so far of one face.
use Rattle.std.proofs.Math.ListN.{take}
use Rattle.laws.specs.Lists.{Laid}
use Rattle.border.specs.Cone.{cone_on, cone_over}
use Rattle.border.specs.Marks.{unmarked}
use Rattle.border.proofs.cone.add_marked.Given as goal

abbrev pub invariant-loop-f : goal.invariant-loop-f
invariant-loop-f l = Laid l.start (cone_on (unmarked l.marks.table.now l.marks.width l.k.touch.0) l.k.touch.0 (take l.f-index l.seen)) l.initial.table l.at l.table

abbrev pub invariant-loop-s : goal.invariant-loop-s
invariant-loop-s l = Laid l.initial.at (cone_over (unmarked l.marks.table.now l.marks.width l.k.touch.0) l.k.touch.0 (take l.s-index l.s-items)) l.initial.table l.at l.table
