-- The loops' invariants: marking the sides that are left leaves the table that marking all would.
use Rattle.std.proofs.Common.{◌≡◌}
use Rattle.std.proofs.Math.ListN.{drop}
use Rattle.rules.specs.Faces.{sides}
use Rattle.border.specs.Marks.{mark_sides}
use Rattle.border.proofs.marks.Marks.mark_all.Given as goal

abbrev pub invariant-loop-f : goal.invariant-loop-f
invariant-loop-f l =
    (l.self.width ≡ l.initial.self.width) × (l.self.table.ghost_name ≡ l.initial.self.table.ghost_name)
    × (mark_sides l.initial.self.width l.k.touch.0 (sides l.seen) l.initial.self.table.now ≡ mark_sides l.initial.self.width l.k.touch.0 (sides (drop l.f-index l.seen)) l.self.table.now)

abbrev pub invariant-loop-s : goal.invariant-loop-s
invariant-loop-s l =
    (l.self.width ≡ l.initial.self.width) × (l.self.table.ghost_name ≡ l.initial.self.table.ghost_name)
    × (mark_sides l.initial.self.width l.k.touch.0 l.s-items l.initial.self.table.now ≡ mark_sides l.initial.self.width l.k.touch.0 (drop l.s-index l.s-items) l.self.table.now)
