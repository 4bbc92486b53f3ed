use lib.ListN.{take}
use Rattle.laws.specs.Lists.{Laid}
use Rattle.rules.specs.Start.{start_faces}
use Rattle.hull.proofs.start.put_start.Given as goal

-- the first i starting faces are laid
abbrev pub invariant-loop-i : goal.invariant-loop-i
invariant-loop-i l = Laid 0 (take l.i (start_faces l.abcd)) l.initial.table l.i l.table
