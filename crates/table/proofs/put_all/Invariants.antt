-- The loop's invariant: the first i faces are laid.
use Rattle.std.proofs.Common.{◌≡◌}
use Rattle.std.proofs.Math.ListN.{take}
use Rattle.laws.specs.Lists.{lay}
use Rattle.table.specs.Table.{lent}
use Rattle.table.proofs.put_all.Given as goal

abbrev pub invariant-loop-i : goal.invariant-loop-i
invariant-loop-i l = l.faces ≡ lay 0 (lent (take l.i l.hull)) l.initial.faces
