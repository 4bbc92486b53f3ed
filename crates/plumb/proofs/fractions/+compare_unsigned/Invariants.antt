use Prim.Native.Nat.{◌+◌}
use Rattle.plumb.proofs.fractions.+compare_unsigned.Given as goal

abbrev pub decreases-compare_unsigned : goal.decreases-compare_unsigned
decreases-compare_unsigned l = l.b + l.d
