use Rattle.std.proofs.Math.Path.{sym, subst}
use Rattle.std.specs.Float.Ieee.{of_bits, neg}
use Rattle.std.proofs.Common.{T}
use Rattle.plane_cases.proofs.WholeDisplay.fmt.Goals as goal

pub truncating_f64_to_u64-requires-clause-lower_bound :
    goal.truncating_f64_to_u64-requires-clause-lower_bound
unfolding of_bits neg
truncating_f64_to_u64-requires-clause-lower_bound g c = subst T (sym c.if-size.true) tt

pub truncating_f64_to_u64-requires-clause-upper_bound :
    goal.truncating_f64_to_u64-requires-clause-upper_bound
unfolding of_bits
truncating_f64_to_u64-requires-clause-upper_bound g c = subst T (sym c.if-size-2.true) tt
