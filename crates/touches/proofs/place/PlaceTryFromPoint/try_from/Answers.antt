use Rattle.std.proofs.Common.{rules}
use Rattle.touches.proofs.SoundLaws.{place_near, near_held}
use Rattle.touches.proofs.place.PlaceTryFromPoint.try_from.Goals as goal

pub invariant_of-result : goal.invariant_of-result
invariant_of-result c = near_held c.args.q (place_near c.args.q (search rules))
