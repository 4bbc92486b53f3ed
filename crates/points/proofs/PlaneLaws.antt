-- A point in range as a difference: each of its coordinates is at most a gap.
use Prim.Native.Nat.{◌≤◌}
use lib.Dec.{lit≤}
use Rattle.laws.proofs.WithinLaws.{within_more}
use Rattle.touches.specs.declared.Point.{Point}
use Rattle.touches.specs.Limits.{reach}
use Rattle.touches.specs.Touches.{Near, Small}
use Rattle.volume.specs.Volume.{most_gap}

pub gap_near : {q : Point} → Near q → Small most_gap q
gap_near h = let l : reach ≤ most_gap = lit≤ tt in record { x = within_more l h.x; y = within_more l h.y; z = within_more l h.z }
