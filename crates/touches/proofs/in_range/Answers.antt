use mir.Syntax.{w64}
use mir.ValLaws.{to_z-of_z}
use Rattle.touches.proofs.RangeLaws.{range_second, range_first}
use Rattle.touches.proofs.in_range.Goals as goal

pub returns-then-x : goal.returns-then-x
returns-then-x c = range_second (to_z-of_z w64 c.args.x c.ranges.x) c.if-x.true

pub returns-else-x : goal.returns-else-x
returns-else-x c = range_first (to_z-of_z w64 c.args.x c.ranges.x) c.if-x.false
