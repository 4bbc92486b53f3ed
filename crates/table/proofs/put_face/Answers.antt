use Rattle.std.proofs.Common.{arith}
use Rattle.std.proofs.lemmas.Grind.{common_steps}
use Rattle.laws.specs.Lists.{lay}
use Rattle.touches.proofs.PlainLaws.{by_three}
use Rattle.table.proofs.put_face.Goals as goal

pub returns : goal.returns
unfolding lay
returns c = rw (c.copy_from_slice.ensures.after, by_three c.args.f.now c.told-f) (grind (arith, common_steps))
