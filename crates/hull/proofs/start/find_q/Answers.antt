use Rattle.std.proofs.Common.{rules, tests}
use Rattle.touches.specs.Touches.{touch}
use Rattle.hull.specs.Start.{is_apart}
use Rattle.hull.proofs.start.find_q.Goals as goal

pub returns : goal.returns
returns c = c.first_touch.ensures (is_apart (touch c.args.list.now.lent.now)) (λ k b h. search (rules, tests))
