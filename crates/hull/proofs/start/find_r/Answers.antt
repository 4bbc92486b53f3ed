use Rattle.std.proofs.Common.{rules, tests}
use Rattle.touches.specs.Touches.{touch}
use Rattle.hull.specs.Start.{is_off_line}
use Rattle.hull.proofs.start.find_r.Goals as goal

pub returns : goal.returns
returns c = c.first_touch.ensures (is_off_line (touch c.args.list.now.lent.now) c.args.q.0) (λ k b h. search (rules, tests))
