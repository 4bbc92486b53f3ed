use Rattle.std.proofs.Common.{rules, tests}
use Rattle.touches.specs.Touches.{touch}
use Rattle.hull.specs.Start.{is_off_plane}
use Rattle.hull.proofs.start.find_s.Goals as goal

pub returns : goal.returns
returns c = c.first_touch.ensures (is_off_plane (touch c.args.list.now.lent.now) c.args.q.0 c.args.r.0) (λ k b h. search (rules, tests))
