use Rattle.touches.specs.Touches.{touch, touch_count}
use Rattle.hull.specs.Start.{is_apart, is_off_line}
use Rattle.hull.proofs.StartLaws.{suited_below, flat_R, flat_S, started}
use Rattle.hull.proofs.start.find_start.Goals as goal

pub find_r-requires : goal.find_r-requires
find_r-requires c = suited_below (touch_count c.args.list.now.lent.now) (is_apart (touch c.args.list.now.lent.now)) c.in_ok-q.ensures

pub returns-in_err-r : goal.returns-in_err-r
returns-in_err-r c = rw c.from_residual-in_err-r.ensures (flat_R (touch c.args.list.now.lent.now) (touch_count c.args.list.now.lent.now) c.in_ok-q.q c.in_ok-q.ensures c.in_err-r.ensures)

pub find_s-requires : goal.find_s-requires
find_s-requires c =
    let p = touch c.args.list.now.lent.now in
    let n = touch_count c.args.list.now.lent.now in
    (suited_below n (is_apart p) c.in_ok-q.ensures, suited_below n (is_off_line p c.in_ok-q.q.0) c.in_ok-r.ensures)

pub returns-in_err-s : goal.returns-in_err-s
returns-in_err-s c = rw c.from_residual-in_err-s.ensures (flat_S (touch c.args.list.now.lent.now) (touch_count c.args.list.now.lent.now) c.in_ok-q.q c.in_ok-q.ensures c.in_ok-r.r c.in_ok-r.ensures c.in_err-s.ensures)

pub returns : goal.returns
returns c = started (touch c.args.list.now.lent.now) (touch_count c.args.list.now.lent.now) c.in_ok-q.q c.in_ok-q.ensures c.in_ok-r.r c.in_ok-r.ensures c.in_ok-s.s c.in_ok-s.ensures
