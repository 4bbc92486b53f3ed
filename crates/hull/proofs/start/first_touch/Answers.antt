use Rattle.std.proofs.Common.{rules, ◌≡◌, ◌∙◌, arith, ◌<◌}
use Rattle.std.proofs.lemmas.Iterator.{YieldsList-from_range, YieldsList-from_map}
use Rattle.std.proofs.lemmas.Iterator.Adapters.{serves_from_places}
use Rattle.std.proofs.lemmas.List.FromFn.{length-map-range_with_len, get_or-map-range_with_len}
use Rattle.touches.specs.Touches.{touch_no, touch_count}
use Rattle.hull.proofs.StartLaws.{first_found}
use Rattle.hull.proofs.start.first_touch.Goals as goal

pub find-requires-clause-callable : goal.find-requires-clause-callable
find-requires-clause-callable g c =
    let n = c.count.result in
    serves_from_places (YieldsList-from_map _ touch_no (YieldsList-from_range 0 n n c.map.ensures.source (omega arith)) c.map.ensures.closure (λ x y k h. search rules))
    (λ x q h. search rules)
    (λ x k l e.
    let b : k < n = omega (arith, l, length-map-range_with_len touch_no 0 n) in
    let i : x ≡ touch_no k = e ∙ get_or-map-range_with_len touch_no 0 n k k x b (omega arith) in
    let j : x.0 < touch_count c.args.list.now.lent.now = rw i (omega (arith, b, c.count.ensures.is)) in
    let p = c.requires x j in
    search (rules, p))

pub returns : goal.returns
returns g c q h =
    rw c.count.ensures.is at (first_found _ _ _ q c.count.result c.find.ensures.ran c.map.ensures.source c.map.ensures.closure (λ x y k h. search rules) (λ x b k i. search (rules, h)))
