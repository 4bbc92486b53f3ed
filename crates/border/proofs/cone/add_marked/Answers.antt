use Rattle.std.proofs.Common.{[], arith, get_or, rules}
use Rattle.laws.proofs.Tables.{laid_none, laid_then}
use Rattle.border.specs.Marks.{unmarked}
use Rattle.border.proofs.MarkLaws.{side_over}
use Rattle.border.proofs.ConeLaws.{over_none, over_more, over_face, cone_none, cone_more, cone_all, cone_room, side_room}
use Rattle.border.proofs.cone.add_marked.Goals as goal

pub loop-f-init : goal.loop-f-init
loop-f-init c = rw (cone_none _ _) (laid_none _ _)

pub loop-s-init : goal.loop-s-init
loop-s-init c = rw (over_none _ _) (laid_none _ _)

pub add_side-at-requires : goal.add_side-at-requires
add_side-at-requires c =
    let l = c.loop-f in
    let n = c.loop-s in
    let h = c.requires in
    let e = side_over h.1 l.f-index (search rules) c.sides_of-s-items.ensures n.s-index c.s-item.result (search rules) in (
      e.0,
      e.1,
      omega (arith, h.2, l.auto.table, n.auto.table, l.invariant.next, n.invariant.next, side_room h.0 h.1 l.f-index (search rules) c.sides_of-s-items.ensures n.s-index c.s-item.result (search rules)),
    )

pub loop-s-preserved : goal.loop-s-preserved
loop-s-preserved c =
    let a = c.args in
    let m = a.marks.now in
    let l = c.loop-f in
    let n = c.loop-s in
    let h = c.requires in
    rw (over_more (unmarked m.table.now m.width a.k.touch.0) a.k.touch.0 c.sides_of-s-items.result n.s-index c.s-item.result (search rules))
    (laid_then n.invariant (omega (arith, h.2, l.auto.table, l.invariant.next, cone_room h.0 h.1 l.f-index (search rules))) c.add_side-at.ensures)

pub loop-f-preserved : goal.loop-f-preserved
loop-f-preserved c =
    let a = c.args in
    let m = a.marks.now in
    let l = c.loop-f in
    let t = unmarked m.table.now m.width a.k.touch.0 in
    let e = over_face t a.k.touch.0 (get_or a.seen.now l.f-index []) c.sides_of-s-items.ensures c.loop-s.s-index (search rules) in
    rw (cone_more t a.k.touch.0 a.seen.now l.f-index (search rules)) (laid_then l.invariant (omega (arith, c.requires.2)) (rw e at c.loop-s.invariant))

pub returns : goal.returns
returns c = rw (← cone_all c.requires.0 c.requires.1 c.loop-f.f-index (search rules)) c.loop-f.invariant
