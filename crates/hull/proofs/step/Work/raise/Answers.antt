use Rattle.std.proofs.Common.{◌≡◌, refl, sym, ap, ◌∙◌, length, arith}
use Rattle.touches.specs.Touches.{touch_count}
use Rattle.border.specs.declared.marks.Marks.{Marks}
use Rattle.border.proofs.MarkLaws.{fresh_later}
use Rattle.hull.proofs.WholeLaws.{planed_none}
use Rattle.hull.proofs.RaiseLaws.{known_start, start_faces_lem, start_room, taken_start, taken_skip, taken_ready, step_room, taken_step}
use Rattle.hull.specs.Inner.{Roomy}
use Rattle.hull.proofs.step.Work.raise.Goals.{then-not-has, else-not-has}
use Rattle.hull.proofs.step.Work.raise.Goals as goal

pub put_start-self-requires : goal.put_start-self-requires
put_start-self-requires c = let h = c.requires in (known_start c.args.s h.0, start_room h.0 h.1)

pub invariant_of-self : goal.invariant_of-self
invariant_of-self c =
    let q = c.put_start-self in
    let w = c.args.self.now in
    record {
      planes_long = omega (arith, w.planes_long, q.auto.table);
      seen_long = omega (arith, w.seen_long, q.auto.table);
      holds = omega (arith, q.ensures.next, q.auto.table, start_room c.requires.0 c.requires.1);
    }

pub put_planes-requires : goal.put_planes-requires
put_planes-requires c = (planed_none _ _ _, omega arith, λ j _ l. start_faces_lem c.requires.0 c.put_start-self.ensures j l)

pub loop-k-init : goal.loop-k-init
loop-k-init c =
    let p = c.put_planes.ensures in
    record { taken = rw (p.same.0, p.same.1) (taken_start c.put_start-self.ensures (rw p.same.0 at p.planes)); long = refl; width = refl; fresh = rw p.same.2 c.requires.2 }

pub step-requires : goal.step-requires
step-requires c =
    let h = c.requires in
    let l = c.loop-k.invariant in
    let p = c.put_planes.ensures.same in
    let w : c.loop-k.self.marks.width ≡ touch_count c.args.list.now.lent.now = l.width ∙ ap (λ (m : Marks). m.width) p.2 ∙ h.1.width in
    let e : length c.loop-k.self.table.now ≡ length c.args.self.now.table.now = l.long ∙ ap length p.0 ∙ c.put_start-self.auto.table in
    let r : Roomy c.args.list.now.lent.now (length c.loop-k.self.table.now) c.args.self.now.marks.width = rw e h.1 in
    (taken_ready l.taken h.0 (omega arith) (omega arith), l.taken.planed, w, l.fresh, step_room l.taken (sym c.has.ensures ∙ c.if-not-has.true) h.0 (omega arith) r)

pub loop-k-preserved : goal.loop-k-preserved
loop-k-preserved c =
    let l = c.loop-k.invariant in
    elim c.if-not-has.branch [
      | then-not-has w ↦ rw w.self-is (
          let q = w.step.ensures in
          record { taken = taken_step l.taken (sym c.has.ensures ∙ w.if-not-has.true) q.faces q.planes; long = q.same_room ∙ l.long; width = q.same_width ∙ l.width; fresh = q.marks })
      | else-not-has w ↦ rw w.self-is (record { taken = taken_skip l.taken (sym c.has.ensures ∙ w.if-not-has.false); long = l.long; width = l.width; fresh = fresh_later l.fresh (omega arith) })
    ]
