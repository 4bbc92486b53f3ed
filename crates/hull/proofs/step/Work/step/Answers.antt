use Rattle.std.proofs.Common.{◌≡◌, ap, ◌∙◌, take, arith}
use Rattle.touches.specs.Touches.{touch_count}
use Rattle.border.specs.declared.marks.Marks.{Marks}
use Rattle.hull.proofs.StepLaws.{front_faces, cone_room, step_laid, step_faces, planed_before}
use Rattle.hull.proofs.step.Work.step.Goals as goal

pub add_cone-self-requires : goal.add_cone-self-requires
add_cone-self-requires c =
    let q = c.part-visible in
    let h = c.requires in
    let w : q.new.self.marks.width ≡ touch_count c.args.list.now.lent.now = ap (λ (m : Marks). m.width) q.ensures.same_marks ∙ h.2 in (
      rw q.ensures.same_marks h.3,
      front_faces q.ensures.faces (omega (arith, w)) h.0,
      omega (arith, h.0.touch, h.2, c.args.self.now.marks.fits.few),
      cone_room q.ensures.faces (omega (arith, h.4, q.ensures.same_room)),
    )

pub invariant_of-self : goal.invariant_of-self
invariant_of-self c =
    let q = c.part-visible in
    let a = c.add_cone-self in
    let s = c.args in
    let d = step_laid {cs = s.list.now.lent.now} {h = take s.self.now.count s.self.now.table.now} {k = s.k.0} q.ensures.faces a.ensures.faces in
    record {
      planes_long = omega (arith, q.new.self.planes_long, a.auto.table);
      seen_long = omega (arith, q.new.self.seen_long, a.auto.table);
      holds = omega (arith, d.next, c.requires.4, q.ensures.same_room, a.auto.table);
    }

pub put_planes-requires : goal.put_planes-requires
put_planes-requires c =
    let q = c.part-visible in
    let a = c.add_cone-self in
    let s = c.args in
    let d = step_laid {cs = s.list.now.lent.now} {h = take s.self.now.count s.self.now.table.now} {k = s.k.0} q.ensures.faces a.ensures.faces in (
      planed_before q.ensures.planes a.ensures.faces q.new.self.holds,
      omega (arith, a.ensures.faces.next),
      λ j x y. step_faces c.requires.0 d j y,
    )

pub returns-clause-faces : goal.returns-clause-faces
returns-clause-faces c =
    let s = c.args in
    let p = c.put_planes.ensures.same in
    rw (p.0, p.1) (step_laid {cs = s.list.now.lent.now} {h = take s.self.now.count s.self.now.table.now} {k = s.k.0} c.part-visible.ensures.faces c.add_cone-self.ensures.faces)

pub returns-clause-planes : goal.returns-clause-planes
returns-clause-planes c = rw c.put_planes.ensures.same.1 c.put_planes.ensures.planes
