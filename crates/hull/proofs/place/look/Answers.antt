use mathlib.Core.Path.{sym, ◌∙◌, ap, subst}
use Prim.Native.Nat.{◌<◌}
use native.Mathlib.Omega.{arith}
use Rattle.volume.specs.Volume.{is_zero}
use Rattle.rules.specs.Faces.{Face}
use Rattle.rules.specs.Demands.{FaceOf}
use Rattle.table.specs.Table.{room}
use Rattle.table.proofs.UsableLaws.{usable_few, usable_face}
use Rattle.points.proofs.NumberLaws.{back, back_small, zero_test}
use Rattle.hull.proofs.PlaceLaws.{looked_more, worst_more, against, holding, flat, settled_is}
use Rattle.hull.proofs.place.look.Goals as goal

pub overflow_cast-f : goal.overflow_cast-f
overflow_cast-f c = omega (arith, usable_few c.args.list.now.lent.now c.args.faces.now c.requires)

pub face_volume-v-requires : goal.face_volume-v-requires
face_volume-v-requires c =
    let cs = c.args.list.now.lent.now in
    let t = c.args.faces.now in
    subst (λ (f : Face). FaceOf cs f) (sym c.face-c.ensures) (usable_face cs t c.requires c.loop-i.i (omega arith))

pub face_holds-requires : goal.face_holds-requires
face_holds-requires c =
    let cs = c.args.list.now.lent.now in
    let t = c.args.faces.now in
    let v = c.face_volume-v.ensures in
    (subst (λ (f : Face). FaceOf cs f) (sym c.face-c.ensures) (usable_face cs t c.requires c.loop-i.i (omega arith)), record { is = back tt v; small = back_small tt v })

pub loop-i-preserved : goal.loop-i-preserved
loop-i-preserved c =
    let cs = c.args.list.now.lent.now in
    let t = c.args.faces.now in
    let q = c.args.q in
    let l = c.loop-i in
    let v = c.face_volume-v.ensures in
    let h : l.i < room t = omega arith in
    record {
      worst = rw c.worse-worst.ensures (worst_more h (back tt v ∙ ap (against cs q) c.face-c.ensures) (back_small tt v) l.invariant.worst);
      on = rw (c.or-on.ensures, c.then_some.ensures) (looked_more l.invariant.on h (c.face_holds.ensures ∙ ap (holding cs q) c.face-c.ensures));
      plane = rw (c.or-plane.ensures, c.then_some-in-loop-i.ensures) (looked_more l.invariant.plane h (zero_test tt v.small ∙ ap is_zero v.is ∙ ap (flat cs q) c.face-c.ensures));
    }

pub returns : goal.returns
returns c =
    let l = c.loop-i.invariant in
    c.settle.ensures ∙ settled_is c.args.list.now.lent.now c.args.q c.args.faces.now l.worst l.on l.plane (omega arith)
