use mathlib.Core.Path.{sym, ap, subst, ◌∙◌}
use mathlib.Core.List.{List, []}
use Prim.Native.Nat.{◌<◌}
use native.Mathlib.Omega.{arith}
use lib.ListN.{length, get_or}
use Rattle.rules.specs.Faces.{Face}
use Rattle.rules.specs.Demands.{FaceOf}
use Rattle.table.specs.Table.{room}
use Rattle.table.proofs.TableLaws.{length_faces, face_at_lem}
use Rattle.table.proofs.UsableLaws.{usable_face}
use Rattle.points.specs.Whole.{Plane}
use Rattle.points.proofs.NumberLaws.{passed}
use Rattle.plumb.proofs.BoundsLaws.{read_more, read_all}
use Rattle.plumb.proofs.bounds.tightest.Goals as goal

pub plane_on-p-requires : goal.plane_on-p-requires
plane_on-p-requires c =
    let t = c.args.faces.now in
    let i = c.loop-f.f-index in
    let e = c.faces-f-items.ensures in
    let r : i < room t = omega (arith, ap length e, length_faces t) in
    subst (FaceOf c.args.list.now.lent.now)
    (sym (c.corners.ensures ∙ ap (λ (h : List Face). get_or h i []) e ∙ face_at_lem t i r))
    (usable_face c.args.list.now.lent.now t c.requires i r)

pub loop-f-preserved : goal.loop-f-preserved
loop-f-preserved c =
    let e = c.faces-f-items.ensures in
    read_more c.loop-f.invariant (omega (arith, ap length e)) (c.corners.ensures ∙ ap (λ (h : List Face). get_or h c.loop-f.f-index []) e) c.plane_on-p.ensures
    (passed tt c.p.invariant.normal.z ∙ ap (λ (w : Plane). w.normal.z) c.p.view_is) c.rest.ensures c.look_at_face-b.ensures

pub returns : goal.returns
returns c = read_all c.loop-f.invariant (omega (arith, ap length c.faces-f-items.ensures))
