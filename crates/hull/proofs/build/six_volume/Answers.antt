use Rattle.std.proofs.Common.{◌≡◌, ◌∙◌, [], length, take, get_or, ◌<◌, arith}
use lib.Seq.{get_or-take, length-take-le}
use Rattle.std.proofs.lemmas.List.{get_or_default}
use Rattle.touches.specs.Touches.{touch}
use Rattle.rules.specs.Faces.{face_vol}
use Rattle.points.specs.Sizes.{Number}
use Rattle.hull.specs.Whole.{no_plane}
use Rattle.hull.proofs.WholeLaws.{planed_number}
use Rattle.hull.proofs.SumLaws.{most_read, Summed, summed_more, summed_all}
use Rattle.hull.proofs.build.six_volume.Goals as goal

pub loop-p-preserved : goal.loop-p-preserved
loop-p-preserved c =
    let i = c.loop-p.p-index in
    let h = c.requires in
    let w = c.args.work.now in
    let b : length (take w.count w.planes.now) ≡ w.count = length-take-le w.count w.planes.now (omega (arith, w.holds, w.planes_long)) in
    let n : length (take w.count w.table.now) ≡ w.count = length-take-le w.count w.table.now w.holds in
    let l : i < w.count = omega (arith, c.loop-p-test.true, b) in
    let p : c.p-item.result ≡ get_or w.planes.now i no_plane = c.p-item.is ∙ get_or_default _ i _ no_plane c.loop-p-test.true ∙ get_or-take w.count w.planes.now i no_plane l in
    let g : Summed (touch c.args.list.now.lent.now) c.touch-q.result (take w.count w.table.now) i c.loop-p.sum-bits = record { reads = c.loop-p.invariant } in
    let v : Number most_read (face_vol (touch c.args.list.now.lent.now) (get_or (take w.count w.table.now) i []) c.touch-q.result) c.read-sum.result = rw (get_or-take w.count w.table.now i [] l) (planed_number c.touch-q.result (h.1.each i l) (rw p at c.read-sum.ensures)) in
    (summed_more g v (omega (arith, l, n)) (omega (arith, h.2, n))).reads

pub returns : goal.returns
returns c =
    let w = c.args.work.now in
    let g : Summed (touch c.args.list.now.lent.now) c.touch-q.result (take w.count w.table.now) c.loop-p.p-index c.loop-p.sum-bits = record { reads = c.loop-p.invariant } in
    let b : length (take w.count w.planes.now) ≡ w.count = length-take-le w.count w.planes.now (omega (arith, w.holds, w.planes_long)) in
    let n : length (take w.count w.table.now) ≡ w.count = length-take-le w.count w.table.now w.holds in
    summed_all g (omega (arith, c.loop-p-test.false, b, n)) c.touch-q.ensures
