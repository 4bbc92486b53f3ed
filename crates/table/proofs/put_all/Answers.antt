use Rattle.std.proofs.Common.{◌≡◌, ◌+◌, ◌*◌, length, sym, ◌∙◌, arith}
use Rattle.std.proofs.Math.ListN.{take}
use Rattle.std.proofs.Math.Seq.{length-take-le}
use Rattle.laws.proofs.Tables.{lay_none, lay_lay}
use Rattle.table.specs.Table.{lent}
use Rattle.table.proofs.TableLaws.{lent_more}
use Rattle.table.proofs.LentLaws.{length_lent}
use Rattle.table.proofs.put_all.Goals as goal

pub loop-i-init : goal.loop-i-init
loop-i-init c = sym (lay_none 0 c.args.faces.now)

pub loop-i-preserved : goal.loop-i-preserved
loop-i-preserved c =
    let h = c.args.hull.now in
    let i = c.loop-i.i in
    let e : i * 3 ≡ 0 + length (lent (take i h)) = omega (arith, length_lent (take i h), length-take-le i h (omega arith)) in
    c.put_face.ensures ∙ rw (e, c.loop-i.invariant, lay_lay 0 (lent (take i h)) _ c.args.faces.now (omega arith), lent_more h i (omega arith))
