use Rattle.std.proofs.Common.{List, ℤ, ◌∙◌, sym, ap, arith}
use Rattle.std.proofs.Math.ListN.{length}
use Rattle.laws.specs.Lists.{lay}
use Rattle.records.proofs.ReadLaws.{gives_touches}
use Rattle.records.proofs.TableLaws.{front_is}
use Rattle.records.proofs.reading.read_as.Goals as goal

pub returns : goal.returns
returns c =
    let old = c.args.coords.now in
    let e = c.copy_from_slice.ensures.after in
    let same = c.coords-read.ensures.is in
    gives_touches c.args.version c.args.bytes.now (sym c.in_ok-list.ensures) c.count.ensures.is (omega (arith, ap length same, c.if-coords-m.false))
    (front_is (length c.coords-read.result.now) _ old (ap length e) ∙ ap (λ (ts : List ℤ). lay 0 ts old) (e ∙ same))
