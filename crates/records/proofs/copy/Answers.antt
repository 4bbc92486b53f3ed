use Rattle.std.proofs.Common.{rules, ◌≡◌, arith}
use Rattle.std.specs.Prelude.{Err}
use lib.Dec.{lit≤}
use Rattle.records.specs.Record.{AreBytes}
use Rattle.records.proofs.CopyLaws.{copy_gives, copy_refused}
use Rattle.records.proofs.copy.Goals as goal

pub returns-in_err-n : goal.returns-in_err-n
returns-in_err-n c =
    let e : c.from_residual.result ≡ Err c.in_err-n.field-0.0 = search rules in
    rw e (copy_refused c.read.ensures (lit≤ tt) c.in_err-n.was)

pub returns : goal.returns
returns c =
    let b : AreBytes c.args.bytes.now = record { small = λ i. omega (arith, c.type_inv.bytes i) } in
    copy_gives c.read.ensures b c.in_ok-n.was c.write.ensures
