use Rattle.std.proofs.Common.{arith}
use Rattle.records.proofs.WriteLaws.{laid_record}
use Rattle.records.proofs.writing.put_record.Goals as goal

pub returns : goal.returns
returns c =
    let t = c.put_two-at in
    laid_record c.args.version c.args.list.now.lent.now c.count.ensures.sound (omega (arith, t.ensures.next, t.auto.buffer, c.requires)) (rw c.count.ensures.is at t.ensures) c.put_body.ensures
