use Rattle.std.proofs.Common.{sym, arith}
use Rattle.records.proofs.WriteLaws.{gives_bytes}
use Rattle.records.proofs.writing.write_as.Goals as goal

pub returns : goal.returns
returns c =
    gives_bytes c.args.version c.args.coords.now (sym c.in_ok-list.ensures) (omega (arith, c.if-buffer-count.false, c.count.ensures.is)) c.put_record.ensures
