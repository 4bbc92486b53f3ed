use Rattle.std.proofs.Common.{length}
use Rattle.records.specs.Record.{plain_version}
use Rattle.records.specs.Answers.{checked_record}
use Rattle.chienlohup.proofs.CountLaws.{read_few, records_few}
use Rattle.chienlohup.proofs.chienlohup_read.Goals as goal

pub record_numbers-requires : goal.record_numbers-requires
record_numbers-requires c =
    let bytes = c.args.bytes.now in
    rw (c.read.ensures.answer) (read_few (checked_record plain_version bytes) (records_few plain_version bytes) (length c.args.touches.now))
