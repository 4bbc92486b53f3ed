use Rattle.std.proofs.Common.{length}
use Rattle.records.specs.Record.{plain_version}
use Rattle.records.specs.Answers.{checked_record}
use Rattle.chienlohup.proofs.CountLaws.{write_few, records_few}
use Rattle.chienlohup.proofs.chienlohup_copy.Goals as goal

pub record_numbers-requires : goal.record_numbers-requires
record_numbers-requires c =
    let bytes = c.args.bytes.now in
    rw (c.copy.ensures.answer) (write_few (checked_record plain_version bytes) (records_few plain_version bytes) (length c.args.buffer.now))
