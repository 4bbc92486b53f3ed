use Rattle.std.proofs.Common.{rules}
use Rattle.text.proofs.RoomLaws.{put_none, put_written}
use Rattle.text.proofs.put_bytes.Goals as goal

pub returns-then-text-at : goal.returns-then-text-at
returns-then-text-at c = put_none _ _ _ (search rules)

pub returns : goal.returns
returns c = put_written (search rules) c.copy_from_slice.ensures.after
