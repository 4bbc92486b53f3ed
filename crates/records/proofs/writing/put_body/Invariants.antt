-- The loop's invariant: the bytes of the first i coordinates stand in the buffer from start on.
use Rattle.std.proofs.Common.{◌+◌, ◌*◌, ◌≡◌}
use Rattle.std.proofs.Math.ListN.{take}
use Rattle.laws.specs.Lists.{Laid}
use Rattle.records.specs.Record.{body_of}
use Rattle.records.proofs.writing.put_body.Given as goal

abbrev pub invariant-loop-x : goal.invariant-loop-x
invariant-loop-x l = (l.at ≡ l.start + l.x-index * 2) × Laid l.start (body_of (take l.x-index l.list.lent.now)) l.fn.buffer l.at l.buffer
