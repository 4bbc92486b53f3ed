-- The loop's invariant: the pairs that are left begin at the place of the next coordinate, and those before it stand at the front of the room.
use Rattle.std.proofs.Common.{◌≡◌, ◌*◌}
use Rattle.std.proofs.Math.ListN.{take, drop}
use Rattle.std.specs.Slice.Iter.{chunks_exact_rest, chunks_exact_size}
use Rattle.std.specs.Iterator.Adapters.{enumerate_source, enumerate_count}
use Rattle.laws.specs.Lists.{Laid}
use Rattle.records.specs.Record.{touches_of}
use Rattle.records.proofs.reading.unpack.Given as goal

abbrev pub invariant-loop-i : goal.invariant-loop-i
invariant-loop-i l =
    let i = enumerate_count l.i-iterator in
    let pairs = enumerate_source l.i-iterator in
    record {
      size : chunks_exact_size pairs ≡ 2;
      rest : chunks_exact_rest pairs ≡ drop (i * 2) l.body;
      laid : Laid 0 (take i (touches_of l.body)) l.fn.room i l.room;
    }
