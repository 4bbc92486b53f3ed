-- The loop's invariant: the input lost the first n bytes, which stand in the table.
use Rattle.std.proofs.Common.{◌≤◌, length, take}
use Rattle.std.specs.Io.KnownBytes.{Consumes}
use Rattle.lister.proofs.input.read_full.Given as goal

abbrev pub invariant-loop : goal.invariant-loop
invariant-loop g l = (l.n ≤ length l.bytes) × Consumes (g.R.Read.remaining l.initial.input) (g.R.Read.remaining l.input) (take l.n l.bytes)
