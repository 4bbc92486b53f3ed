use Rattle.std.proofs.Common.{rules}
use Rattle.lister.proofs.InputLaws.{read_more, read_none}
use Rattle.lister.proofs.input.read_full.Goals.{in-Ok, in-Err}
use Rattle.lister.proofs.input.read_full.Goals as goal

pub loop-preserved : goal.loop-preserved
loop-preserved g c =
    let l = c.loop.invariant in
    elim c.match-read.branch [
      | in-Ok w ↦ rw w.n-is (search rules, read_more _ _ _ _ l.0 _ _ _ l.1 w.in-Ok.k w.in-Ok.ensures.bound.0 w.in-Ok.ensures.bytes.0)
      | in-Err w ↦ rw w.n-is (search rules, read_none _ _ _ _ l.0 _ _ _ l.1 w.in-Err.ensures.bytes)
    ]
