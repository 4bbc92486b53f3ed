use Rattle.hull.proofs.PlaceLaws.{Looked, Worsened, against, holding, flat}
use Rattle.hull.proofs.place.look.Given as goal

-- the first i faces are looked at, for the worst, for the first that holds the place and for the first whose plane does
abbrev pub invariant-loop-i : goal.invariant-loop-i
invariant-loop-i l = record {
  worst : Worsened l.faces (against l.list.lent.now l.q) l.i l.worst;
  on : Looked l.faces (holding l.list.lent.now l.q) l.i l.on;
  plane : Looked l.faces (flat l.list.lent.now l.q) l.i l.plane;
}
