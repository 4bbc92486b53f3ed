use Rattle.std.proofs.Common.{refl, sym, ◌∙◌, ◌<◌, length, length-set, arith, rules}
use Rattle.std.proofs.lemmas.List.{get_or_default}
use Rattle.hull.specs.Whole.{no_plane}
use Rattle.hull.proofs.PartLaws.{parting_seen, parting_kept, parting_all, parting_first, parting_nothing}
use Rattle.hull.proofs.step.Work.part.Goals.{then-in_front, else-in_front}
use Rattle.hull.proofs.step.Work.part.Goals as goal

pub returns-in_default-clause-faces : goal.returns-in_default-clause-faces
returns-in_default-clause-faces c =
    let w = c.args.self.now in
    parting_nothing c.touch-q.result w.holds (omega (arith, w.holds, w.planes_long)) c.requires.1 w.seen.now (omega (arith, w.holds, w.seen_long)) c.in_default.ensures c.touch-q.ensures

pub returns-in_default-clause-planes : goal.returns-in_default-clause-planes
returns-in_default-clause-planes c = c.requires.1

pub loop-i-init : goal.loop-i-init
loop-i-init c =
    let w = c.args.self.now in
    record {
      kept = omega arith;
      visible = omega arith;
      table_long = refl;
      planes_long = refl;
      seen_long = refl;
      marks = refl;
      parting = parting_first c.touch-q.result w.holds (omega (arith, w.holds, w.planes_long)) c.requires.1 w.seen.now (omega (arith, w.holds, w.seen_long)) c.in-Some.ensures;
    }

pub loop-i-preserved : goal.loop-i-preserved
loop-i-preserved c =
    let l = c.loop-i in
    let g = l.invariant in
    let w = c.args.self.now in
    let h : l.i < w.count = omega (arith, c.loop-i-test.true) in
    let b : l.i < length l.self.planes.now = omega (arith, h, g.parting.planes_long) in
    let p = get_or_default l.self.planes.now l.i c.index-self-i.result no_plane b in
    elim c.if-in_front.branch [
      | then-in_front v ↦ rw (v.self-is, v.m-is, v.s-is) (record {
        kept = omega (arith, g.kept);
        visible = omega (arith, g.visible);
        table_long = g.table_long;
        planes_long = g.planes_long;
        seen_long = length-set _ _ _ ∙ g.seen_long;
        marks = g.marks;
        parting = parting_seen g.parting h w.holds (rw p at (sym c.in_front.ensures ∙ v.if-in_front.true));
      })
      | else-in_front v ↦ rw (v.self-is, v.m-is, v.s-is, p) (record {
        kept = omega (arith, g.kept);
        visible = omega (arith, g.visible);
        table_long = length-set _ _ _ ∙ g.table_long;
        planes_long = length-set _ _ _ ∙ g.planes_long;
        seen_long = g.seen_long;
        marks = g.marks;
        parting = parting_kept g.parting h w.holds (rw p at (sym c.in_front.ensures ∙ v.if-in_front.false));
      })
    ]

pub returns-clause-faces : goal.returns-clause-faces
returns-clause-faces c = parting_all c.loop-i.invariant.parting c.touch-q.ensures (search rules)
