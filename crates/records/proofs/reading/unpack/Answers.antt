use Rattle.std.proofs.Common.{ℕ, pos, sym, ap, ◌∙◌, ◌*◌, ◌≤◌, arith, rules}
use Rattle.std.specs.Iterator.Adapters.{enumerate_count}
use lib.ListN.{length, drop, length-drop}
use lib.Seq.{take_all}
use mir.Syntax.{w32}
use mir.Val.{SFits}
use mir.ValLaws.{to_z-of_z}
use Rattle.laws.proofs.Tables.{laid_none, laid_next}
use Rattle.records.specs.Record.{touches_of}
use Rattle.records.proofs.BodyLaws.{length_touches, touch_at, pair_inside, pair_is, pair_rest}
use Rattle.records.proofs.reading.unpack.Goals as goal

pub loop-i-init : goal.loop-i-init
loop-i-init c = rw (c.into_iter-i-iterator.ensures.into_iter_gives, c.enumerate-i-items.ensures.source, c.enumerate-i-items.ensures.count) (record {
  size = c.chunks_exact.ensures.size;
  rest = c.chunks_exact.ensures.rest;
  laid = laid_none 0 _;
})

pub loop-i-preserved : goal.loop-i-preserved
loop-i-preserved c =
    let b = c.args.body.now in
    let v = c.loop-i.invariant in
    let e = c.in-Some.ensures.steps in
    let i = enumerate_count c.loop-i.i-iterator in
    let cut = sym v.rest ∙ e.0.1.0 in
    let two = e.0.1.1 ∙ v.size in
    let inside = pair_inside b _ _ i cut two in
    let f : SFits w32 c.coordinate.result = search rules in
    let x = to_z-of_z w32 c.coordinate.result f ∙ c.coordinate.ensures ∙ pair_is b _ _ i cut two ∙ sym (touch_at b i (omega (arith, inside, c.requires.whole))) in
    record {
      size = e.0.0 ∙ v.size;
      rest = pair_rest b _ _ i cut two ∙ ap (λ (k : ℕ). drop (k * 2) b) (sym e.2);
      laid = rw (e.2, e.1) (laid_next (touches_of b) (pos 0) x (omega (arith, length_touches b, inside, c.requires.whole)) (omega (arith, inside, c.requires.room, c.loop-i.auto.room)) v.laid);
    }

pub returns : goal.returns
returns c =
    let b = c.args.body.now in
    let v = c.loop-i.invariant in
    let e = c.in-None.ensures.steps in
    let i = enumerate_count c.loop-i.i-iterator in
    let all : length (touches_of b) ≤ i = omega (arith, e.0.1.0, v.size, simp length-drop at (ap length v.rest), c.requires.whole, length_touches b) in
    rw (← take_all i (touches_of b) all) v.laid.table
