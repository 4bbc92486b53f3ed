use Rattle.std.proofs.Common.{List, ℤ, pos, ap, ◌∙◌, arith}
use Rattle.std.proofs.Math.ListN.{length, get_or}
use Rattle.laws.specs.Numbers.{Within}
use Rattle.laws.proofs.Words.{r_i32}
use Rattle.laws.proofs.Tables.{laid_none, laid_then}
use Rattle.touches.specs.Limits.{reach}
use Rattle.records.specs.Record.{bits16}
use Rattle.records.proofs.BodyLaws.{body_none, body_more}
use Rattle.records.proofs.writing.put_body.Goals as goal

pub loop-x-init : goal.loop-x-init
loop-x-init c = (omega arith, rw body_none (laid_none _ _))

pub put_two-at-requires : goal.put_two-at-requires
put_two-at-requires c = omega (arith, c.loop-x.invariant.0, c.requires, ap length c.coords-x-items.ensures.is)

pub loop-x-preserved : goal.loop-x-preserved
loop-x-preserved c =
    let l = c.loop-x in
    let e = c.coords-x-items.ensures.is in
    let inside = ap length e in
    let h : Within reach (get_or c.coords-x-items.result.now l.x-index (pos 0)) = rw e (c.coords-x-items.ensures.sound.near l.x-index (omega (arith, inside))) in
    let x = (r_i32 tt h).is ∙ ap (λ (cs : List ℤ). get_or cs l.x-index (pos 0)) e in (
      omega (arith, c.put_two-at.ensures.next, l.invariant.0),
      rw (body_more c.args.list.now.lent.now l.x-index (omega (arith, inside)))
          (laid_then l.invariant.1 (omega (arith, l.invariant.0, c.requires, inside)) (rw (c.bits_of.ensures ∙ ap bits16 x) at c.put_two-at.ensures)),
    )
