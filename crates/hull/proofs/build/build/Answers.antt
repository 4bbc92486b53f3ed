use Rattle.std.proofs.Common.{rules, ◌≡◌, sym, ap, ◌∙◌}
use Rattle.std.specs.Prelude.{None, Ok, Err}
use Rattle.std.specs.Result.{result_ok}
use Rattle.touches.specs.Check.{checked}
use Rattle.touches.specs.declared.refusal.Refusal.TheVariants.{AllTouchesOnOnePlane}
use Rattle.hull.proofs.BuildLaws.{flat_built}
use Rattle.hull.proofs.build.build.Goals as goal

pub returns-in_err-s-clause-answer : goal.returns-in_err-s-clause-answer
returns-in_err-s-clause-answer c =
    let a : checked c.args.coords.now ≡ Ok c.in_ok-list.list.lent.now = search rules in
    let n : None ≡ c.find_start.result = sym (c.ok_or.ensures.ok_part ∙ ap result_ok c.in_err-s.was) in
    let e : c.from_residual-in_err-s.result ≡ Err AllTouchesOnOnePlane = search rules in
    e ∙ flat_built c.args.coords.now c.in_ok-list.list.lent.now c.args.faces.now a (n ∙ c.find_start.ensures)
