use Rattle.std.proofs.Common.{rules, ◌≡◌, sym, ◌∙◌}
use Rattle.std.specs.Prelude.{None}
use Rattle.touches.proofs.StrayLaws.{stray_none, stray_some}
use Rattle.touches.proofs.first_stray.Goals as goal

pub returns : goal.returns
returns c = stray_some c.args.coords.now (sym c.first_far.ensures ∙ c.in_ok-i.was)

pub returns-in_err-i : goal.returns-in_err-i
returns-in_err-i c =
    let e : c.from_residual.result ≡ None = search rules in
    e ∙ stray_none c.args.coords.now (sym c.first_far.ensures ∙ c.in_err-i.was)
