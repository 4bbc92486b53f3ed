use Rattle.std.proofs.Common.{rules, ◌≡◌, true, false}
use Rattle.std.proofs.lemmas.Iterator.{cases_from_all, YieldsList-from_slice}
use Rattle.table.specs.Table.{among}
use Rattle.table.proofs.TableLaws.{every_all}
use Rattle.table.proofs.all_among.Goals as goal

pub returns : goal.returns
returns c =
    let n = c.args.n in
    every_all (among n) c.args.faces.now c.all.result
    (cases_from_all _ _ c.all.result (λ f. among n f ≡ true) (λ f. among n f ≡ false) c.all.ensures.ran (YieldsList-from_slice c.args.faces.now c.iter.ensures.rest) (λ x q k. search rules) (λ x q k. search rules))
