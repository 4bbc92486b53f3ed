use Rattle.std.proofs.Common.{rules, ◌∙◌}
use Rattle.lister.proofs.InputLaws.{listing_read, listing_put, listing_written}
use Rattle.lister.proofs.input.list_input.Goals as goal

pub returns : goal.returns
returns g c =
    let read = c.in_ok-n.ensures in
    let input = g.R.Read.remaining c.args.input.now in
    let rest = g.R.Read.remaining c.read_full.new.input in
    let known = listing_read c.in_ok-n.n c.read_full.new.bytes c.read_full.auto.bytes read.within input rest read.bytes read.end in
    listing_written c.write_all.result input _ _ (λ r e. listing_put c.list-m.ensures.text (search rules) ∙ known r e) c.write_all.ensures.bytes
