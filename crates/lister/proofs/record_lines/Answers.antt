use Rattle.std.proofs.Common.{refl, rules}
use Rattle.lister.proofs.ListingLaws.{many_text, refused_text, touches_text}
use Rattle.lister.proofs.record_lines.Goals as goal

pub returns-then-bytes-gt-MOST_BYTES : goal.returns-then-bytes-gt-MOST_BYTES
returns-then-bytes-gt-MOST_BYTES c = many_text c.args.bytes.now (search rules)

pub returns-in_err-n : goal.returns-in_err-n
returns-in_err-n c = search (rules, refused_text (search rules) c.read.ensures refl c.in_err-n.was)

pub returns : goal.returns
returns c = search (rules, touches_text (search rules) c.read.ensures refl c.in_ok-n.was)
