use Rattle.std.proofs.Common.{rules}
use Rattle.lister.proofs.FieldLaws.{word_put}
use Rattle.lister.proofs.lines.Lines.put_word.Goals as goal

pub returns : goal.returns
returns c = word_put c.self.invariant c.self.view_is c.put_bytes-self-inside.ensures (search rules)
