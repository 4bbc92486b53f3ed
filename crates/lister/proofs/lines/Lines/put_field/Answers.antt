use Rattle.std.proofs.Common.{rules, arith}
use Rattle.lister.proofs.FieldLaws.{number_few, field_room, field_put, field_short}
use Rattle.lister.proofs.lines.Lines.put_field.Goals as goal

pub put_word-requires : goal.put_word-requires
put_word-requires c = omega (arith, field_room c.self.invariant c.self.view_is (rw c.from.ensures at c.put_decimal-self-inside.ensures) 5 (number_few (search rules)) (search rules))

pub returns-clause-put : goal.returns-clause-put
returns-clause-put c = field_put c.self.invariant c.self.view_is (rw c.from.ensures at c.put_decimal-self-inside.ensures) 5 (number_few (search rules)) (search rules) c.args.after c.put_word.ensures

pub returns-clause-short : goal.returns-clause-short
returns-clause-short c = field_short c.self.invariant c.self.view_is (rw c.from.ensures at c.put_decimal-self-inside.ensures) 5 (number_few (search rules)) (search rules) c.args.after c.put_word.ensures
