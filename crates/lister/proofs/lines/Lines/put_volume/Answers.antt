use Rattle.std.proofs.Common.{rules, arith}
use mir.Syntax.{w64}
use mir.ValLaws.{to_z-of_z}
use Rattle.text.specs.Decimal.{newline}
use Rattle.text.proofs.WholeLaws.{length_whole}
use Rattle.lister.proofs.FieldLaws.{field_room, field_put, field_short}
use Rattle.lister.proofs.lines.Lines.put_volume.Goals as goal

pub put_word-requires : goal.put_word-requires
put_word-requires c =
    let p = rw (to_z-of_z w64 c.args.v c.ranges.v) at c.put_whole-self-inside.ensures in
    omega (arith, field_room c.self.invariant c.self.view_is p 20 (length_whole c.args.v c.ranges.v) (search rules))

pub returns-clause-put : goal.returns-clause-put
returns-clause-put c =
    let p = rw (to_z-of_z w64 c.args.v c.ranges.v) at c.put_whole-self-inside.ensures in
    field_put c.self.invariant c.self.view_is p 20 (length_whole c.args.v c.ranges.v) (search rules) newline c.put_word.ensures

pub returns-clause-short : goal.returns-clause-short
returns-clause-short c =
    let p = rw (to_z-of_z w64 c.args.v c.ranges.v) at c.put_whole-self-inside.ensures in
    field_short c.self.invariant c.self.view_is p 20 (length_whole c.args.v c.ranges.v) (search rules) newline c.put_word.ensures
