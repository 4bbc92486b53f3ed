use Rattle.std.proofs.Common.{refl, rules, sym, ◌≤◌, length, ap, arith}
use Rattle.std.proofs.lemmas.List.{length-take-le}
use Rattle.table.specs.Table.{room}
use Rattle.table.proofs.TableLaws.{length_faces}
use Rattle.lister.proofs.BuiltLaws.{refused_text, hull_text_lem}
use Rattle.lister.proofs.hull_lines.Goals as goal

pub returns-in_err-hull : goal.returns-in_err-hull
returns-in_err-hull c = search (rules, refused_text c.args.coords.now _ c.build.ensures.answer c.build.ensures.table refl c.in_err-hull.was)

pub returns : goal.returns
returns c = search (rules, hull_text_lem c.args.coords.now _ c.build.ensures.answer c.build.ensures.table refl c.in_ok-hull.was)

pub slice_bounds-put_faces-end : goal.slice_bounds-put_faces-end
slice_bounds-put_faces-end c =
    let r : c.in_ok-hull.hull.faces ≤ room c.build.new.faces = search rules in
    let l : c.from.result ≤ length c.faces.result.now = omega (arith, r, c.from.ensures, ap length c.faces.ensures, length_faces c.build.new.faces) in
    sym (length-take-le c.from.result c.faces.result.now l)
