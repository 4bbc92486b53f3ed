use mathlib.Core.Path.{sym, ◌∙◌, ap}
use Rattle.laws.proofs.Exact.{e_add, e_mul, e_done}
use Rattle.laws.specs.Doubles.{double}
use Rattle.volume.proofs.VolumeLaws.{vol_fourth}
use Rattle.points.proofs.DoubleLaws.{gap_x, gap_y, gap_z, part}
use Rattle.hull.proofs.doubles.volume.Goals as goal

pub returns : goal.returns
returns c =
    let ea = c.from-p.ensures in
    let eb = c.from-q.ensures in
    let ec = c.from-r.ensures in
    let ed = c.from-s.ensures in
    let ax = gap_x ed ea in
    let ay = gap_y ed ea in
    let az = gap_z ed ea in
    let bx = gap_x ed eb in
    let by = gap_y ed eb in
    let bz = gap_z ed eb in
    let cx = gap_x ed ec in
    let cy = gap_y ed ec in
    let cz = gap_z ed ec in
    let x = e_mul tt ax (part by bz cy cz) in
    let y = e_mul tt ay (part bz bx cz cx) in
    let z = e_mul tt az (part bx by cx cy) in
    e_done (e_add tt (e_add tt x y) z) ∙ ap double (sym (vol_fourth c.args.a c.args.b c.args.c c.args.d))
