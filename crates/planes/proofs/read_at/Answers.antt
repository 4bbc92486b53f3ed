use mathlib.Core.Path.{◌∙◌, ap}
use Rattle.laws.proofs.Exact.{e_of, e_add, e_sub, e_mul, e_done}
use Rattle.volume.specs.Volume.{offset}
use Rattle.volume.proofs.Axes.{X, Y, Z}
use Rattle.volume.proofs.PlaneLaws.{normal_within, dot_within, reading_is}
use Rattle.planes.specs.declared.Plane.{Plane}
use Rattle.laws.specs.Doubles.{double}
use Rattle.points.proofs.DoubleLaws.{at_x, at_y, at_z}
use Rattle.planes.proofs.read_at.Goals as goal

pub returns : goal.returns
unfolding offset
returns c a b f ha hb hf e =
    let q = c.from-s.ensures in
    let x = e_of tt (ap (λ (p : Plane). p.x) e) (normal_within ha hb hf X) in
    let y = e_of tt (ap (λ (p : Plane). p.y) e) (normal_within ha hb hf Y) in
    let z = e_of tt (ap (λ (p : Plane). p.z) e) (normal_within ha hb hf Z) in
    let o = e_of tt (ap (λ (p : Plane). p.offset) e) (dot_within ha hb hf ha) in
    e_done (e_sub tt (e_add tt (e_add tt (e_mul tt x (at_x q)) (e_mul tt y (at_y q))) (e_mul tt z (at_z q))) o)
    ∙ ap double (reading_is a b f c.args.q)
