use Rattle.laws.proofs.Exact.{e_add, e_mul, e_plus0, e_done}
use Rattle.volume.specs.Volume.{offset}
use Rattle.points.proofs.DoubleLaws.{at_x, at_y, at_z, normal_x, normal_y, normal_z}
use Rattle.planes.proofs.plane_through.Goals as goal

pub returns : goal.returns
unfolding offset
returns c =
    let ea = c.from-o.ensures in
    let eb = c.from.ensures in
    let ec = c.from-2.ensures in
    let n = c.normal-n.ensures in
    let x = normal_x ea eb ec n in
    let y = normal_y ea eb ec n in
    let z = normal_z ea eb ec n in
    let o = e_done (e_add tt (e_add tt (e_mul tt (e_plus0 tt x) (at_x ea)) (e_mul tt (e_plus0 tt y) (at_y ea))) (e_mul tt (e_plus0 tt z) (at_z ea))) in
    λ i. record { x = e_done x i; y = e_done y i; z = e_done z i; offset = o i }
