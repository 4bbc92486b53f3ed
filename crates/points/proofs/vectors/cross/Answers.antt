use mathlib.Core.Path.{◌≡◌, ◌∙◌}
use lib.IntN.{ℤ}
use Rattle.laws.specs.Numbers.{Within}
use Rattle.volume.specs.Volume.{most_gap, most_normal, det2}
use Rattle.points.specs.Sizes.{Number}
use Rattle.points.proofs.NumberLaws.{rd, back, back_small, passed}
use Rattle.points.proofs.vectors.cross.Goals as goal

part : {a b c d r : ℤ} → Within most_gap a → Within most_gap b → Within most_gap c → Within most_gap d → Number most_normal (det2 (rd a) (rd b) (rd c) (rd d)) r → rd r ≡ det2 a b c d
part a b c d n = back tt n ∙ (λ i. det2 (passed tt a i) (passed tt b i) (passed tt c i) (passed tt d i))

pub returns : goal.returns
returns c =
    let h = c.requires in
    let x = c.det2.ensures in
    let y = c.det2-2.ensures in
    let z = c.det2-3.ensures in
    let ex = part h.0.y h.0.z h.1.y h.1.z x in
    let ey = part h.0.z h.0.x h.1.z h.1.x y in
    let ez = part h.0.x h.0.y h.1.x h.1.y z in
    record { is = λ i. record { x = ex i; y = ey i; z = ez i }; small = record { x = back_small tt x; y = back_small tt y; z = back_small tt z } }
