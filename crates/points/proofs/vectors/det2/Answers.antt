use Prim.Native.Nat.{◌*◌}
use lib.IntN.{ℤ, ◌*ℤ◌, ◌-ℤ◌}
use mir.Syntax.{w64}
use Rattle.laws.specs.Numbers.{Within}
use Rattle.laws.proofs.Words.{Reads, r_i64, r_mul, r_sub, fits, stored, size}
use Rattle.volume.specs.Volume.{most_gap, most_normal, det2}
use Rattle.points.proofs.NumberLaws.{rd}
use Rattle.points.proofs.vectors.det2.Goals as goal

product : {p q : ℤ} → Within most_gap p → Within most_gap q → Reads (most_gap * most_gap) (rd p *ℤ rd q) (p *ℤ q)
product p q = r_mul (r_i64 tt p) (r_i64 tt q)

whole : {a b c d : ℤ} → Within most_gap a → Within most_gap b → Within most_gap c → Within most_gap d → Reads most_normal (rd (rd a *ℤ rd d) -ℤ rd (rd b *ℤ rd c)) (det2 a b c d)
whole a b c d = r_sub (stored w64 (product a d) tt) (stored w64 (product b c) tt)

pub overflow_sub-result : goal.overflow_sub-result
overflow_sub-result c = let h = c.requires in fits w64 (whole h.0 h.1 h.2 h.3) tt

pub returns : goal.returns
returns c =
    let h = c.requires in
    let r = stored w64 (whole h.0 h.1 h.2 h.3) tt in
    record { is = r.is; small = size r }
