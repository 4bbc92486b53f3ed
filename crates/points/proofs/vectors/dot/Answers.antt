use Prim.Native.Nat.{◌*◌}
use lib.IntN.{ℤ, ◌*ℤ◌, ◌+ℤ◌}
use mir.Syntax.{w64}
use Rattle.laws.specs.Numbers.{Within}
use Rattle.laws.proofs.Words.{Reads, r_i64, r_mul, r_add, fits, stored, size}
use Rattle.touches.specs.declared.Point.{Point}
use Rattle.touches.specs.Touches.{Small}
use Rattle.volume.specs.Volume.{most_gap, most_normal, most_volume}
use Rattle.points.proofs.NumberLaws.{rd}
use Rattle.points.proofs.vectors.dot.Goals as goal

part : {p q : ℤ} → Within most_normal p → Within most_gap q → Reads (most_normal * most_gap) (rd p *ℤ rd q) (p *ℤ q)
part p q = r_mul (r_i64 tt p) (r_i64 tt q)

module _ {u v : Point} (h : Small most_normal u) (k : Small most_gap v) where
  two : Reads (2 * most_normal * most_gap) (rd (rd u.x *ℤ rd v.x) +ℤ rd (rd u.y *ℤ rd v.y)) (u.x *ℤ v.x +ℤ u.y *ℤ v.y)
  two = r_add (stored w64 (part h.x k.x) tt) (stored w64 (part h.y k.y) tt)

  three : Reads most_volume (rd (rd (rd u.x *ℤ rd v.x) +ℤ rd (rd u.y *ℤ rd v.y)) +ℤ rd (rd u.z *ℤ rd v.z)) (u.x *ℤ v.x +ℤ u.y *ℤ v.y +ℤ u.z *ℤ v.z)
  three = r_add (stored w64 two tt) (stored w64 (part h.z k.z) tt)

pub overflow_mul-result : goal.overflow_mul-result
overflow_mul-result c = let h = c.requires in fits w64 (part h.0.x h.1.x) tt

pub overflow_mul-result-2 : goal.overflow_mul-result-2
overflow_mul-result-2 c = let h = c.requires in fits w64 (part h.0.y h.1.y) tt

pub overflow_add-result : goal.overflow_add-result
overflow_add-result c = let h = c.requires in fits w64 (two h.0 h.1) tt

pub overflow_mul-result-3 : goal.overflow_mul-result-3
overflow_mul-result-3 c = let h = c.requires in fits w64 (part h.0.z h.1.z) tt

pub overflow_add-result-2 : goal.overflow_add-result-2
overflow_add-result-2 c = let h = c.requires in fits w64 (three h.0 h.1) tt

pub returns : goal.returns
returns c =
    let h = c.requires in
    let r = stored w64 (three h.0 h.1) tt in
    record { is = r.is; small = size r }
