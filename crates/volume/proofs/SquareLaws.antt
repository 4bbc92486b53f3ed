-- The dot product of a vector with itself is not negative, and 0 only of the vector 0.
use mathlib.Core.Path.{◌≡◌}
use mathlib.Core.Logic.{◌⊎◌, inl, inr}
use mathlib.Core.Bool.{not}
use native.Mathlib.Omega.{arith}
use lib.Dec.{T, T_not}
use lib.IntN.{ℤ, pos, ◌+ℤ◌, ◌*ℤ◌}
use lib.Signed.{◌≤ℤ◌, ◌<ℤ◌}
use Rattle.laws.proofs.Integers.{sum_is}
use Rattle.laws.proofs.Order.{zs, pos_is, Sign, minus, null, plus, sign, ≤_refl, <→≤, not_lt, add_nonneg, mul_pos_pos, mul_neg_neg, mul_zero}
use Rattle.touches.specs.declared.Point.{Point}
use Rattle.volume.specs.Volume.{dot, is_origin}
use Rattle.volume.proofs.Axes.{Axis, X, Y, Z, on}
use Rattle.volume.proofs.LineLaws.{→origin}

pub square_nonneg : (z : ℤ) → pos 0 ≤ℤ (z *ℤ z)
square_nonneg z = go (sign z)
  where
    go : Sign z → pos 0 ≤ℤ (z *ℤ z)
    go (minus h) = <→≤ (mul_neg_neg h h)
    go (null e) = rw e (≤_refl (pos 0))
    go (plus h) = <→≤ (mul_pos_pos h h)

square_zero : {z : ℤ} → z *ℤ z ≡ pos 0 → z ≡ pos 0
square_zero {z} e = go (mul_zero z z e)
  where
    go : (z ≡ pos 0) ⊎ (z ≡ pos 0) → z ≡ pos 0
    go (inl h) = h
    go (inr h) = h

all_zero : {a b c : ℤ} → pos 0 ≤ℤ a → pos 0 ≤ℤ b → pos 0 ≤ℤ c → a +ℤ b +ℤ c ≡ pos 0 → (a ≡ pos 0) × (b ≡ pos 0) × (c ≡ pos 0)
all_zero {a} {b} {c} h k l e = (omega (arith, zs, sum_is a b, sum_is (a +ℤ b) c, pos_is 0), omega (arith, zs, sum_is a b, sum_is (a +ℤ b) c, pos_is 0), omega (arith, zs, sum_is a b, sum_is (a +ℤ b) c, pos_is 0))

pub dot_nonneg : (n : Point) → pos 0 ≤ℤ dot n n
dot_nonneg n = add_nonneg (add_nonneg (square_nonneg n.x) (square_nonneg n.y)) (square_nonneg n.z)

pub dot_zero : (n : Point) → dot n n ≡ pos 0 → (i : Axis) → on n i ≡ pos 0
dot_zero n e = go (all_zero (square_nonneg n.x) (square_nonneg n.y) (square_nonneg n.z) e)
  where
    go : (n.x *ℤ n.x ≡ pos 0) × (n.y *ℤ n.y ≡ pos 0) × (n.z *ℤ n.z ≡ pos 0) → (i : Axis) → on n i ≡ pos 0
    go s X = square_zero s.0
    go s Y = square_zero s.1
    go s Z = square_zero s.2

pub dot_pos : (n : Point) → T (not (is_origin n)) → pos 0 <ℤ dot n n
dot_pos n t = go (sign (dot n n))
  where
    go : Sign (dot n n) → pos 0 <ℤ dot n n
    go (minus h) = absurd (not_lt (dot_nonneg n) h)
    go (null e) = absurd (T_not (is_origin n) t (→origin n (dot_zero n e)))
    go (plus h) = h
