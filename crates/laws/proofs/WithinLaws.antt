-- How large a sum, a difference and a product can be, and which signed widths hold them.
use mathlib.Core.Path.{◌≡◌, refl}
use Prim.Native.Nat.{ℕ, zero, suc, ◌+◌, ◌*◌, ◌/◌, ◌%◌, ◌^◌, ◌≤◌, ◌<◌}
use native.Mathlib.Nat.{le_trans, mul-le-mul, div-le_self, mod-le}
use native.Mathlib.Omega.{arith}
use lib.IntN.{ℤ, pos, negsuc, neg_ℤ, nat_abs, ◌+ℤ◌, ◌-ℤ◌, ◌*ℤ◌}
use lib.Signed.{mag, quot_z, rem_z}
use mir.Syntax.{Width}
use mir.Val.{SFits, hbits}
use Rattle.laws.specs.Numbers.{Within}
use Rattle.laws.proofs.Integers.{up, dn, sum_is}

pub abs_neg : (z : ℤ) → nat_abs (neg_ℤ z) ≡ nat_abs z
abs_neg (pos zero) = refl
abs_neg (pos (suc n)) = refl
abs_neg (negsuc n) = refl

-- z is p − q, and neither is above k
under : (z : ℤ) (p q k : ℕ) → up z + q ≡ p + dn z → p ≤ k → q ≤ k → nat_abs z ≤ k
unfolding up dn
under (pos n) p q k e h g = omega arith
under (negsuc n) p q k e h g = omega arith

parts : (z : ℤ) → (up z ≤ nat_abs z) × (dn z ≤ nat_abs z)
unfolding up dn
parts (pos n) = omega arith
parts (negsuc n) = omega arith

abs_mul : (x y : ℤ) → nat_abs (x *ℤ y) ≡ nat_abs x * nat_abs y
abs_mul (pos a) (pos b) = refl
abs_mul (pos a) (negsuc b) = abs_neg (pos (a * suc b))
abs_mul (negsuc a) (pos b) = abs_neg (pos (suc a * b))
abs_mul (negsuc a) (negsuc b) = refl

mag_abs : (z : ℤ) → mag z ≤ nat_abs z
mag_abs (pos n) = omega arith
mag_abs (negsuc n) = omega arith

pub within_more : {A B : ℕ} {x : ℤ} → A ≤ B → Within A x → Within B x
within_more l h = record { within = le_trans h.within l }

pub within_neg : {A : ℕ} {x : ℤ} → Within A x → Within A (neg_ℤ x)
within_neg {A} {x} h = record { within = omega (arith, abs_neg x) }

module _ {A B : ℕ} {x y : ℤ} (h : Within A x) (k : Within B y) where
  pub within_add : Within (A + B) (x +ℤ y)
  within_add = record { within = under (x +ℤ y) (up x + up y) (dn x + dn y) (A + B) (sum_is x y) (omega (arith, parts x, parts y)) (omega (arith, parts x, parts y)) }

  pub within_mul : Within (A * B) (x *ℤ y)
  within_mul = record { within = rw (abs_mul x y) (mul-le-mul h.within k.within) }

pub within_sub : {A B : ℕ} {x y : ℤ} → Within A x → Within B y → Within (A + B) (x -ℤ y)
within_sub h k = within_add h (within_neg k)

-- a quotient rounded towards 0, and its remainder
abs_quot : (x y : ℤ) → nat_abs (quot_z x y) ≤ nat_abs x
abs_quot (pos a) (pos b) = div-le_self a b
abs_quot (pos a) (negsuc b) = omega (arith, abs_neg (pos (a / suc b)), div-le_self a (suc b))
abs_quot (negsuc a) (pos b) = omega (arith, abs_neg (pos (suc a / b)), div-le_self (suc a) b)
abs_quot (negsuc a) (negsuc b) = div-le_self (suc a) (suc b)

abs_rem : (x y : ℤ) → nat_abs (rem_z x y) ≤ nat_abs x
abs_rem (pos a) y = mod-le a (nat_abs y)
abs_rem (negsuc a) y = omega (arith, abs_neg (pos (suc a % nat_abs y)), mod-le (suc a) (nat_abs y))

module _ {A : ℕ} {x : ℤ} (y : ℤ) (h : Within A x) where
  pub within_quot : Within A (quot_z x y)
  within_quot = record { within = le_trans (abs_quot x y) h.within }

  pub within_rem : Within A (rem_z x y)
  within_rem = record { within = le_trans (abs_rem x y) h.within }

-- a signed width holds what is below half its power
pub within_fits : (w : Width) {A : ℕ} {x : ℤ} → A < 2 ^ hbits w → Within A x → SFits w x
within_fits w {A} {x} l h = record { sfits = omega (arith, mag_abs x, h.within) }
