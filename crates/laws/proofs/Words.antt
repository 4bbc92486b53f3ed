-- Signed machine arithmetic that cannot overflow. `Reads B y z`: the number y that the machine works with is the whole number z, at most B in size.
-- A chain of operations is a term of the code's shape; each step's side condition is a test of numerals, `tt`.
use mathlib.Core.Path.{◌≡◌, refl, sym, ap, ap₂, subst, ◌∙◌}
use Prim.Native.Nat.{ℕ, ◌+◌, ◌*◌, ◌^◌, ◌<◌}
use native.Mathlib.Nat.{lt_of_lt_of_le, lt_of_le_of_lt}
use lib.Dec.{T, ltb, ltb→lt, lit<, lit≤, eqb, eqb→eq, eqb_refl}
use lib.IntN.{ℤ, pos, negsuc, neg_ℤ, nat_abs, ◌+ℤ◌, ◌-ℤ◌, ◌*ℤ◌, +ℤ_idl}
use lib.Signed.{◌≤ℤ◌, ◌<ℤ◌, quot_z, rem_z, non_neg, yes_non_neg, pos-nat_abs, nat_abs-le}
use mir.Syntax.{Width, w32, w64}
use mir.Val.{Fits, SFits, to_z, of_z, hbits}
use mir.ValLaws.{to_z-of_z}
use Rattle.laws.specs.Numbers.{Within, eq_z}
use Rattle.laws.proofs.Tests.{same_test}
use Rattle.laws.proofs.Order.{eq_z→eq, eq_z_refl}
use Rattle.laws.proofs.WithinLaws.{within_add, within_sub, within_mul, within_neg, within_quot, within_rem, within_fits}

pub record Reads (B : ℕ) (y z : ℤ) : Type 0 where
  pub is : y ≡ z
  pub bound : Within B z

-- what it says of the machine's number itself
pub size : {B : ℕ} {y z : ℤ} → Reads B y z → Within B y
size {B} h = subst (Within B) (sym h.is) h.bound

pub r_int : {B : ℕ} {z : ℤ} → Within B z → Reads B z z
r_int h = record { is = refl; bound = h }

module _ {A B : ℕ} {x y a b : ℤ} (h : Reads A x a) (k : Reads B y b) where
  pub r_add : Reads (A + B) (x +ℤ y) (a +ℤ b)
  r_add = record { is = ap₂ ◌+ℤ◌ h.is k.is; bound = within_add h.bound k.bound }

  pub r_sub : Reads (A + B) (x -ℤ y) (a -ℤ b)
  r_sub = record { is = ap₂ ◌-ℤ◌ h.is k.is; bound = within_sub h.bound k.bound }

  pub r_mul : Reads (A * B) (x *ℤ y) (a *ℤ b)
  r_mul = record { is = ap₂ ◌*ℤ◌ h.is k.is; bound = within_mul h.bound k.bound }

  -- a division asks besides that the bits of the divisor are not 0
  pub r_quot : Reads A (quot_z x y) (quot_z a b)
  r_quot = record { is = ap₂ quot_z h.is k.is; bound = within_quot b h.bound }

  pub r_rem : Reads A (rem_z x y) (rem_z a b)
  r_rem = record { is = ap₂ rem_z h.is k.is; bound = within_rem b h.bound }

pub bits_pos : (w : Width) {z : ℤ} → pos 0 <ℤ z → 0 < of_z w z
bits_pos w {z = pos n} h = ltb→lt 0 n h.lt
bits_pos w {z = negsuc n} h = absurd h.lt

-- the machine has -x as 0 - x
pub r_neg : {A : ℕ} {x a : ℤ} → Reads A x a → Reads A (pos 0 -ℤ x) (neg_ℤ a)
r_neg {A} {x} {a} h = record { is = +ℤ_idl (neg_ℤ x) ∙ ap neg_ℤ h.is; bound = within_neg h.bound }

-- what an operation at width w asks, and its result once stored and read back
module _ (w : Width) {A : ℕ} {x a : ℤ} (h : Reads A x a) (t : T (ltb A (2 ^ hbits w))) where
  pub fits : SFits w x
  fits = subst (SFits w) (sym h.is) (within_fits w (ltb→lt A (2 ^ hbits w) t) h.bound)

  pub stored : Reads A (to_z w (of_z w x)) a
  stored = record { is = to_z-of_z w x fits ∙ h.is; bound = h.bound }

-- a parameter, a field or an element that is known to be small
pub r_i32 : {B : ℕ} {z : ℤ} → T (ltb B (2 ^ 31)) → Within B z → Reads B (to_z w32 (of_z w32 z)) z
r_i32 t h = stored w32 (r_int h) t

pub r_i64 : {B : ℕ} {z : ℤ} → T (ltb B (2 ^ 63)) → Within B z → Reads B (to_z w64 (of_z w64 z)) z
r_i64 t h = stored w64 (r_int h) t

-- an i32 `as i64`
module _ {z : ℤ} (h : SFits w32 z) where
  pub wide_fits : SFits w64 (to_z w32 (of_z w32 z))
  wide_fits = rw (to_z-of_z w32 z h) (record { sfits = lt_of_lt_of_le h.sfits (lit≤ tt) })

  pub wide_is : to_z w64 (of_z w64 (to_z w32 (of_z w32 z))) ≡ z
  wide_is = to_z-of_z w64 (to_z w32 (of_z w32 z)) wide_fits ∙ to_z-of_z w32 z h

-- an i64 that is not below 0 `as u64`
module _ {z : ℤ} (h : pos 0 ≤ℤ z) (f : SFits w64 z) where
  pub natural_fits : T (non_neg (to_z w64 (of_z w64 z))) × Fits w64 (nat_abs (to_z w64 (of_z w64 z)))
  natural_fits = rw (to_z-of_z w64 z f) (yes_non_neg h, record { fits = lt_of_le_of_lt (nat_abs-le z f.sfits) (lit< tt) })

  pub natural_is : pos (nat_abs (to_z w64 (of_z w64 z))) ≡ z
  natural_is = rw (to_z-of_z w64 z f) (pos-nat_abs z (yes_non_neg h))

-- `==` of two signed numbers is a test of their bits
pub eq_test : (w : Width) {a b : ℤ} → SFits w a → SFits w b → eqb (of_z w a) (of_z w b) ≡ eq_z a b
eq_test w {a} {b} h k =
    same_test (eqb (of_z w a) (of_z w b)) (eq_z a b)
    (λ t. subst (λ (z : ℤ). T (eq_z a z)) (sym (to_z-of_z w a h) ∙ ap (to_z w) (eqb→eq (of_z w a) (of_z w b) t) ∙ to_z-of_z w b k) (eq_z_refl a))
    (λ t. subst (λ (z : ℤ). T (eqb (of_z w a) (of_z w z))) (eq_z→eq a b t) (eqb_refl (of_z w a)))
