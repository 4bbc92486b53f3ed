-- `Exact B x z`: the f64 x holds the integer z, and z is at most B in size. A chain of sums and products is a term of the same shape as the code,
-- where each step's side condition is a test of numerals, `tt`. Assumes nothing.
use mathlib.Core.Path.{◌≡◌, refl, sym, ap, subst, ◌∙◌}
use Prim.Native.Nat.{ℕ, ◌+◌, ◌*◌, ◌^◌, ◌≤◌}
use native.Mathlib.Nat.{le_trans}
use lib.Dec.{T, leb, leb→le}
use lib.IntN.{ℤ, pos, neg_ℤ, nat_abs, ◌+ℤ◌, ◌-ℤ◌, ◌*ℤ◌}
use lib.Ieee.{Float, binary64, add, sub, mul, neg, of_int, of_bits, round}
use Rattle.laws.specs.Numbers.{Within}
use Rattle.laws.specs.Doubles.{double, plus_zero, Holds, Exactly}
use Rattle.laws.proofs.WithinLaws.{within_add, within_sub, within_mul, within_neg}
use Rattle.laws.proofs.Doubles.{add_holds, sub_holds, mul_holds, neg_holds, of_int_holds, plus_zero64}

pub record Exact (B : ℕ) (x : Float) (z : ℤ) : Type 0 where
  pub holds : Holds x z
  pub bound : Within B z

room : {A : ℕ} {z : ℤ} → T (leb A (2 ^ 53)) → Within A z → nat_abs z ≤ 2 ^ 53
room {A} t h = le_trans h.within (leb→le A (2 ^ 53) t)

pub e_int : {B : ℕ} {z : ℤ} → T (leb B (2 ^ 53)) → Within B z → Exact B (of_int binary64 z) z
e_int {B} {z} t h = record { holds = of_int_holds binary64 z (room t h); bound = h }

pub e_add : {A B : ℕ} {x y : Float} {a b : ℤ} → T (leb (A + B) (2 ^ 53)) → Exact A x a → Exact B y b → Exact (A + B) (add binary64 x y) (a +ℤ b)
e_add t h k = record { holds = add_holds binary64 (room t (within_add h.bound k.bound)) h.holds k.holds; bound = within_add h.bound k.bound }

pub e_sub : {A B : ℕ} {x y : Float} {a b : ℤ} → T (leb (A + B) (2 ^ 53)) → Exact A x a → Exact B y b → Exact (A + B) (sub binary64 x y) (a -ℤ b)
e_sub t h k = record { holds = sub_holds binary64 (room t (within_sub h.bound k.bound)) h.holds k.holds; bound = within_sub h.bound k.bound }

pub e_mul : {A B : ℕ} {x y : Float} {a b : ℤ} → T (leb (A * B) (2 ^ 53)) → Exact A x a → Exact B y b → Exact (A * B) (mul binary64 x y) (a *ℤ b)
e_mul t h k = record { holds = mul_holds binary64 (room t (within_mul h.bound k.bound)) h.holds k.holds; bound = within_mul h.bound k.bound }

pub e_neg : {A : ℕ} {x : Float} {a : ℤ} → Exact A x a → Exact A (neg x) (neg_ℤ a)
e_neg h = record { holds = neg_holds h.holds; bound = within_neg h.bound }

pub e_done : {A : ℕ} {x : Float} {a : ℤ} → Exact A x a → add binary64 x (of_bits binary64 0) ≡ of_int binary64 a
e_done h = plus_zero64 h.holds

-- x + 0.0 holds what x holds
pub e_plus0 : {A : ℕ} {x : Float} {a : ℤ} → T (leb A (2 ^ 53)) → Exact A x a → Exact A (add binary64 x (of_bits binary64 0)) a
e_plus0 {A} {x} {a} t h = subst (λ (y : Float). Exact A y a) (sym (e_done h)) (e_int t h.bound)

-- from a contract that says x ≡ of_int binary64 z
pub e_of : {A : ℕ} {x : Float} {z : ℤ} → T (leb A (2 ^ 53)) → x ≡ of_int binary64 z → Within A z → Exact A x z
e_of {A} {x} {z} t e h = subst (λ (y : Float). Exact A y z) (sym e) (e_int t h)

-- ---- the double of a whole number within 2^53 is exactly that number
pub plus_zero_is : plus_zero ≡ double (pos 0)
unfolding of_int of_bits round
plus_zero_is = refl

pub e_exactly : {B : ℕ} {z : ℤ} → T (leb B (2 ^ 53)) → Within B z → Exactly (double z) z
e_exactly t h = record { value = (e_int t h).holds; zero = λ e. ap double e ∙ sym plus_zero_is }
