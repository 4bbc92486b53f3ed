-- Floats that hold integers, `Holds x z`: the sum, difference, product, negation, comparisons, casts, and that x + 0.0 is `of_int f z`, whose zero is +0.
-- Assumes nothing.
use mathlib.Core.Path.{◌≡◌, refl, sym, ap, ap₂, ◌∙◌, subst}
use Prim.Native.Nat.{ℕ, zero, suc, ◌+◌, ◌-◌, ◌*◌, ◌^◌, ◌≤◌, ◌<◌, zero-le}
use native.Mathlib.Nat.{mul-one, mul_comm, mul_assoc, mul-pos, mul-sub, add-zero, zero-mul, zero-lt-suc, mul-lt-mul_of_pos_right, mul-le-mul_right, eq_of_mul-eq-mul_right}
use native.Mathlib.Omega.{arith}
use mathlib.Core.Bool.{Bool, true, false, not, cond, beq, ◌&&◌, ◌||◌}
use lib.Dec.{T, ltb, leb, eqb, ltb→lt, nltb→le, lt→ltb, leb→le, le→leb, eqb→eq, leb-suc-suc, eqb-zero-suc, eqb-suc-zero, eqb-suc-suc}
use lib.IntN.{ℤ, pos, negsuc, neg_ℤ, nat_abs, ◌+ℤ◌, ◌-ℤ◌, ◌*ℤ◌, neg_ℤ-neg_ℤ, pos-ne-negsuc}
use lib.Signed.{lt_z, le_z}
use lib.Ieee.{Float, nan, inf, fin, Format, binary64, prec, up, down, unlike, round, sum, add, sub, mul, div, neg, lt, le, eq, below, level, of_int, of_bits, in_float}
use lib.Ieee.Fits.{down_pos, eq→eqb}
use lib.Ieee.Exact.{HasValue}
use lib.Ieee.Scale.{round_same}
use lib.Ieee.Back.{round_whole}
use lib.Ieee.Bits.{is_true}
use Rattle.laws.specs.Numbers.{eq_z}
use Rattle.laws.specs.Doubles.{signed, Holds}
use Rattle.laws.proofs.Tests.{by_test, same_test, and_true}
use Rattle.laws.proofs.Integers as I
use Rattle.laws.proofs.Integers.{ext, sum_is, up_neg, dn_neg, *ℤ-neg, neg-*ℤ}
use Rattle.laws.proofs.Order.{pos_is}
use Rattle.laws.proofs.WithinLaws.{abs_neg}

-- ---- a test with a known answer
pub yes_is : (a b : ℕ) → a < b → ltb a b ≡ true
yes_is a b h = is_true (ltb a b) (lt→ltb a b h)

pub no_is : (a b : ℕ) → b ≤ a → ltb a b ≡ false
no_is a b h = go (ltb a b) refl
  where
    clash : a < b → ⊥
    clash k = omega arith

    go : (c : Bool) → ltb a b ≡ c → ltb a b ≡ false
    go false e = e
    go true e = absurd (clash (ltb→lt a b (subst T (sym e) tt)))

ltb_scale : (m n c : ℕ) → 0 < c → ltb (m * c) (n * c) ≡ ltb m n
ltb_scale m n c h = go (ltb m n) refl
  where
    go : (b : Bool) → ltb m n ≡ b → ltb (m * c) (n * c) ≡ ltb m n
    go true e = yes_is (m * c) (n * c) (mul-lt-mul_of_pos_right (ltb→lt m n (subst T (sym e) tt)) h) ∙ sym e
    go false e = no_is (m * c) (n * c) (mul-le-mul_right c (nltb→le m n (subst (λ (b : Bool). T (not b)) (sym e) tt))) ∙ sym e

-- ---- `round` at a whole number
abs_signed : (s : Bool) (n : ℕ) → nat_abs (signed s n) ≡ n
abs_signed false n = refl
abs_signed true n = abs_neg (pos n)

-- the size of what a float holds is the integer's
pub size_is : {x : Float} {z : ℤ} (h : Holds x z) → h.size ≡ nat_abs z
size_is h = sym (abs_signed h.sign h.size) ∙ ap nat_abs h.is

pub round_holds : (f : Format) (s : Bool) (n : ℕ) (z : ℤ) → nat_abs z ≤ 2 ^ prec f → signed s n ≡ z → Holds (round f s n 1) z
round_holds f s n z h e = record { sign = s; size = n; value = round_whole f s n (subst (λ (k : ℕ). k ≤ 2 ^ prec f) (sym (ap nat_abs e) ∙ abs_signed s n) h); is = e }

round_scale : (f : Format) (s : Bool) (n c m : ℕ) → 0 < c → m ≡ n * c → round f s m c ≡ round f s n 1
round_scale f s n c m h e = round_same f s m c n 1 h (zero-lt-suc 0) (mul-one m ∙ e)

-- ---- the sum
diff_scale : (m n c : ℕ) → m * c - n * c ≡ (m - n) * c
diff_scale m n c = sym (mul_comm (m - n) c ∙ mul-sub c m n ∙ ap₂ ◌-◌ (mul_comm c m) (mul_comm c n))

sum_scale : (f : Format) (s : Bool) (m : ℕ) (t : Bool) (n c : ℕ) → 0 < c → sum f s (m * c) t (n * c) c ≡ sum f s m t n 1
unfolding sum
sum_scale f false m false n c h = round_scale f false (m + n) c (m * c + n * c) h (omega arith)
sum_scale f true m true n c h = round_scale f true (m + n) c (m * c + n * c) h (omega arith)
sum_scale f false m true n c h =
    ap (λ (b : Bool). cond b (round f true (n * c - m * c) c) (round f false (m * c - n * c) c)) (ltb_scale m n c h)
    ∙ ap₂ (cond (ltb m n)) (round_scale f true (n - m) c (n * c - m * c) h (diff_scale n m c)) (round_scale f false (m - n) c (m * c - n * c) h (diff_scale m n c))
sum_scale f true m false n c h =
    ap₂ (λ (b d : Bool). cond b (round f false (n * c - m * c) c) (round f d (m * c - n * c) c)) (ltb_scale m n c h) (ltb_scale n m c h)
    ∙ ap₂ (cond (ltb m n)) (round_scale f false (n - m) c (n * c - m * c) h (diff_scale n m c)) (round_scale f (ltb n m) (m - n) c (m * c - n * c) h (diff_scale m n c))

-- the sum of two floats with whole values
pub add_is : (f : Format) (x y : Float) (s : Bool) (m : ℕ) (t : Bool) (n : ℕ) → HasValue x s m 1 → HasValue y t n 1 → add f x y ≡ sum f s m t n 1
unfolding add
add_is f nan y s m t n v w = absurd v
add_is f (inf u) y s m t n v w = absurd v
add_is f (fin u a e) nan s m t n v w = absurd w
add_is f (fin u a e) (inf r) s m t n v w = absurd w
add_is f (fin u a e) (fin r b d) s m t n v w =
    let c = down e * down d in
    let p : a * up e * down d ≡ m * c = ap (λ (k : ℕ). k * down d) (sym (mul-one (a * up e)) ∙ v.1) ∙ mul_assoc m (down e) (down d) in
    let q : b * up d * down e ≡ n * c = ap (λ (k : ℕ). k * down e) (sym (mul-one (b * up d)) ∙ w.1) ∙ mul_assoc n (down d) (down e) ∙ ap (λ (k : ℕ). n * k) (mul_comm (down d) (down e)) in
    (λ i. sum f (v.0 i) (p i) (w.0 i) (q i) c) ∙ sum_scale f s m t n c (mul-pos (down_pos e) (down_pos d))

-- the two parts of ±n
signed_parts : (s : Bool) (n : ℕ) → (I.up (signed s n) ≡ cond s 0 n) × (I.dn (signed s n) ≡ cond s n 0)
signed_parts false n = pos_is n
signed_parts true n = (up_neg (pos n) ∙ (pos_is n).1, dn_neg (pos n) ∙ (pos_is n).0)

-- ±k is ±m ± n where the naturals say so
signed_sum : (r : Bool) (k : ℕ) (s : Bool) (m : ℕ) (t : Bool) (n : ℕ) → cond r 0 k + (cond s m 0 + cond t n 0) ≡ cond s 0 m + cond t 0 n + cond r k 0
    → signed r k ≡ signed s m +ℤ signed t n
signed_sum r k s m t n h = ext (signed r k) (signed s m +ℤ signed t n)
    (omega (arith, sum_is (signed s m) (signed t n), signed_parts r k, signed_parts s m, signed_parts t n))

sum_holds : (f : Format) (s : Bool) (m : ℕ) (t : Bool) (n : ℕ) (z : ℤ) → signed s m +ℤ signed t n ≡ z → nat_abs z ≤ 2 ^ prec f → Holds (sum f s m t n 1) z
unfolding sum
sum_holds f false m false n z e h = round_holds f false (m + n) z h e
sum_holds f true m true n z e h = round_holds f true (m + n) z h (signed_sum true (m + n) true m true n (omega arith) ∙ e)
sum_holds f false m true n z e h =
    by_test (ltb m n) (round f true (n - m) 1) (round f false (m - n) 1) (λ (x : Float). Holds x z)
    (λ t. round_holds f true (n - m) z h (signed_sum true (n - m) false m true n (less (ltb→lt m n t)) ∙ e))
    (λ t. round_holds f false (m - n) z h (signed_sum false (m - n) false m true n (more (nltb→le m n t)) ∙ e))
  where
    less : m < n → 0 + (0 + n) ≡ m + 0 + (n - m)
    less l = omega arith

    more : n ≤ m → m - n + (0 + n) ≡ m + 0 + 0
    more l = omega arith
sum_holds f true m false n z e h =
    by_test (ltb m n) (round f false (n - m) 1) (round f (ltb n m) (m - n) 1) (λ (x : Float). Holds x z)
    (λ t. round_holds f false (n - m) z h (signed_sum false (n - m) true m false n (less (ltb→lt m n t)) ∙ e))
    (λ t. go (ltb n m) (ltb→lt n m) (nltb→le n m) (nltb→le m n t))
  where
    less : m < n → n - m + (m + 0) ≡ 0 + n + 0
    less l = omega arith

    more : n < m → 0 + (m + 0) ≡ 0 + n + (m - n)
    more l = omega arith

    equal : n ≤ m → m ≤ n → m - n + (m + 0) ≡ 0 + n + 0
    equal l k = omega arith

    go : (b : Bool) → (T b → n < m) → (T (not b) → m ≤ n) → n ≤ m → Holds (round f b (m - n) 1) z
    go true p q r = round_holds f true (m - n) z h (signed_sum true (m - n) true m false n (more (p tt)) ∙ e)
    go false p q r = round_holds f false (m - n) z h (signed_sum false (m - n) true m false n (equal r (q tt)) ∙ e)

pub add_holds : (f : Format) {x y : Float} {a b : ℤ} → nat_abs (a +ℤ b) ≤ 2 ^ prec f → Holds x a → Holds y b → Holds (add f x y) (a +ℤ b)
add_holds f {x} {y} {a} {b} l h k =
    subst (λ (r : Float). Holds r (a +ℤ b)) (sym (add_is f x y h.sign h.size k.sign k.size h.value k.value))
    (sum_holds f h.sign h.size k.sign k.size (a +ℤ b) (ap₂ ◌+ℤ◌ h.is k.is) l)

-- ---- the negation, and the difference
signed_not : (s : Bool) (n : ℕ) → signed (not s) n ≡ neg_ℤ (signed s n)
signed_not false n = refl
signed_not true n = sym (neg_ℤ-neg_ℤ (pos n))

neg_value : (x : Float) (s : Bool) (n : ℕ) → HasValue x s n 1 → HasValue (neg x) (not s) n 1
unfolding neg
neg_value nan s n v = absurd v
neg_value (inf t) s n v = absurd v
neg_value (fin t m e) s n v = (ap not v.0, v.1)

pub neg_holds : {x : Float} {a : ℤ} → Holds x a → Holds (neg x) (neg_ℤ a)
neg_holds {x} {a} h = record { sign = not h.sign; size = h.size; value = neg_value x h.sign h.size h.value; is = signed_not h.sign h.size ∙ ap neg_ℤ h.is }

pub sub_holds : (f : Format) {x y : Float} {a b : ℤ} → nat_abs (a -ℤ b) ≤ 2 ^ prec f → Holds x a → Holds y b → Holds (sub f x y) (a -ℤ b)
unfolding sub
sub_holds f l h k = add_holds f l h (neg_holds k)

-- ---- the product
mul_signed : (s : Bool) (m : ℕ) (t : Bool) (n : ℕ) → signed (unlike s t) (m * n) ≡ signed s m *ℤ signed t n
mul_signed false m false n = refl
mul_signed false m true n = sym (*ℤ-neg (pos m) (pos n))
mul_signed true m false n = sym (neg-*ℤ (pos m) (pos n))
mul_signed true m true n = sym (neg-*ℤ (pos m) (neg_ℤ (pos n)) ∙ ap neg_ℤ (*ℤ-neg (pos m) (pos n)) ∙ neg_ℤ-neg_ℤ (pos (m * n)))

pub mul_is : (f : Format) (x y : Float) (s : Bool) (m : ℕ) (t : Bool) (n : ℕ) → HasValue x s m 1 → HasValue y t n 1 → mul f x y ≡ round f (unlike s t) (m * n) 1
unfolding mul
mul_is f nan y s m t n v w = absurd v
mul_is f (inf u) y s m t n v w = absurd v
mul_is f (fin u a e) nan s m t n v w = absurd w
mul_is f (fin u a e) (inf r) s m t n v w = absurd w
mul_is f (fin u a e) (fin r b d) s m t n v w =
    let c = down e * down d in
    (λ i. round f (unlike (v.0 i) (w.0 i)) (a * up e * (b * up d)) c)
    ∙ round_scale f (unlike s t) (m * n) c (a * up e * (b * up d)) (mul-pos (down_pos e) (down_pos d))
    (ap₂ ◌*◌ (sym (mul-one (a * up e)) ∙ v.1) (sym (mul-one (b * up d)) ∙ w.1) ∙ regroup m (down e) n (down d))
  where
    regroup : (m e n d : ℕ) → m * e * (n * d) ≡ m * n * (e * d)
    regroup m e n d = omega arith

pub mul_holds : (f : Format) {x y : Float} {a b : ℤ} → nat_abs (a *ℤ b) ≤ 2 ^ prec f → Holds x a → Holds y b → Holds (mul f x y) (a *ℤ b)
mul_holds f {x} {y} {a} {b} l h k =
    subst (λ (r : Float). Holds r (a *ℤ b)) (sym (mul_is f x y h.sign h.size k.sign k.size h.value k.value))
    (round_holds f (unlike h.sign k.sign) (h.size * k.size) (a *ℤ b) l (mul_signed h.sign h.size k.sign k.size ∙ ap₂ ◌*ℤ◌ h.is k.is))

-- ---- an integer as a float
pub of_int_holds : (f : Format) (z : ℤ) → nat_abs z ≤ 2 ^ prec f → Holds (of_int f z) z
unfolding of_int
of_int_holds f (pos n) h = round_holds f false n (pos n) h refl
of_int_holds f (negsuc n) h = round_holds f true (suc n) (negsuc n) h refl

-- ---- +0.0, and what adding it does: -0 becomes +0, and nothing else changes
pub zero_is : of_bits binary64 0 ≡ fin false 0 (pos 0)
unfolding of_bits
zero_is = refl

sum_zero : (f : Format) (s : Bool) (n : ℕ) → sum f s n false 0 1 ≡ of_int f (signed s n)
unfolding sum of_int
sum_zero f false n = ap (λ (k : ℕ). round f false k 1) (add-zero n)
sum_zero f true zero = refl
sum_zero f true (suc n) =
    ap₂ (λ (b d : Bool). cond b (round f false (0 - suc n) 1) (round f d (suc n - 0) 1)) (no_is (suc n) 0 (omega arith)) (yes_is 0 (suc n) (omega arith))
    ∙ ap (λ (k : ℕ). round f true k 1) e
  where
    e : suc n - 0 ≡ suc n
    e = omega arith

pub plus_zero : (f : Format) {x : Float} {z : ℤ} → Holds x z → add f x (fin false 0 (pos 0)) ≡ of_int f z
plus_zero f {x} {z} h = add_is f x (fin false 0 (pos 0)) h.sign h.size false 0 h.value (refl, refl) ∙ sum_zero f h.sign h.size ∙ ap (of_int f) h.is

-- the same for binary64, with 0.0 by its bit pattern, as MIR has a literal
pub plus_zero64 : {x : Float} {z : ℤ} → Holds x z → add binary64 x (of_bits binary64 0) ≡ of_int binary64 z
plus_zero64 {x} h = ap (add binary64 x) zero_is ∙ plus_zero binary64 h

-- ---- comparisons: those of the integers
suc_both : (m n : ℕ) → ltb (suc m) (suc n) ≡ ltb m n
suc_both m n = leb-suc-suc (suc m) n

below_signed : (s : Bool) (m : ℕ) (t : Bool) (n c : ℕ) → 0 < c → below s (m * c) t (n * c) ≡ lt_z (signed s m) (signed t n)
below_signed false m false n c h = ltb_scale m n c h
below_signed false m true zero c h = sym (no_is m 0 zero-le)
below_signed false m true (suc n) c h = refl
below_signed true zero false n c h = ap (λ (k : ℕ). ltb 0 k) e ∙ ap (λ (k : ℕ). ltb k (n * c)) (sym (zero-mul c)) ∙ ltb_scale 0 n c h
  where
    e : zero * c + n * c ≡ n * c
    e = omega arith
below_signed true (suc m) false n c h = yes_is 0 (suc m * c + n * c) (omega (arith, mul-pos (zero-lt-suc m) h))
below_signed true zero true zero c h = ltb_scale 0 0 c h
below_signed true zero true (suc n) c h = ltb_scale (suc n) 0 c h ∙ no_is (suc n) 0 zero-le
below_signed true (suc m) true zero c h = ltb_scale 0 (suc m) c h ∙ yes_is 0 (suc m) (zero-lt-suc m)
below_signed true (suc m) true (suc n) c h = ltb_scale (suc n) (suc m) c h ∙ suc_both n m

scaled_l : (e d : ℤ) (a m : ℕ) → a * up e * 1 ≡ m * down e → a * up e * down d ≡ m * (down e * down d)
scaled_l e d a m v = ap (λ (k : ℕ). k * down d) (sym (mul-one (a * up e)) ∙ v) ∙ mul_assoc m (down e) (down d)

scaled_r : (e d : ℤ) (b n : ℕ) → b * up d * 1 ≡ n * down d → b * up d * down e ≡ n * (down e * down d)
scaled_r e d b n w = scaled_l d e b n w ∙ ap (λ (k : ℕ). n * k) (mul_comm (down d) (down e))

lt_at : (x y : Float) (s : Bool) (m : ℕ) (t : Bool) (n : ℕ) → HasValue x s m 1 → HasValue y t n 1 → lt x y ≡ lt_z (signed s m) (signed t n)
unfolding lt
lt_at nan y s m t n v w = absurd v
lt_at (inf u) y s m t n v w = absurd v
lt_at (fin u a e) nan s m t n v w = absurd w
lt_at (fin u a e) (inf r) s m t n v w = absurd w
lt_at (fin u a e) (fin r b d) s m t n v w =
    (λ i. below (v.0 i) (scaled_l e d a m v.1 i) (w.0 i) (scaled_r e d b n w.1 i)) ∙ below_signed s m t n (down e * down d) (mul-pos (down_pos e) (down_pos d))

pub lt_is : {x y : Float} {a b : ℤ} → Holds x a → Holds y b → lt x y ≡ lt_z a b
lt_is {x} {y} h k = lt_at x y h.sign h.size k.sign k.size h.value k.value ∙ ap₂ lt_z h.is k.is

eqb_scale : (m n c : ℕ) → 0 < c → eqb (m * c) (n * c) ≡ eqb m n
eqb_scale m n c h = same_test (eqb (m * c) (n * c)) (eqb m n)
    (λ t. eq→eqb (eq_of_mul-eq-mul_right c h m n (eqb→eq (m * c) (n * c) t)))
    (λ t. eq→eqb (ap (λ (k : ℕ). k * c) (eqb→eq m n t)))

level_scale : (s : Bool) (m : ℕ) (t : Bool) (n c : ℕ) → 0 < c → level s (m * c) t (n * c) ≡ level s m t n
level_scale s m t n c h = ap₂ (λ (p q : Bool). p && (beq s t || q)) (eqb_scale m n c h) (ap (λ (k : ℕ). eqb (m * c) k) (sym (zero-mul c)) ∙ eqb_scale m 0 c h)

level_signed : (s : Bool) (m : ℕ) (t : Bool) (n : ℕ) → level s m t n ≡ eq_z (signed s m) (signed t n)
level_signed false m false n = and_true (eqb m n)
level_signed false zero true zero = refl
level_signed false zero true (suc n) = ap (λ (b : Bool). b && (false || true)) (eqb-zero-suc n)
level_signed false (suc m) true zero = ap₂ (λ (b d : Bool). b && (false || d)) (eqb-suc-zero m) (eqb-suc-zero m) ∙ sym (eqb-suc-zero m)
level_signed false (suc m) true (suc n) = ap (λ (d : Bool). eqb (suc m) (suc n) && (false || d)) (eqb-suc-zero m) ∙ and_false (eqb (suc m) (suc n))
  where
    and_false : (p : Bool) → p && false ≡ false
    and_false true = refl
    and_false false = refl
level_signed true zero false zero = refl
level_signed true zero false (suc n) = ap (λ (b : Bool). b && (false || true)) (eqb-zero-suc n) ∙ sym (eqb-zero-suc n)
level_signed true (suc m) false zero = ap₂ (λ (b d : Bool). b && (false || d)) (eqb-suc-zero m) (eqb-suc-zero m)
level_signed true (suc m) false (suc n) = ap (λ (d : Bool). eqb (suc m) (suc n) && (false || d)) (eqb-suc-zero m) ∙ and_false (eqb (suc m) (suc n))
  where
    and_false : (p : Bool) → p && false ≡ false
    and_false true = refl
    and_false false = refl
level_signed true zero true zero = refl
level_signed true zero true (suc n) = and_true (eqb 0 (suc n)) ∙ eqb-zero-suc n
level_signed true (suc m) true zero = and_true (eqb (suc m) 0) ∙ eqb-suc-zero m
level_signed true (suc m) true (suc n) = and_true (eqb (suc m) (suc n)) ∙ eqb-suc-suc m n

eq_at : (x y : Float) (s : Bool) (m : ℕ) (t : Bool) (n : ℕ) → HasValue x s m 1 → HasValue y t n 1 → eq x y ≡ eq_z (signed s m) (signed t n)
unfolding eq
eq_at nan y s m t n v w = absurd v
eq_at (inf u) y s m t n v w = absurd v
eq_at (fin u a e) nan s m t n v w = absurd w
eq_at (fin u a e) (inf r) s m t n v w = absurd w
eq_at (fin u a e) (fin r b d) s m t n v w =
    (λ i. level (v.0 i) (scaled_l e d a m v.1 i) (w.0 i) (scaled_r e d b n w.1 i))
    ∙ level_scale s m t n (down e * down d) (mul-pos (down_pos e) (down_pos d)) ∙ level_signed s m t n

pub eq_is : {x y : Float} {a b : ℤ} → Holds x a → Holds y b → eq x y ≡ eq_z a b
eq_is {x} {y} h k = eq_at x y h.sign h.size k.sign k.size h.value k.value ∙ ap₂ eq_z h.is k.is

-- ---- the quotient: of p and q above 0 held, ±(p / q) rounded once
pub div_is : (f : Format) (x y : Float) (s : Bool) (m : ℕ) (t : Bool) (n : ℕ) → 0 < n → HasValue x s m 1 → HasValue y t n 1 → div f x y ≡ round f (unlike s t) m n
unfolding div
div_is f nan y s m t n p v w = absurd v
div_is f (inf u) y s m t n p v w = absurd v
div_is f (fin u a e) nan s m t n p v w = absurd w
div_is f (fin u a e) (inf r) s m t n p v w = absurd w
div_is f (fin u a e) (fin r b d) s m t n p v w =
    let c = down e * down d in
    let C : 0 < c = mul-pos (down_pos e) (down_pos d) in
    ap (λ (z : Bool). cond z (cond (eqb a 0) nan (inf (unlike u r))) (round f (unlike u r) (a * up e * down d) (b * up d * down e))) (nz b n p (up d) (down d) (down_pos d) w.1)
    ∙ (λ i. round f (unlike (v.0 i) (w.0 i)) (scaled_l e d a m v.1 i) (scaled_r e d b n w.1 i))
    ∙ round_same f (unlike s t) (m * c) (n * c) m n (mul-pos p C) p (regroup m c n)
  where
    regroup : (m c n : ℕ) → m * c * n ≡ m * (n * c)
    regroup m c n = omega arith

    nz : (b n : ℕ) → 0 < n → (u d : ℕ) → 0 < d → b * u * 1 ≡ n * d → eqb b 0 ≡ false
    nz zero n p u d D h = absurd (clash (n * d) (mul-pos p D) (sym h ∙ mul-one (0 * u) ∙ zero-mul u))
      where
        clash : (k : ℕ) → 0 < k → k ≡ 0 → ⊥
        clash k q r = omega arith
    nz (suc b) n p u d D h = eqb-suc-zero b

-- ---- a float of the format that holds z and is not -0 is `of_int f z`
-- ---- the quotient of two held integers, the divisor above 0, is that of the integers' own floats. The numerator is not -0: it is `of_int f p` already, or p is not 0.
pub pos_held : {y : Float} {n : ℕ} (k : Holds y (pos (suc n))) → (k.sign ≡ false) × (k.size ≡ suc n)
pos_held {y} {n} k = go k.sign k.size k.is
  where
    go : (t : Bool) (m : ℕ) → signed t m ≡ pos (suc n) → (t ≡ false) × (m ≡ suc n)
    go false m e = (refl, ap nat_abs e)
    go true zero e = absurd (clash (ap nat_abs e))
      where
        clash : 0 ≡ suc n → ⊥
        clash h = omega arith
    go true (suc m) e = absurd (pos-ne-negsuc (suc n) m (sym e))

pub div_den : (f : Format) (x : Float) {y y' : Float} (n : ℕ) (s : Bool) (m : ℕ) → HasValue x s m 1 → Holds y (pos (suc n)) → Holds y' (pos (suc n)) → div f x y ≡ div f x y'
div_den f x {y} {y'} n s m v k l = is y k ∙ sym (is y' l)
  where
    is : (z : Float) (h : Holds z (pos (suc n))) → div f x z ≡ round f (unlike s false) m (suc n)
    is z h = div_is f x z s m h.sign h.size (subst (λ (j : ℕ). 0 < j) (sym (pos_held h).1) (zero-lt-suc n)) v h.value
        ∙ ap₂ (λ (t : Bool) (j : ℕ). round f (unlike s t) m j) (pos_held h).0 (pos_held h).1

-- x normalised by + 0.0, over y
pub div_holds : (f : Format) {x y : Float} {p q : ℤ} → nat_abs p ≤ 2 ^ prec f → nat_abs q ≤ 2 ^ prec f → T (lt_z (pos 0) q) → Holds x p → Holds y q
    → div f (add f x (fin false 0 (pos 0))) y ≡ div f (of_int f p) (of_int f q)
div_holds f {x} {y} {p} {q} l m t h k = ap (λ (u : Float). div f u y) (plus_zero f h) ∙ go q m t k
  where
    go : (q : ℤ) → nat_abs q ≤ 2 ^ prec f → T (lt_z (pos 0) q) → Holds y q → div f (of_int f p) y ≡ div f (of_int f p) (of_int f q)
    go (pos zero) m t k = absurd t
    go (pos (suc n)) m t k = let u = of_int_holds f p l in div_den f (of_int f p) n u.sign u.size u.value k (of_int_holds f (pos (suc n)) m)
    go (negsuc n) m t k = absurd t

-- zero over a number above 0 is plus zero
pub zero_quotient : (f : Format) (q : ℤ) → nat_abs q ≤ 2 ^ prec f → T (lt_z (pos 0) q) → div f (of_int f (pos 0)) (of_int f q) ≡ of_int f (pos 0)
unfolding of_int
zero_quotient f (pos zero) m t = absurd t
zero_quotient f (pos (suc n)) m t =
    div_is f (round f false 0 1) (round f false (suc n) 1) false 0 false (suc n) (zero-lt-suc n) (round_whole f false 0 zero-le) (round_whole f false (suc n) m)
    ∙ round_same f false 0 (suc n) 0 1 (zero-lt-suc n) (zero-lt-suc 0) (sym (zero-mul (suc n)))
zero_quotient f (negsuc n) m t = absurd t

-- ---- `<=` of two held integers
le_split : (a b : ℕ) → ltb a b || eqb a b ≡ leb a b
le_split a b = same_test (ltb a b || eqb a b) (leb a b)
    (λ t. le→leb a b (go (ltb a b) (eqb a b) (ltb→lt a b) (eqb→eq a b) t))
    (λ t. back (ltb a b) (eqb a b) (nltb→le a b) (leb→le a b t))
  where
    l₁ : a < b → a ≤ b
    l₁ h = omega arith

    l₂ : a ≡ b → a ≤ b
    l₂ h = omega arith

    l₃ : b ≤ a → a ≤ b → a ≡ b
    l₃ h k = omega arith

    go : (x y : Bool) → (T x → a < b) → (T y → a ≡ b) → T (x || y) → a ≤ b
    go true y f g t = l₁ (f tt)
    go false true f g t = l₂ (g tt)
    go false false f g t = absurd t

    back : (x y : Bool) → (T (not x) → b ≤ a) → a ≤ b → T (x || eqb a b)
    back true y f h = tt
    back false y f h = eq→eqb (l₃ (f tt) h)

le_z_split : (a b : ℤ) → lt_z a b || eq_z a b ≡ le_z a b
le_z_split (pos a) (pos b) = le_split a b
le_z_split (pos a) (negsuc b) = refl
le_z_split (negsuc a) (pos b) = refl
le_z_split (negsuc a) (negsuc b) = ap (λ (t : Bool). ltb b a || t) (same_test (eqb a b) (eqb b a) (λ t. eq→eqb (sym (eqb→eq a b t))) (λ t. eq→eqb (sym (eqb→eq b a t)))) ∙ le_split b a

pub le_is : {x y : Float} {a b : ℤ} → Holds x a → Holds y b → le x y ≡ le_z a b
unfolding le
le_is {a = a} {b = b} h k = ap₂ ◌||◌ (lt_is h k) (eq_is h k) ∙ le_z_split a b

-- ---- what `n as f64` asks of an i64: its size is at most 2 ^ 53
pub in_float_lem : (f : Format) (z : ℤ) → nat_abs z ≤ 2 ^ prec f → T (in_float f z)
unfolding in_float
in_float_lem f (pos n) h = le→leb n (2 ^ prec f) h
in_float_lem f (negsuc n) h = lt→ltb n (2 ^ prec f) h
