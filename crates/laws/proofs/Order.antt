-- The order of ℤ, through omega: each statement on ℤ is read as one on the naturals up z and dn z (z is up z − dn z).
use mathlib.Core.Path.{◌≡◌, refl, sym, ◌∙◌, ap, subst}
use mathlib.Core.Logic.{◌≢◌, ◌⊎◌, inl, inr}
use Prim.Native.Nat.{ℕ, zero, suc, ◌+◌, ◌*◌, ◌<◌, ◌≤◌}
use native.Mathlib.Nat.{mul-pos}
use native.Mathlib.Omega.{arith}
use native.Mathlib.Decide.{dec_le}
use lib.Dec.{T, not_T, leb→le, le→leb, ltb→lt, lt→ltb, eqb→eq, eqb_refl}
use lib.IntN.{ℤ, pos, negsuc, neg_ℤ, ◌+ℤ◌, ◌-ℤ◌, ◌*ℤ◌, neg_ℤ-neg_ℤ, *ℤ-zero, *ℤ_comm}
use lib.Signed.{◌≤ℤ◌, ◌<ℤ◌, le_z, lt_z, <ℤ_irrefl, lt_z_no}
use mathlib.Core.Bool.{Bool, true, false, not}
use Rattle.laws.specs.Numbers.{eq_z}
use Rattle.laws.proofs.Tests.{is_true, is_false}
use Rattle.laws.proofs.Integers.{up, dn, ext, sum_is, dif_is, up_neg, dn_neg, neg-*ℤ, *ℤ-neg}

le→' : (a b : ℤ) → T (le_z a b) → up a + dn b ≤ up b + dn a
unfolding up dn
le→' (pos a) (pos b) t = omega (arith, leb→le a b t)
le→' (pos a) (negsuc b) t = absurd t
le→' (negsuc a) (pos b) t = omega arith
le→' (negsuc a) (negsuc b) t = omega (arith, leb→le b a t)

→le' : (a b : ℤ) → up a + dn b ≤ up b + dn a → T (le_z a b)
unfolding up dn
→le' (pos a) (pos b) h = le→leb a b (omega arith)
→le' (pos a) (negsuc b) h = absurd (omega arith)
→le' (negsuc a) (pos b) h = tt
→le' (negsuc a) (negsuc b) h = le→leb b a (omega arith)

lt→' : (a b : ℤ) → T (lt_z a b) → up a + dn b < up b + dn a
unfolding up dn
lt→' (pos a) (pos b) t = omega (arith, ltb→lt a b t)
lt→' (pos a) (negsuc b) t = absurd t
lt→' (negsuc a) (pos b) t = omega arith
lt→' (negsuc a) (negsuc b) t = omega (arith, ltb→lt b a t)

→lt' : (a b : ℤ) → up a + dn b < up b + dn a → T (lt_z a b)
unfolding up dn
→lt' (pos a) (pos b) h = lt→ltb a b (omega arith)
→lt' (pos a) (negsuc b) h = absurd (omega arith)
→lt' (negsuc a) (pos b) h = tt
→lt' (negsuc a) (negsuc b) h = lt→ltb b a (omega arith)

pub le→ : {a b : ℤ} → a ≤ℤ b → up a + dn b ≤ up b + dn a
le→ {a} {b} h = le→' a b h.le

pub →le : {a b : ℤ} → up a + dn b ≤ up b + dn a → a ≤ℤ b
→le {a} {b} h = record { le = →le' a b h }

pub lt→ : {a b : ℤ} → a <ℤ b → up a + dn b < up b + dn a
lt→ {a} {b} h = lt→' a b h.lt

pub →lt : {a b : ℤ} → up a + dn b < up b + dn a → a <ℤ b
→lt {a} {b} h = record { lt = →lt' a b h }

pub eq→ : {a b : ℤ} → a ≡ b → up a + dn b ≡ up b + dn a
eq→ {a} {b} e = ap (λ (z : ℤ). up z + dn b) e ∙ ap (λ (z : ℤ). up b + dn z) (sym e)

pub →eq : {a b : ℤ} → up a + dn b ≡ up b + dn a → a ≡ b
→eq {a} {b} h = ext a b h

-- a literal
pub pos_is : (n : ℕ) → (up (pos n) ≡ n) × (dn (pos n) ≡ 0)
unfolding up dn
pos_is n = (refl, refl)

-- the list: `omega (arith, zs, sum_is a b, dif_is c d, ..)`
pub ruleset zs = (le→, →le, lt→, →lt, eq→, →eq)

-- ---- its laws, each by one call
pub ≤_refl : (a : ℤ) → a ≤ℤ a
≤_refl a = omega (arith, zs)

pub ≤_trans : {a b c : ℤ} → a ≤ℤ b → b ≤ℤ c → a ≤ℤ c
≤_trans {a} {b} {c} h k = omega (arith, zs)

pub <_trans : {a b c : ℤ} → a <ℤ b → b <ℤ c → a <ℤ c
<_trans {a} {b} {c} h k = omega (arith, zs)

pub ≤-<_trans : {a b c : ℤ} → a ≤ℤ b → b <ℤ c → a <ℤ c
≤-<_trans {a} {b} {c} h k = omega (arith, zs)

pub <-≤_trans : {a b c : ℤ} → a <ℤ b → b ≤ℤ c → a <ℤ c
<-≤_trans {a} {b} {c} h k = omega (arith, zs)

pub <→≤ : {a b : ℤ} → a <ℤ b → a ≤ℤ b
<→≤ {a} {b} h = omega (arith, zs)

pub ≡→≤ : {a b : ℤ} → a ≡ b → a ≤ℤ b
≡→≤ {a} {b} e = omega (arith, zs)

pub antisymm : {a b : ℤ} → a ≤ℤ b → b ≤ℤ a → a ≡ b
antisymm {a} {b} h k = omega (arith, zs)

pub pos_mono : {m n : ℕ} → m < n → pos m <ℤ pos n
pos_mono {m} {n} h = omega (arith, zs, pos_is m, pos_is n)

pub suc_pos : (n : ℕ) → pos 0 <ℤ pos (suc n)
suc_pos n = pos_mono (omega arith)

pub negsuc_neg : (n : ℕ) → negsuc n <ℤ pos 0
negsuc_neg n = record { lt = tt }

pub pos_ne : {a : ℤ} → pos 0 <ℤ a → a ≢ pos 0
pos_ne h e = <ℤ_irrefl (subst (λ (z : ℤ). pos 0 <ℤ z) e h)

pub neg_ne : {a : ℤ} → a <ℤ pos 0 → a ≢ pos 0
neg_ne h e = <ℤ_irrefl (subst (λ (z : ℤ). z <ℤ pos 0) e h)

pub nat_not_neg : (n : ℕ) → pos n <ℤ pos 0 → ⊥
nat_not_neg n h = omega (arith, zs, pos_is n, pos_is 0)

pub sub_nonneg : {a b : ℤ} → a ≤ℤ b → pos 0 ≤ℤ (b -ℤ a)
sub_nonneg {a} {b} h = omega (arith, zs, dif_is b a, pos_is 0)

pub of_sub_nonneg : {a b : ℤ} → pos 0 ≤ℤ (b -ℤ a) → a ≤ℤ b
of_sub_nonneg {a} {b} h = omega (arith, zs, dif_is b a, pos_is 0)

pub sub_pos : {a b : ℤ} → a <ℤ b → pos 0 <ℤ (b -ℤ a)
sub_pos {a} {b} h = omega (arith, zs, dif_is b a, pos_is 0)

pub add_nonneg : {a b : ℤ} → pos 0 ≤ℤ a → pos 0 ≤ℤ b → pos 0 ≤ℤ (a +ℤ b)
add_nonneg {a} {b} h k = omega (arith, zs, sum_is a b, pos_is 0)

pub add_pos : {a b : ℤ} → pos 0 <ℤ a → pos 0 ≤ℤ b → pos 0 <ℤ (a +ℤ b)
add_pos {a} {b} h k = omega (arith, zs, sum_is a b, pos_is 0)

pub nonneg_add : {a b : ℤ} → pos 0 ≤ℤ a → pos 0 <ℤ b → pos 0 <ℤ (a +ℤ b)
nonneg_add {a} {b} h k = omega (arith, zs, sum_is a b, pos_is 0)

-- four numbers from 0 on whose sum is not above 0 are 0
pub four_zero : {w x y z : ℤ} → pos 0 ≤ℤ w → pos 0 ≤ℤ x → pos 0 ≤ℤ y → pos 0 ≤ℤ z → (w +ℤ x +ℤ y +ℤ z) ≤ℤ pos 0 → (w ≡ pos 0) × (x ≡ pos 0) × (y ≡ pos 0) × (z ≡ pos 0)
four_zero {w} {x} {y} {z} hw hx hy hz h = omega (arith, zs, sum_is w x, sum_is (w +ℤ x) y, sum_is (w +ℤ x +ℤ y) z, pos_is 0)

pub neg_mono : {a b : ℤ} → a ≤ℤ b → neg_ℤ b ≤ℤ neg_ℤ a
neg_mono {a} {b} h = omega (arith, zs, up_neg a, dn_neg a, up_neg b, dn_neg b)

pub neg_back : {a b : ℤ} → neg_ℤ b ≤ℤ neg_ℤ a → a ≤ℤ b
neg_back {a} {b} h = omega (arith, zs, up_neg a, dn_neg a, up_neg b, dn_neg b)

pub neg_pos : {a : ℤ} → a <ℤ pos 0 → pos 0 <ℤ neg_ℤ a
neg_pos {a} h = omega (arith, zs, up_neg a, dn_neg a, pos_is 0)

pub neg_neg : {a : ℤ} → pos 0 <ℤ a → neg_ℤ a <ℤ pos 0
neg_neg {a} h = omega (arith, zs, up_neg a, dn_neg a, pos_is 0)

-- a strict order is an order of the next
pub lt→le1 : {a b : ℤ} → a <ℤ b → (a +ℤ pos 1) ≤ℤ b
lt→le1 {a} {b} h = omega (arith, zs, sum_is a (pos 1), pos_is 1)

pub le1→lt : {a b : ℤ} → (a +ℤ pos 1) ≤ℤ b → a <ℤ b
le1→lt {a} {b} h = omega (arith, zs, sum_is a (pos 1), pos_is 1)

pub not_lt : {a b : ℤ} → a ≤ℤ b → b <ℤ a → ⊥
not_lt {a} {b} h k = omega (arith, zs)

pub below_or : (a b : ℤ) → (a ≤ℤ b) ⊎ (b <ℤ a)
below_or a b = go (dec_le (up a + dn b) (up b + dn a))
  where
    go : Dec (up a + dn b ≤ up b + dn a) → (a ≤ℤ b) ⊎ (b <ℤ a)
    go (yes h) = inl (→le h)
    go (no f) = inr (omega (arith, zs, f))

-- of two numbers that differ one is less
pub less_or : (a b : ℤ) → a ≢ b → (a <ℤ b) ⊎ (b <ℤ a)
less_or a b n = go (below_or a b)
  where
    go : (a ≤ℤ b) ⊎ (b <ℤ a) → (a <ℤ b) ⊎ (b <ℤ a)
    go (inl h) = let d : up a + dn b ≢ up b + dn a = λ e. n (→eq e) in inl (omega (arith, zs, d))
    go (inr h) = inr h

pub data Sign (z : ℤ) : Type 0 where
  minus : z <ℤ pos 0 → Sign z
  null : z ≡ pos 0 → Sign z
  plus : pos 0 <ℤ z → Sign z

pub sign : (z : ℤ) → Sign z
sign (pos zero) = null refl
sign (pos (suc n)) = plus (suc_pos n)
sign (negsuc n) = minus (negsuc_neg n)

-- ---- products
pub mul_nonneg : {a b : ℤ} → pos 0 ≤ℤ a → pos 0 ≤ℤ b → pos 0 ≤ℤ (a *ℤ b)
mul_nonneg {a = pos a} {b = pos b} h k = record { le = le→leb 0 (a * b) (omega arith) }
mul_nonneg {a = pos a} {b = negsuc b} h k = absurd k.le
mul_nonneg {a = negsuc a} {b} h k = absurd h.le

pub mul_pos_pos : {a b : ℤ} → pos 0 <ℤ a → pos 0 <ℤ b → pos 0 <ℤ (a *ℤ b)
mul_pos_pos {a = pos a} {b = pos b} h k = record { lt = lt→ltb 0 (a * b) (mul-pos (ltb→lt 0 a h.lt) (ltb→lt 0 b k.lt)) }
mul_pos_pos {a = pos a} {b = negsuc b} h k = absurd k.lt
mul_pos_pos {a = negsuc a} {b} h k = absurd h.lt

pub mul_neg_neg : {a b : ℤ} → a <ℤ pos 0 → b <ℤ pos 0 → pos 0 <ℤ (a *ℤ b)
mul_neg_neg {a} {b} h k = subst (λ (z : ℤ). pos 0 <ℤ z) (neg-*ℤ a (neg_ℤ b) ∙ ap neg_ℤ (*ℤ-neg a b) ∙ neg_ℤ-neg_ℤ (a *ℤ b)) (mul_pos_pos (neg_pos h) (neg_pos k))

pub mul_pos_neg : {a b : ℤ} → pos 0 <ℤ a → b <ℤ pos 0 → (a *ℤ b) <ℤ pos 0
mul_pos_neg {a} {b} h k = omega (arith, zs, lt→ (subst (λ (z : ℤ). pos 0 <ℤ z) (*ℤ-neg a b) (mul_pos_pos h (neg_pos k))), up_neg (a *ℤ b), dn_neg (a *ℤ b), pos_is 0)

-- a positive factor goes
pub cancel_pos : {a b : ℤ} → pos 0 <ℤ a → pos 0 <ℤ (a *ℤ b) → pos 0 <ℤ b
cancel_pos {a} {b} h k = go (sign b)
  where
    go : Sign b → pos 0 <ℤ b
    go (minus n) = absurd (not_lt (<→≤ k) (mul_pos_neg h n))
    go (null e) = absurd (<ℤ_irrefl (subst (λ (z : ℤ). pos 0 <ℤ z) (ap (λ (z : ℤ). a *ℤ z) e ∙ *ℤ-zero a) k))
    go (plus p) = p

pub cancel_nonneg : {a b : ℤ} → pos 0 <ℤ a → pos 0 ≤ℤ (a *ℤ b) → pos 0 ≤ℤ b
cancel_nonneg {a} {b} h k = go (sign b)
  where
    go : Sign b → pos 0 ≤ℤ b
    go (minus n) = absurd (not_lt k (mul_pos_neg h n))
    go (null e) = subst (λ (z : ℤ). pos 0 ≤ℤ z) (sym e) (≤_refl (pos 0))
    go (plus p) = <→≤ p

-- no zero divisors
pub mul_zero : (a b : ℤ) → a *ℤ b ≡ pos 0 → (a ≡ pos 0) ⊎ (b ≡ pos 0)
mul_zero a b e = go (sign a) (sign b)
  where
    no_pos : pos 0 <ℤ (a *ℤ b) → ⊥
    no_pos h = <ℤ_irrefl (subst (λ (z : ℤ). pos 0 <ℤ z) e h)

    no_neg : (a *ℤ b) <ℤ pos 0 → ⊥
    no_neg h = <ℤ_irrefl (subst (λ (z : ℤ). z <ℤ pos 0) e h)

    go : Sign a → Sign b → (a ≡ pos 0) ⊎ (b ≡ pos 0)
    go (null p) s = inl p
    go (minus h) (null q) = inr q
    go (minus h) (minus k) = absurd (no_pos (mul_neg_neg h k))
    go (minus h) (plus k) = absurd (no_neg (subst (λ (z : ℤ). z <ℤ pos 0) (*ℤ_comm b a) (mul_pos_neg k h)))
    go (plus h) (null q) = inr q
    go (plus h) (minus k) = absurd (no_neg (mul_pos_neg h k))
    go (plus h) (plus k) = absurd (no_pos (mul_pos_pos h k))

pub cancel_zero : {w x : ℤ} → pos 0 <ℤ w → w *ℤ x ≡ pos 0 → x ≡ pos 0
cancel_zero {w} {x} h e = go (mul_zero w x e)
  where
    go : (w ≡ pos 0) ⊎ (x ≡ pos 0) → x ≡ pos 0
    go (inl z) = absurd (pos_ne h z)
    go (inr z) = z

-- ---- what a machine comparison tells
pub lt_true : {a b : ℤ} → lt_z a b ≡ true → a <ℤ b
lt_true e = record { lt = subst T (sym e) tt }

pub lt_false : {a b : ℤ} → lt_z a b ≡ false → b ≤ℤ a
lt_false {a} {b} e = lt_z_no (subst (λ (c : Bool). T (not c)) (sym e) tt)

pub true_lt : {a b : ℤ} → a <ℤ b → lt_z a b ≡ true
true_lt {a} {b} h = is_true (lt_z a b) h.lt

pub false_lt : {a b : ℤ} → b ≤ℤ a → lt_z a b ≡ false
false_lt {a} {b} h = is_false (lt_z a b) (not_T (lt_z a b) (λ t. not_lt h (record { lt = t })))

-- ---- the test of equality
pub eq_z→eq : (a b : ℤ) → T (eq_z a b) → a ≡ b
eq_z→eq (pos a) (pos b) t = ap pos (eqb→eq a b t)
eq_z→eq (pos a) (negsuc b) t = absurd t
eq_z→eq (negsuc a) (pos b) t = absurd t
eq_z→eq (negsuc a) (negsuc b) t = ap negsuc (eqb→eq a b t)

pub eq_z_refl : (a : ℤ) → T (eq_z a a)
eq_z_refl (pos a) = eqb_refl a
eq_z_refl (negsuc a) = eqb_refl a
