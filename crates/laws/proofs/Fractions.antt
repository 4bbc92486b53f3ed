-- Fractions: their order, and how two are compared by whole part and remainder, then the remainders turned over.
use mathlib.Core.Path.{◌≡◌, refl, sym, ◌∙◌, ap, ap₂, subst}
use mathlib.Core.Bool.{Bool, true, false, cond}
use mathlib.Core.List.{[], ◌∷◌}
use Prim.Native.Nat.{ℕ, suc, ◌/◌, ◌%◌, ◌<◌, ◌≤◌}
use native.Mathlib.Nat.{div-add-mod', mod-lt, pos_of_ne-zero}
use native.Mathlib.Omega.{arith}
use lib.Dec.{ltb→lt}
use lib.IntN.{ℤ, pos, negsuc, neg_ℤ, ◌+ℤ◌, ◌-ℤ◌, ◌*ℤ◌, *ℤ_comm}
use lib.Signed.{◌≤ℤ◌, ◌<ℤ◌, lt_z, quot_z, rem_z}
use Rattle.laws.specs.Fractions.{compared, Parts}
use Rattle.laws.proofs.Tests.{same_test}
use Rattle.laws.proofs.Integers.{up_neg, dn_neg, sum_is, dif_is}
use Rattle.laws.proofs.Order.{zs, pos_is, <→≤, ≡→≤, ≤-<_trans, pos_mono, neg_mono, mul_nonneg, mul_pos_pos, sub_nonneg, sub_pos, of_sub_nonneg, cancel_nonneg, lt→le1, true_lt, false_lt}
use Rattle.laws.proofs.Ring.{o, one, var, ◌:+◌, ◌:-◌, ◌:*◌, neg, ring}
use Rattle.laws.proofs.Certificates.{order, strict, combine, eqn, eq, le, lt}

-- ---- a/b ≤ c/d ≤ e/f
pub across_trans : (a b c d e f : ℤ) → pos 0 <ℤ b → pos 0 <ℤ d → pos 0 <ℤ f → (a *ℤ d) ≤ℤ (c *ℤ b) → (c *ℤ f) ≤ℤ (e *ℤ d) → (a *ℤ f) ≤ℤ (e *ℤ b)
across_trans a b c d e f hb hd hf h k = of_sub_nonneg (cancel_nonneg {a = d} hd
    (order (a ∷ b ∷ c ∷ d ∷ e ∷ f ∷ []) (le 1 o (var 5 :* (var 2 :* var 1 :- var 0 :* var 3)) ∷ le 1 o (var 1 :* (var 4 :* var 3 :- var 2 :* var 5)) ∷ []) 0
    o (var 3 :* (var 4 :* var 1 :- var 0 :* var 5)) tt (mul_nonneg (<→≤ hf) (sub_nonneg h)) (mul_nonneg (<→≤ hb) (sub_nonneg k))))

-- ---- the three answers
module _ {A : Type 0} (a b c d : ℤ) (x y z : A) where
  pub compared_less : (a *ℤ d) <ℤ (c *ℤ b) → compared a b c d x y z ≡ x
  compared_less h = rw (true_lt h)

  pub compared_more : (c *ℤ b) <ℤ (a *ℤ d) → compared a b c d x y z ≡ z
  compared_more h = rw (false_lt (<→≤ h), true_lt h)

  pub compared_same : a *ℤ d ≡ c *ℤ b → compared a b c d x y z ≡ y
  compared_same e = ap₂ (λ (s t : Bool). cond s x (cond t z y)) (even (a *ℤ d) (c *ℤ b) e) (even (c *ℤ b) (a *ℤ d) (sym e))
    where
      even : (u v : ℤ) → u ≡ v → lt_z u v ≡ false
      even u v e = false_lt (≡→≤ (sym e))

-- an answer worked on, and two answers alike
pub compared_map : {A B : Type 0} (g : A → B) (a b c d : ℤ) (x y z : A) → g (compared a b c d x y z) ≡ compared a b c d (g x) (g y) (g z)
compared_map {A} {B} g a b c d x y z = go (lt_z (a *ℤ d) (c *ℤ b)) (lt_z (c *ℤ b) (a *ℤ d))
  where
    go : (s t : Bool) → g (cond s x (cond t z y)) ≡ cond s (g x) (cond t (g z) (g y))
    go true t = refl
    go false true = refl
    go false false = refl

pub compared_two : {A : Type 0} (a b c d : ℤ) (x y : A) → compared a b c d x y y ≡ cond (lt_z (a *ℤ d) (c *ℤ b)) x y
compared_two {A} a b c d x y = ap (λ (v : A). cond (lt_z (a *ℤ d) (c *ℤ b)) x v) (either (lt_z (c *ℤ b) (a *ℤ d)))
  where
    either : (t : Bool) → cond t y y ≡ y
    either true = refl
    either false = refl

-- turned over, the greater becomes the less: r/b against s/d is d/s against b/r
pub compared_turned : {A : Type 0} (r b s d : ℤ) (x y z : A) → compared r b s d x y z ≡ compared d s b r x y z
compared_turned r b s d x y z = ap₂ (λ (u v : ℤ). cond (lt_z u v) x (cond (lt_z v u) z y)) (*ℤ_comm r d) (*ℤ_comm s b)

-- ---- by whole part and remainder: b is above 0
bottom_pos : {a b q r : ℤ} → Parts a b q r → pos 0 <ℤ b
bottom_pos m = ≤-<_trans m.over m.under

whole_lt : {a b q r c d w s : ℤ} → Parts a b q r → Parts c d w s → q <ℤ w → (a *ℤ d) <ℤ (c *ℤ b)
whole_lt {a} {b} {q} {r} {c} {d} {w} {s} m n h =
    strict (a ∷ b ∷ q ∷ r ∷ c ∷ d ∷ w ∷ s ∷ [])
    (eq (neg (var 5)) (var 0) (var 2 :* var 1 :+ var 3) ∷ eq (var 1) (var 4) (var 6 :* var 5 :+ var 7) ∷ le 1 o ((var 6 :- (var 2 :+ one)) :* (var 1 :* var 5)) ∷ lt 1 o (var 5 :* (var 1 :- var 3)) ∷ le 1 o (var 7 :* var 1) ∷ []) 0
    (var 0 :* var 5) (var 4 :* var 1) tt m.sum n.sum
    (mul_nonneg (sub_nonneg (lt→le1 h)) (<→≤ (mul_pos_pos (bottom_pos m) (bottom_pos n)))) (mul_pos_pos (bottom_pos n) (sub_pos m.under)) (mul_nonneg n.over (<→≤ (bottom_pos m)))

-- the order of two numbers is told by their difference
lt_alike : (x y u v : ℤ) → x -ℤ y ≡ u -ℤ v → lt_z x y ≡ lt_z u v
lt_alike x y u v e = same_test (lt_z x y) (lt_z u v) (λ t. (to x y u v e (record { lt = t })).lt) (λ t. (to u v x y (sym e) (record { lt = t })).lt)
  where
    to : (x y u v : ℤ) → x -ℤ y ≡ u -ℤ v → x <ℤ y → u <ℤ v
    to x y u v e h = omega (arith, zs, dif_is x y, dif_is u v)

less_whole : {a b q r c d s : ℤ} → Parts a b q r → Parts c d q s → a *ℤ d -ℤ c *ℤ b ≡ r *ℤ d -ℤ s *ℤ b
less_whole {a} {b} {q} {r} {c} {d} {s} m n =
    combine (a ∷ b ∷ q ∷ r ∷ c ∷ d ∷ s ∷ []) (eqn (var 5) (var 0) (var 2 :* var 1 :+ var 3) ∷ eqn (neg (var 1)) (var 4) (var 2 :* var 5 :+ var 6) ∷ [])
    (var 0 :* var 5 :- var 4 :* var 1) (var 3 :* var 5 :- var 6 :* var 1) tt m.sum n.sum

module _ {A : Type 0} {a b q r c d w s : ℤ} (m : Parts a b q r) (n : Parts c d w s) (x y z : A) where
  -- whole parts that differ decide
  pub whole_less : q <ℤ w → compared a b c d x y z ≡ x
  whole_less h = compared_less a b c d x y z (whole_lt m n h)

  pub whole_more : w <ℤ q → compared a b c d x y z ≡ z
  whole_more h = compared_more a b c d x y z (whole_lt n m h)

  -- equal ones leave it to the remainders
  pub whole_same : q ≡ w → compared a b c d x y z ≡ compared r b s d x y z
  whole_same h = ap₂ (λ (u v : Bool). cond u x (cond v z y))
      (lt_alike (a *ℤ d) (c *ℤ b) (r *ℤ d) (s *ℤ b) (less_whole m (subst (λ (v : ℤ). Parts c d v s) (sym h) n)))
      (lt_alike (c *ℤ b) (a *ℤ d) (s *ℤ b) (r *ℤ d) (less_whole n (subst (λ (v : ℤ). Parts a b v r) h m)))

-- ---- one or both remainders have run out
module _ {A : Type 0} (r b s d : ℤ) (x y z : A) where
  pub none_none : r ≡ pos 0 → s ≡ pos 0 → compared r b s d x y z ≡ y
  none_none e f = compared_same r b s d x y z (combine (r ∷ b ∷ s ∷ d ∷ []) (eqn (var 3) (var 0) o ∷ eqn (neg (var 1)) (var 2) o ∷ []) (var 0 :* var 3) (var 2 :* var 1) tt e f)

  pub none_some : r ≡ pos 0 → pos 0 <ℤ s → pos 0 <ℤ b → compared r b s d x y z ≡ x
  none_some e h k = compared_less r b s d x y z (strict (r ∷ b ∷ s ∷ d ∷ []) (eq (neg (var 3)) (var 0) o ∷ lt 1 o (var 2 :* var 1) ∷ []) 0 (var 0 :* var 3) (var 2 :* var 1) tt e (mul_pos_pos h k))

  pub some_none : pos 0 <ℤ r → s ≡ pos 0 → pos 0 <ℤ d → compared r b s d x y z ≡ z
  some_none h e k = compared_more r b s d x y z (strict (r ∷ b ∷ s ∷ d ∷ []) (eq (neg (var 1)) (var 2) o ∷ lt 1 o (var 0 :* var 3) ∷ []) 0 (var 2 :* var 1) (var 0 :* var 3) tt e (mul_pos_pos h k))

-- ---- the parts by the machine's division: of naturals, and of whole numbers, whose quotient is rounded towards 0
pub parts_nat : (a b : ℕ) → 0 < b → Parts (pos a) (pos b) (pos (a / b)) (pos (a % b))
parts_nat a b h = record { sum = ap pos (sym (div-add-mod' a b)); over = omega (arith, zs, pos_is 0, pos_is (a % b)); under = omega (arith, zs, pos_is b, pos_is (a % b), mod-lt a h) }

record Cut (a b q r : ℤ) : Type 0 where
  sum : a ≡ q *ℤ b +ℤ r
  low : neg_ℤ b <ℤ r
  high : r <ℤ b

cut : (a b : ℤ) → pos 0 <ℤ b → Cut a b (quot_z a b) (rem_z a b)
cut a (negsuc b) h = absurd h.lt
cut (pos a) (pos b) h = let m = parts_nat a b (ltb→lt 0 b h.lt) in record { sum = m.sum; low = omega (arith, zs, up_neg (pos b), dn_neg (pos b), pos_is b, pos_is 0, pos_is (a % b)); high = m.under }
cut (negsuc a) (pos b) h = let m = parts_nat (suc a) b (ltb→lt 0 b h.lt) in record {
  sum = ap neg_ℤ m.sum ∙ ring (pos (suc a / b) ∷ pos b ∷ pos (suc a % b) ∷ []) (neg (var 0 :* var 1 :+ var 2)) (neg (var 0) :* var 1 :+ neg (var 2)) tt;
  low = turn (pos (suc a % b)) (pos b) m.under;
  high = ≤-<_trans (neg_mono m.over) h;
}
  where
    turn : (r b : ℤ) → r <ℤ b → neg_ℤ b <ℤ neg_ℤ r
    turn r b l = omega (arith, zs, up_neg b, dn_neg b, up_neg r, dn_neg r)

module _ (a b : ℤ) (h : pos 0 <ℤ b) where
  pub parts_over : pos 0 ≤ℤ rem_z a b → Parts a b (quot_z a b) (rem_z a b)
  parts_over k = record { sum = (cut a b h).sum; over = k; under = (cut a b h).high }

  -- a remainder below 0 takes one from the whole part
  pub parts_under : rem_z a b <ℤ pos 0 → Parts a b (quot_z a b -ℤ pos 1) (rem_z a b +ℤ b)
  parts_under k = record {
    sum = (cut a b h).sum ∙ ring (quot_z a b ∷ b ∷ rem_z a b ∷ []) (var 0 :* var 1 :+ var 2) ((var 0 :- one) :* var 1 :+ (var 2 :+ var 1)) tt;
    over = rise (rem_z a b) (cut a b h).low;
    under = stay (rem_z a b) k;
  }
    where
      rise : (r : ℤ) → neg_ℤ b <ℤ r → pos 0 ≤ℤ (r +ℤ b)
      rise r l = omega (arith, zs, up_neg b, dn_neg b, sum_is r b, pos_is 0)

      stay : (r : ℤ) → r <ℤ pos 0 → (r +ℤ b) <ℤ b
      stay r l = omega (arith, zs, sum_is r b, pos_is 0)

-- ---- one turn, of naturals
module _ {A : Type 0} (a b c d : ℕ) (hb : 0 < b) (hd : 0 < d) (x y z : A) where
  -- the whole parts differ
  pub naturals_less : a / b < c / d → x ≡ compared (pos a) (pos b) (pos c) (pos d) x y z
  naturals_less h = sym (whole_less (parts_nat a b hb) (parts_nat c d hd) x y z (pos_mono h))

  pub naturals_more : c / d < a / b → z ≡ compared (pos a) (pos b) (pos c) (pos d) x y z
  naturals_more h = sym (whole_more (parts_nat a b hb) (parts_nat c d hd) x y z (pos_mono h))

  -- they are equal
  module _ (h : c / d ≤ a / b) (k : a / b ≤ c / d) where
    left_over : compared (pos a) (pos b) (pos c) (pos d) x y z ≡ compared (pos (a % b)) (pos b) (pos (c % d)) (pos d) x y z
    left_over = let e : a / b ≡ c / d = omega arith in whole_same (parts_nat a b hb) (parts_nat c d hd) x y z (ap pos e)

    pub both_out : a % b ≡ 0 → c % d ≡ 0 → y ≡ compared (pos a) (pos b) (pos c) (pos d) x y z
    both_out e f = sym (left_over ∙ none_none (pos (a % b)) (pos b) (pos (c % d)) (pos d) x y z (ap pos e) (ap pos f))

    pub first_out : a % b ≡ 0 → (c % d ≡ 0 → ⊥) → x ≡ compared (pos a) (pos b) (pos c) (pos d) x y z
    first_out e f = sym (left_over ∙ none_some (pos (a % b)) (pos b) (pos (c % d)) (pos d) x y z (ap pos e) (pos_mono (pos_of_ne-zero f)) (pos_mono hb))

    pub second_out : (a % b ≡ 0 → ⊥) → c % d ≡ 0 → z ≡ compared (pos a) (pos b) (pos c) (pos d) x y z
    second_out e f = sym (left_over ∙ some_none (pos (a % b)) (pos b) (pos (c % d)) (pos d) x y z (pos_mono (pos_of_ne-zero e)) (ap pos f) (pos_mono hd))

    pub turned_over : compared (pos d) (pos (c % d)) (pos b) (pos (a % b)) x y z ≡ compared (pos a) (pos b) (pos c) (pos d) x y z
    turned_over = sym (left_over ∙ compared_turned (pos (a % b)) (pos b) (pos (c % d)) (pos d) x y z)
