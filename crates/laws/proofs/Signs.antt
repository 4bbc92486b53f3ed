-- Signs of whole numbers, as values to compute with: of a product, of numbers with a sum that is 0 or above 0; and how a law of signs is shown by trying them all.
use mathlib.Core.Path.{◌≡◌, refl, sym, ap, subst}
use mathlib.Core.Logic.{◌≢◌, ◌⊎◌, inl, inr}
use mathlib.Core.Bool.{Bool, true, false, ◌&&◌, ◌||◌}
use mathlib.Core.List.{List, [], ◌∷◌}
use Prim.Native.Nat.{zero, suc}
use native.Mathlib.Omega.{arith}
use lib.Dec.{T}
use lib.IntN.{ℤ, pos, negsuc, neg_ℤ, ◌+ℤ◌, ◌*ℤ◌, *ℤ-zero, zero-*ℤ, *ℤ_comm}
use lib.Signed.{◌≤ℤ◌, ◌<ℤ◌, <ℤ_irrefl}
use Rattle.laws.proofs.Tests.{and_both, or_left, or_right}
use Rattle.laws.proofs.Integers.{sum_is}
use Rattle.laws.proofs.Order.{zs, pos_is, suc_pos, negsuc_neg, pos_ne, neg_ne, nat_not_neg, below_or, mul_pos_pos, mul_pos_neg, mul_neg_neg}
use Rattle.laws.proofs.Members.{All}

pub data Sg : Type 0 where
  below level above : Sg

abbrev pub sg : ℤ → Sg
sg (pos zero) = level
sg (pos (suc n)) = above
sg (negsuc n) = below

abbrev pub flip : Sg → Sg
flip below = above
flip level = level
flip above = below

abbrev pub times : Sg → Sg → Sg
times below s = flip s
times level s = level
times above s = s

abbrev pub is_above : Sg → Bool
is_above below = false
is_above level = false
is_above above = true

abbrev pub is_below : Sg → Bool
is_below s = is_above (flip s)

abbrev pub nonzero : Sg → Bool
nonzero below = true
nonzero level = false
nonzero above = true

-- ---- the sign of a number
pub sg_above : {z : ℤ} → pos 0 <ℤ z → sg z ≡ above
sg_above {z = pos zero} h = absurd (<ℤ_irrefl h)
sg_above {z = pos (suc n)} h = refl
sg_above {z = negsuc n} h = absurd h.lt

pub sg_below : {z : ℤ} → z <ℤ pos 0 → sg z ≡ below
sg_below {z = pos n} h = absurd (nat_not_neg n h)
sg_below {z = negsuc n} h = refl

pub is_above_lem : {z : ℤ} → pos 0 <ℤ z → T (is_above (sg z))
is_above_lem h = subst (λ (s : Sg). T (is_above s)) (sym (sg_above h)) tt

is_below_lem : {z : ℤ} → z <ℤ pos 0 → T (is_below (sg z))
is_below_lem h = subst (λ (s : Sg). T (is_below s)) (sym (sg_below h)) tt

pub above→ : (z : ℤ) → T (is_above (sg z)) → pos 0 <ℤ z
above→ (pos zero) t = absurd t
above→ (pos (suc n)) t = suc_pos n
above→ (negsuc n) t = absurd t

pub level→ : (z : ℤ) → sg z ≡ level → z ≡ pos 0
level→ (pos zero) e = refl
level→ (pos (suc n)) e = absurd (subst (λ (s : Sg). T (nonzero s)) e tt)
level→ (negsuc n) e = absurd (subst (λ (s : Sg). T (nonzero s)) e tt)

pub sg_nonzero : (z : ℤ) → z ≢ pos 0 → T (nonzero (sg z))
sg_nonzero (pos zero) n = n refl
sg_nonzero (pos (suc k)) n = tt
sg_nonzero (negsuc k) n = tt

pub sg_neg : (z : ℤ) → sg (neg_ℤ z) ≡ flip (sg z)
sg_neg (pos zero) = refl
sg_neg (pos (suc n)) = refl
sg_neg (negsuc n) = refl

pub sg_mul : (x y : ℤ) → sg (x *ℤ y) ≡ times (sg x) (sg y)
sg_mul (pos zero) y = ap sg (zero-*ℤ y)
sg_mul (pos (suc m)) (pos zero) = ap sg (*ℤ-zero (pos (suc m)))
sg_mul (pos (suc m)) (pos (suc n)) = sg_above (mul_pos_pos (suc_pos m) (suc_pos n))
sg_mul (pos (suc m)) (negsuc n) = sg_below (mul_pos_neg (suc_pos m) (negsuc_neg n))
sg_mul (negsuc m) (pos zero) = ap sg (*ℤ-zero (negsuc m))
sg_mul (negsuc m) (pos (suc n)) = sg_below (subst (λ (z : ℤ). z <ℤ pos 0) (*ℤ_comm (pos (suc n)) (negsuc m)) (mul_pos_neg (suc_pos n) (negsuc_neg m)))
sg_mul (negsuc m) (negsuc n) = sg_above (mul_neg_neg (negsuc_neg m) (negsuc_neg n))

-- ---- a number that is not 0 where another is not
abbrev pub follows : Sg → Sg → Bool
follows below q = nonzero q
follows level q = true
follows above q = nonzero q

pub sg_follows : (k q : ℤ) → (k ≢ pos 0 → q ≢ pos 0) → T (follows (sg k) (sg q))
sg_follows (pos zero) q f = tt
sg_follows (pos (suc n)) q f = sg_nonzero q (f (pos_ne (suc_pos n)))
sg_follows (negsuc n) q f = sg_nonzero q (f (neg_ne (negsuc_neg n)))

-- ---- three numbers with a sum above 0: one is above 0
abbrev pub rising : Sg → Sg → Sg → Bool
rising s t u = is_above s || (is_above t || is_above u)

pub sg_rising : (x y z : ℤ) → pos 0 <ℤ (x +ℤ y +ℤ z) → T (rising (sg x) (sg y) (sg z))
sg_rising x y z h = go (below_or x (pos 0)) (below_or y (pos 0))
  where
    last : x ≤ℤ pos 0 → y ≤ℤ pos 0 → pos 0 <ℤ z
    last i j = omega (arith, zs, sum_is x y, sum_is (x +ℤ y) z, pos_is 0)

    later : T (is_above (sg y) || is_above (sg z)) → T (rising (sg x) (sg y) (sg z))
    later t = or_right (is_above (sg x)) (is_above (sg y) || is_above (sg z)) t

    go : (x ≤ℤ pos 0) ⊎ (pos 0 <ℤ x) → (y ≤ℤ pos 0) ⊎ (pos 0 <ℤ y) → T (rising (sg x) (sg y) (sg z))
    go (inr i) j = or_left (is_above (sg x)) (is_above (sg y) || is_above (sg z)) (is_above_lem i)
    go (inl i) (inr j) = later (or_left (is_above (sg y)) (is_above (sg z)) (is_above_lem j))
    go (inl i) (inl j) = later (or_right (is_above (sg y)) (is_above (sg z)) (is_above_lem (last i j)))

-- ---- three numbers with sum 0: all are 0, or one is above 0 and one below
abbrev pub balanced : Sg → Sg → Sg → Bool
balanced below s t = is_above s || is_above t
balanced level below t = is_above t
balanced level level below = false
balanced level level level = true
balanced level level above = false
balanced level above t = is_below t
balanced above s t = is_below s || is_below t

pub sg_balanced : (x y z : ℤ) → x +ℤ y +ℤ z ≡ pos 0 → T (balanced (sg x) (sg y) (sg z))
sg_balanced (pos zero) (pos zero) z e = subst (λ (z : ℤ). T (balanced level level (sg z))) (sym last) tt
  where
    last : z ≡ pos 0
    last = omega (arith, zs, sum_is (pos 0) (pos 0), sum_is (pos 0 +ℤ pos 0) z, pos_is 0)
sg_balanced (pos zero) (pos (suc n)) z e = is_below_lem last
  where
    last : z <ℤ pos 0
    last = omega (arith, zs, sum_is (pos 0) (pos (suc n)), sum_is (pos 0 +ℤ pos (suc n)) z, pos_is 0, pos_is (suc n))
sg_balanced (pos zero) (negsuc n) z e = is_above_lem last
  where
    last : pos 0 <ℤ z
    last = omega (arith, zs, negsuc_neg n, sum_is (pos 0) (negsuc n), sum_is (pos 0 +ℤ negsuc n) z, pos_is 0)
sg_balanced (pos (suc n)) y z e = go (below_or (pos 0) y)
  where
    last : pos 0 ≤ℤ y → z <ℤ pos 0
    last h = omega (arith, zs, sum_is (pos (suc n)) y, sum_is (pos (suc n) +ℤ y) z, pos_is 0, pos_is (suc n))

    go : (pos 0 ≤ℤ y) ⊎ (y <ℤ pos 0) → T (is_below (sg y) || is_below (sg z))
    go (inl h) = or_right (is_below (sg y)) (is_below (sg z)) (is_below_lem (last h))
    go (inr h) = or_left (is_below (sg y)) (is_below (sg z)) (is_below_lem h)
sg_balanced (negsuc n) y z e = go (below_or y (pos 0))
  where
    last : y ≤ℤ pos 0 → pos 0 <ℤ z
    last h = omega (arith, zs, negsuc_neg n, sum_is (negsuc n) y, sum_is (negsuc n +ℤ y) z, pos_is 0)

    go : (y ≤ℤ pos 0) ⊎ (pos 0 <ℤ y) → T (is_above (sg y) || is_above (sg z))
    go (inl h) = or_right (is_above (sg y)) (is_above (sg z)) (is_above_lem (last h))
    go (inr h) = or_left (is_above (sg y)) (is_above (sg z)) (is_above_lem h)

-- the same by signs that are known
pub balanced_at : {s t u : Sg} (x y z : ℤ) → sg x ≡ s → sg y ≡ t → sg z ≡ u → x +ℤ y +ℤ z ≡ pos 0 → T (balanced s t u)
balanced_at x y z p q r e = subst T (λ i. balanced (p i) (q i) (r i)) (sg_balanced x y z e)

-- ---- a test of every three signs
pub record Trio : Type 0 where
  pub a : Sg
  pub b : Sg
  pub c : Sg

abbrev pub trio : Sg → Sg → Sg → Trio
trio a b c = record { a = a; b = b; c = c }

abbrev thrice : (Sg → Bool) → Bool
thrice g = g below && (g level && g above)

abbrev pub trios : (Trio → Bool) → Bool
trios g = thrice (λ a. thrice (λ b. thrice (λ c. g (trio a b c))))

pick : (g : Sg → Bool) → T (thrice g) → (s : Sg) → T (g s)
pick g t below = (and_both (g below) (g level && g above) t).0
pick g t level = (and_both (g level) (g above) (and_both (g below) (g level && g above) t).1).0
pick g t above = (and_both (g level) (g above) (and_both (g below) (g level && g above) t).1).1

pub pick_trio : (g : Trio → Bool) → T (trios g) → (s : Trio) → T (g s)
pick_trio g t s = pick (λ c. g (trio s.a s.b c)) (pick (λ b. thrice (λ c. g (trio s.a b c))) (pick (λ a. thrice (λ b. thrice (λ c. g (trio a b c)))) t s.a) s.b) s.c

-- ---- a law that is to hold where all rules do
abbrev all_of : List Bool → Bool
all_of [] = true
all_of (b ∷ l) = elim b [ true ↦ all_of l | false ↦ false ]

abbrev pub under : List Bool → Bool → Bool
under l c = elim (all_of l) [ true ↦ c | false ↦ true ]

pub by_rules : (l : List Bool) (c : Bool) → T (under l c) → All T l → T c
by_rules [] c t h = t
by_rules (true ∷ l) c t h = by_rules l c t h.1
by_rules (false ∷ l) c t h = absurd h.0

-- the proofs of the rules, one after another
infixr 5 ◌also◌
pub ◌also◌ : {A B : Type 0} → A → B → A × B
a also b = (a, b)
