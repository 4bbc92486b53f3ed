-- The order of fractions is total: each has a bottom above 0.
use mathlib.Core.Path.{◌≡◌, refl, sym, ap₂}
use mathlib.Core.Bool.{Bool, true, false, cond}
use mathlib.Core.List.{[], ◌∷◌}
use native.Mathlib.Omega.{arith}
use lib.IntN.{ℤ, pos, ◌-ℤ◌, ◌*ℤ◌}
use lib.Signed.{◌≤ℤ◌, ◌<ℤ◌, lt_z}
use Rattle.std.specs.Ordering.{ordering_reverse}
use Rattle.std.specs.Cmp.{IsTotalOrder}
use Rattle.std.specs.declared.cmp.Ordering.TheVariants.{Less, Equal, Greater}
use Rattle.laws.specs.Fractions.{compared}
use Rattle.laws.proofs.Tests.{same_test}
use Rattle.laws.proofs.Integers.{dif_is}
use Rattle.laws.proofs.Order.{zs, pos_is, <→≤, ≡→≤, antisymm, lt_true, lt_false, mul_nonneg, mul_pos_pos, sub_nonneg, sub_pos, cancel_pos}
use Rattle.laws.proofs.Fractions.{compared_less}
use Rattle.laws.proofs.Ring.{o, var, ◌:-◌, ◌:*◌}
use Rattle.laws.proofs.Certificates.{strict, le, lt}
use Rattle.plumb.specs.Fractions.{fraction_cmp}

of_sub_pos : {a b : ℤ} → pos 0 <ℤ (b -ℤ a) → a <ℤ b
of_sub_pos {a} {b} h = omega (arith, zs, dif_is b a, pos_is 0)

-- ---- a/b, c/d, e/f, one after another, and one of the two steps strict
module _ (a b c d e f : ℤ) (hb : pos 0 <ℤ b) (hd : pos 0 <ℤ d) (hf : pos 0 <ℤ f) where
  le_lt : (a *ℤ d) ≤ℤ (c *ℤ b) → (c *ℤ f) <ℤ (e *ℤ d) → (a *ℤ f) <ℤ (e *ℤ b)
  le_lt h k = of_sub_pos (cancel_pos {a = d} hd
      (strict (a ∷ b ∷ c ∷ d ∷ e ∷ f ∷ []) (le 1 o (var 5 :* (var 2 :* var 1 :- var 0 :* var 3)) ∷ lt 1 o (var 1 :* (var 4 :* var 3 :- var 2 :* var 5)) ∷ []) 0
      o (var 3 :* (var 4 :* var 1 :- var 0 :* var 5)) tt (mul_nonneg (<→≤ hf) (sub_nonneg h)) (mul_pos_pos hb (sub_pos k))))

  lt_le : (a *ℤ d) <ℤ (c *ℤ b) → (c *ℤ f) ≤ℤ (e *ℤ d) → (a *ℤ f) <ℤ (e *ℤ b)
  lt_le h k = of_sub_pos (cancel_pos {a = d} hd
      (strict (a ∷ b ∷ c ∷ d ∷ e ∷ f ∷ []) (lt 1 o (var 5 :* (var 2 :* var 1 :- var 0 :* var 3)) ∷ le 1 o (var 1 :* (var 4 :* var 3 :- var 2 :* var 5)) ∷ []) 0
      o (var 3 :* (var 4 :* var 1 :- var 0 :* var 5)) tt (mul_pos_pos hf (sub_pos h)) (mul_nonneg (<→≤ hb) (sub_nonneg k))))

-- ---- what an answer says
said_less : (a b c d : ℤ) → compared a b c d Less Equal Greater ≡ Less → (a *ℤ d) <ℤ (c *ℤ b)
said_less a b c d e = lt_true (go (lt_z (a *ℤ d) (c *ℤ b)) (lt_z (c *ℤ b) (a *ℤ d)) e)
  where
    go : (s t : Bool) → cond s Less (cond t Greater Equal) ≡ Less → s ≡ true
    go true t e = refl
    go false true e = cc
    go false false e = cc

said_equal : (a b c d : ℤ) → compared a b c d Less Equal Greater ≡ Equal → a *ℤ d ≡ c *ℤ b
said_equal a b c d e = let h = go (lt_z (a *ℤ d) (c *ℤ b)) (lt_z (c *ℤ b) (a *ℤ d)) e in antisymm (lt_false h.1) (lt_false h.0)
  where
    go : (s t : Bool) → cond s Less (cond t Greater Equal) ≡ Equal → (s ≡ false) × (t ≡ false)
    go true t e = cc
    go false true e = cc
    go false false e = (refl, refl)

-- ---- the three laws
turned : (x y : ℤ) → cond (lt_z x y) Less (cond (lt_z y x) Greater Equal) ≡ ordering_reverse (cond (lt_z y x) Less (cond (lt_z x y) Greater Equal))
turned x y = go (lt_z x y) (lt_z y x) (λ e f. omega (arith, zs, lt_true {a = x} {b = y} e, lt_true {a = y} {b = x} f))
  where
    go : (s t : Bool) → (s ≡ true → t ≡ true → ⊥) → cond s Less (cond t Greater Equal) ≡ ordering_reverse (cond t Less (cond s Greater Equal))
    go true true h = absurd (h refl refl)
    go true false h = refl
    go false true h = refl
    go false false h = refl

-- equal ones stand alike to a third
module _ (a b c d e f : ℤ) (hb : pos 0 <ℤ b) (hd : pos 0 <ℤ d) (hf : pos 0 <ℤ f) (k : a *ℤ d ≡ c *ℤ b) where
  before : lt_z (a *ℤ f) (e *ℤ b) ≡ lt_z (c *ℤ f) (e *ℤ d)
  before = same_test (lt_z (a *ℤ f) (e *ℤ b)) (lt_z (c *ℤ f) (e *ℤ d))
      (λ t. (le_lt c d a b e f hd hb hf (≡→≤ (sym k)) (record { lt = t })).lt)
      (λ t. (le_lt a b c d e f hb hd hf (≡→≤ k) (record { lt = t })).lt)

  after : lt_z (e *ℤ b) (a *ℤ f) ≡ lt_z (e *ℤ d) (c *ℤ f)
  after = same_test (lt_z (e *ℤ b) (a *ℤ f)) (lt_z (e *ℤ d) (c *ℤ f))
      (λ t. (lt_le e f a b c d hf hb hd (record { lt = t }) (≡→≤ k)).lt)
      (λ t. (lt_le e f c d a b hf hd hb (record { lt = t }) (≡→≤ (sym k))).lt)

  alike : compared a b e f Less Equal Greater ≡ compared c d e f Less Equal Greater
  alike = ap₂ (λ (s t : Bool). cond s Less (cond t Greater Equal)) before after

pub fraction_total : IsTotalOrder fraction_cmp
fraction_total = record {
  antisymm = λ s t. turned (s.top *ℤ t.bottom) (t.top *ℤ s.bottom);
  trans = λ s t u h k. compared_less s.top s.bottom u.top u.bottom Less Equal Greater
      (le_lt s.top s.bottom t.top t.bottom u.top u.bottom s.held.proper t.held.proper u.held.proper (<→≤ (said_less s.top s.bottom t.top t.bottom h)) (said_less t.top t.bottom u.top u.bottom k));
  congr = λ s t u h. alike s.top s.bottom t.top t.bottom u.top u.bottom s.held.proper t.held.proper u.held.proper (said_equal s.top s.bottom t.top t.bottom h);
}
