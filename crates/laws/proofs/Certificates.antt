-- Certificates. `combine`: an equation follows from equations, each times an expression. `order`: l ≤ r follows from orders, each times
-- a natural, and equations, each times an expression. The check is the ring normaliser's.
use mathlib.Core.Path.{◌≡◌, refl, sym, ◌∙◌, ap, ap₂, subst}
use mathlib.Core.Bool.{Bool, true, false}
use mathlib.Core.List.{List, [], ◌∷◌}
use Prim.Native.Nat.{ℕ, zero, suc, ◌+◌, ◌*◌}
use native.Mathlib.Omega.{arith}
use lib.Dec.{T, le→leb, ltb, ltb→lt}
use lib.IntN.{ℤ, pos, negsuc, ◌+ℤ◌, ◌-ℤ◌, ◌*ℤ◌, +ℤ_idr, +ℤ_assoc, *ℤ-zero, +ℤ_invr, +ℤ_idl}
use lib.Signed.{◌≤ℤ◌, ◌<ℤ◌}
use Rattle.laws.proofs.Integers.{sum_is, dif_is, -ℤ-zero}
use Rattle.laws.proofs.Ring.{Ex, var, lit, ◌:+◌, ◌:-◌, ◌:*◌, den, ring, Poly, nil, term, norm, deg, is_zero, both, norm_sound, pev, mev_zero}
use Rattle.laws.proofs.Order.{zs, pos_is, add_nonneg, mul_nonneg, sub_nonneg, of_sub_nonneg, cancel_pos, ≤_refl, lt→le1, le1→lt}

pub data Hyp : Type 0 where
  eq : Ex → Ex → Ex → Hyp
  le : ℕ → Ex → Ex → Hyp
  lt : ℕ → Ex → Ex → Hyp

abbrev pub Means : List ℤ → Hyp → Type 0
Means ρ (eq m l r) = den l ρ ≡ den r ρ
Means ρ (le k l r) = den l ρ ≤ℤ den r ρ
Means ρ (lt k l r) = den l ρ <ℤ den r ρ

-- what a hypothesis says is at least 0
abbrev pub part : Hyp → Ex
part (eq m l r) = m :* (l :- r)
part (le k l r) = lit (pos k) :* (r :- l)
part (lt k l r) = lit (pos k) :* (r :- (l :+ lit (pos 1)))

abbrev pub total : List Hyp → Ex
total [] = lit (pos 0)
total (h ∷ hs) = part h :+ total hs

-- G, given the hypotheses one after another
abbrev pub Given : List ℤ → List Hyp → Type 0 → Type 0
Given ρ [] G = G
Given ρ (h ∷ hs) G = Means ρ h → Given ρ hs G

times_zero : (m l r : ℤ) → l ≡ r → m *ℤ (l -ℤ r) ≡ pos 0
times_zero m l r e = ap (λ (z : ℤ). m *ℤ z) (ap (λ (z : ℤ). z -ℤ r) e ∙ +ℤ_invr r) ∙ *ℤ-zero m

pos_nonneg : (k : ℕ) → pos 0 ≤ℤ pos k
pos_nonneg k = record { le = le→leb 0 k (omega arith) }

part_nonneg : (ρ : List ℤ) (h : Hyp) → Means ρ h → pos 0 ≤ℤ den (part h) ρ
part_nonneg ρ (eq m l r) e = subst (λ (z : ℤ). pos 0 ≤ℤ z) (sym (times_zero (den m ρ) (den l ρ) (den r ρ) e)) (≤_refl (pos 0))
part_nonneg ρ (le k l r) h = mul_nonneg (pos_nonneg k) (sub_nonneg h)
part_nonneg ρ (lt k l r) h = mul_nonneg (pos_nonneg k) (sub_nonneg (lt→le1 h))

-- each hypothesis, as it comes, is added to a sum that is at least 0
gather : (ρ : List ℤ) (hs : List Hyp) (G : Type 0) (s : ℤ) → pos 0 ≤ℤ s → (pos 0 ≤ℤ (s +ℤ den (total hs) ρ) → G) → Given ρ hs G
gather ρ [] G s n k = k (subst (λ (z : ℤ). pos 0 ≤ℤ z) (sym (+ℤ_idr s)) n)
gather ρ (h ∷ hs) G s n k = λ p. gather ρ hs G (s +ℤ den (part h) ρ) (add_nonneg n (part_nonneg ρ h p)) (λ m. k (subst (λ (z : ℤ). pos 0 ≤ℤ z) (+ℤ_assoc s (den (part h) ρ) (den (total hs) ρ)) m))

-- a constant that is not negative
abbrev pub is_const : Poly → Bool
is_const nil = true
is_const (term (pos k) zero nil) = true
is_const (term (pos k) zero (term c m p)) = false
is_const (term (pos k) (suc i) p) = false
is_const (term (negsuc k) m p) = false

abbrev pub is_nat : Ex → Bool
is_nat e = elim (ltb (deg e) 32) [ true ↦ is_const (norm e) | false ↦ false ]

const_nonneg : (p : Poly) (ρ : List ℤ) → T (is_const p) → pos 0 ≤ℤ pev p ρ
unfolding pev
const_nonneg nil ρ t = ≤_refl (pos 0)
const_nonneg (term (pos k) zero nil) ρ t = subst (λ (z : ℤ). pos 0 ≤ℤ (pos k *ℤ z +ℤ pos 0)) (sym (mev_zero ρ)) (pos_nonneg (k * 1 + 0))
const_nonneg (term (pos k) zero (term c m p)) ρ t = absurd t
const_nonneg (term (pos k) (suc i) p) ρ t = absurd t
const_nonneg (term (negsuc k) m p) ρ t = absurd t

nat_sound : (ρ : List ℤ) (e : Ex) → T (is_nat e) → pos 0 ≤ℤ den e ρ
nat_sound ρ e t = let s = both (ltb (deg e) 32) (is_const (norm e)) t in subst (λ (z : ℤ). pos 0 ≤ℤ z) (norm_sound e ρ (ltb→lt (deg e) 32 s.0)) (const_nonneg (norm e) ρ s.1)

-- (c + 1)·d + c is not negative, so d is not
divide : (c : ℕ) (d : ℤ) → pos 0 ≤ℤ (pos (suc c) *ℤ d +ℤ pos c) → pos 0 ≤ℤ d
divide c d h = last (cancel_pos {a = pos (suc c)} (record { lt = le→leb 1 (suc c) (omega arith) }) (subst (λ (z : ℤ). pos 0 <ℤ z) same (one_more h)))
  where
    X : ℤ
    X = pos (suc c) *ℤ d +ℤ pos c

    one_more : pos 0 ≤ℤ X → pos 0 <ℤ (X +ℤ pos 1)
    one_more h = omega (arith, zs, sum_is X (pos 1), pos_is 0, pos_is 1)

    suc_is : pos c +ℤ pos 1 ≡ pos (suc c)
    suc_is = ap pos (omega arith)

    same : X +ℤ pos 1 ≡ pos (suc c) *ℤ (d +ℤ pos 1)
    same = ap (λ (z : ℤ). z *ℤ d +ℤ pos c +ℤ pos 1) (sym suc_is) ∙ ring (pos c ∷ d ∷ []) ((var 0 :+ lit (pos 1)) :* var 1 :+ var 0 :+ lit (pos 1)) ((var 0 :+ lit (pos 1)) :* (var 1 :+ lit (pos 1))) tt ∙ ap (λ (z : ℤ). z *ℤ (d +ℤ pos 1)) suc_is

    last : pos 0 <ℤ (d +ℤ pos 1) → pos 0 ≤ℤ d
    last h = omega (arith, zs, sum_is d (pos 1), pos_is 0, pos_is 1)

-- ---- l ≤ r: (c + 1)·(r − l) + c − Σ hypotheses is a constant that is not negative
pub order : (ρ : List ℤ) (hs : List Hyp) (c : ℕ) (l r : Ex) → T (is_nat (lit (pos (suc c)) :* (r :- l) :+ lit (pos c) :- total hs)) → Given ρ hs (den l ρ ≤ℤ den r ρ)
order ρ hs c l r t = gather ρ hs (den l ρ ≤ℤ den r ρ) (pos 0) (≤_refl (pos 0)) (λ m. of_sub_nonneg (divide c (den r ρ -ℤ den l ρ) (above (nat_sound ρ (lit (pos (suc c)) :* (r :- l) :+ lit (pos c) :- total hs) t) m)))
  where
    A : ℤ
    A = pos (suc c) *ℤ (den r ρ -ℤ den l ρ) +ℤ pos c

    B : ℤ
    B = den (total hs) ρ

    above : pos 0 ≤ℤ (A -ℤ B) → pos 0 ≤ℤ (pos 0 +ℤ B) → pos 0 ≤ℤ A
    above h k = omega (arith, zs, dif_is A B, sum_is (pos 0) B, pos_is 0)

-- ---- l < r
pub strict : (ρ : List ℤ) (hs : List Hyp) (c : ℕ) (l r : Ex) → T (is_nat (lit (pos (suc c)) :* (r :- (l :+ lit (pos 1))) :+ lit (pos c) :- total hs)) → Given ρ hs (den l ρ <ℤ den r ρ)
strict ρ hs c l r t = after hs (order ρ hs c (l :+ lit (pos 1)) r t)
  where
    after : (hs : List Hyp) → Given ρ hs ((den l ρ +ℤ pos 1) ≤ℤ den r ρ) → Given ρ hs (den l ρ <ℤ den r ρ)
    after [] x = le1→lt x
    after (h ∷ hs) x = λ p. after hs (x p)

-- ---- equations: l − r is Σ times·(left − right)
pub record Eqn : Type 0 where
  pub times : Ex
  pub left : Ex
  pub right : Ex

abbrev pub eqn : Ex → Ex → Ex → Eqn
eqn m l r = record { times = m; left = l; right = r }

abbrev pub esum : List Eqn → Ex
esum [] = lit (pos 0)
esum (h ∷ hs) = h.times :* (h.left :- h.right) :+ esum hs

abbrev pub EGiven : List ℤ → List Eqn → Type 0 → Type 0
EGiven ρ [] G = G
EGiven ρ (h ∷ hs) G = den h.left ρ ≡ den h.right ρ → EGiven ρ hs G

egather : (ρ : List ℤ) (hs : List Eqn) (G : Type 0) (s : ℤ) → s ≡ pos 0 → (s +ℤ den (esum hs) ρ ≡ pos 0 → G) → EGiven ρ hs G
egather ρ [] G s n k = k (+ℤ_idr s ∙ n)
egather ρ (h ∷ hs) G s n k =
    λ p. egather ρ hs G (s +ℤ den (h.times :* (h.left :- h.right)) ρ) (ap₂ ◌+ℤ◌ n (times_zero (den h.times ρ) (den h.left ρ) (den h.right ρ) p))
    (λ m. k (sym (+ℤ_assoc s (den (h.times :* (h.left :- h.right)) ρ) (den (esum hs) ρ)) ∙ m))

pub combine : (ρ : List ℤ) (hs : List Eqn) (l r : Ex) → T (is_zero (l :- r :- esum hs)) → EGiven ρ hs (den l ρ ≡ den r ρ)
combine ρ hs l r t = egather ρ hs (den l ρ ≡ den r ρ) (pos 0) refl (λ m. -ℤ-zero (den l ρ) (den r ρ) (ring ρ (l :- r) (esum hs) t ∙ sym (+ℤ_idl (den (esum hs) ρ)) ∙ m))
