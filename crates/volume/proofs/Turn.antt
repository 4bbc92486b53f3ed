-- L4 of the hull's proof: two sides from one point, each with k in front of its face, whose new faces have each other's ends on or behind them, lie on one
-- ray. It is said over a bracket, so that V and −V serve the sides from a point and the sides to it.
use mathlib.Core.Path.{◌≡◌, sym, ◌∙◌, ap, subst}
use mathlib.Core.List.{[], ◌∷◌}
use native.Mathlib.Omega.{arith}
use lib.IntN.{ℤ, pos, neg_ℤ, ◌+ℤ◌, ◌-ℤ◌, ◌*ℤ◌, zero-*ℤ, neg_ℤ-neg_ℤ}
use lib.Signed.{◌≤ℤ◌, ◌<ℤ◌, <ℤ_irrefl}
use Rattle.laws.proofs.Integers.{up_neg, dn_neg}
use Rattle.laws.proofs.Ring.{o, one, var, ◌:+◌, ◌:-◌, ◌:*◌, neg}
use Rattle.laws.proofs.Order.{zs, pos_is, <→≤, not_lt, mul_nonneg, mul_pos_neg, cancel_nonneg, neg_pos, Sign, minus, null, plus, sign}
use Rattle.laws.proofs.Certificates.{order, combine, eqn, eq, le}
use Rattle.touches.specs.declared.Point.{Point}
use Rattle.volume.specs.Volume.{Vol}
use Rattle.volume.proofs.Axes.{Axis, on}
use Rattle.volume.proofs.VolumeLaws.{alt_ab, alt_bc, alt_bd, alt_a, turn_bcd, gp, cr, aff}
use Rattle.volume.proofs.Rays.{OnRay}

pub record Bracket (B : Point → Point → Point → Point → ℤ) : Type 0 where
  pub swap_bc : (a b c d : Point) → B a c b d ≡ neg_ℤ (B a b c d)
  pub swap_bd : (a b c d : Point) → B a d c b ≡ neg_ℤ (B a b c d)
  pub three : (a b y z k x : Point) → B a b y z *ℤ B a b k x -ℤ B a b y k *ℤ B a b z x +ℤ B a b y x *ℤ B a b z k ≡ pos 0
  pub cramer : (i : Axis) (a b k x p : Point) → B a b k x *ℤ (on p i -ℤ on a i) ≡ B a p k x *ℤ (on b i -ℤ on a i) +ℤ B a b p x *ℤ (on k i -ℤ on a i) +ℤ B a b k p *ℤ (on x i -ℤ on a i)
  pub linear : (a b b' y k : Point) (m n : ℤ) → ((i : Axis) → m *ℤ (on b i -ℤ on a i) ≡ n *ℤ (on b' i -ℤ on a i)) → m *ℤ B a b y k ≡ n *ℤ B a b' y k

-- ---- V
vol_linear : (a b b' y k : Point) (m n : ℤ) → ((i : Axis) → m *ℤ (on b i -ℤ on a i) ≡ n *ℤ (on b' i -ℤ on a i)) → m *ℤ Vol a b y k ≡ n *ℤ Vol a b' y k
vol_linear a b b' y k m n h =
    combine (m ∷ n ∷ Vol a b y k ∷ Vol a b' y k ∷ Vol a y k b ∷ Vol a y k b' ∷ Vol a y k a ∷ [])
    (eqn one (var 0 :* (var 4 :- var 6)) (var 1 :* (var 5 :- var 6)) ∷ eqn (neg (var 0)) (var 4) (var 2) ∷ eqn (var 1) (var 5) (var 3) ∷ eqn (var 0 :- var 1) (var 6) o ∷ [])
    (var 0 :* var 2) (var 1 :* var 3) tt (aff a y k b' b a m n h) (turn_bcd a b y k) (turn_bcd a b' y k) (alt_a a y k)

pub vol_bracket : Bracket Vol
vol_bracket = record { swap_bc = alt_bc; swap_bd = alt_bd; three = gp; cramer = cr; linear = vol_linear }

-- ---- −V
unfoldable pub neg-Vol : Point → Point → Point → Point → ℤ
neg-Vol a b c d = neg_ℤ (Vol a b c d)

neg_three : (p q r s t u : ℤ) → p *ℤ q -ℤ r *ℤ s +ℤ t *ℤ u ≡ pos 0 → neg_ℤ p *ℤ neg_ℤ q -ℤ neg_ℤ r *ℤ neg_ℤ s +ℤ neg_ℤ t *ℤ neg_ℤ u ≡ pos 0
neg_three p q r s t u e = combine (p ∷ q ∷ r ∷ s ∷ t ∷ u ∷ []) (eqn one (var 0 :* var 1 :- var 2 :* var 3 :+ var 4 :* var 5) o ∷ [])
    (neg (var 0) :* neg (var 1) :- neg (var 2) :* neg (var 3) :+ neg (var 4) :* neg (var 5)) o tt e

neg_cramer : (p x q y r z s w : ℤ) → p *ℤ x ≡ q *ℤ y +ℤ r *ℤ z +ℤ s *ℤ w → neg_ℤ p *ℤ x ≡ neg_ℤ q *ℤ y +ℤ neg_ℤ r *ℤ z +ℤ neg_ℤ s *ℤ w
neg_cramer p x q y r z s w e = combine (p ∷ x ∷ q ∷ y ∷ r ∷ z ∷ s ∷ w ∷ []) (eqn (neg one) (var 0 :* var 1) (var 2 :* var 3 :+ var 4 :* var 5 :+ var 6 :* var 7) ∷ [])
    (neg (var 0) :* var 1) (neg (var 2) :* var 3 :+ neg (var 4) :* var 5 :+ neg (var 6) :* var 7) tt e

neg_linear : (m n u v : ℤ) → m *ℤ u ≡ n *ℤ v → m *ℤ neg_ℤ u ≡ n *ℤ neg_ℤ v
neg_linear m n u v e = combine (m ∷ n ∷ u ∷ v ∷ []) (eqn (neg one) (var 0 :* var 2) (var 1 :* var 3) ∷ []) (var 0 :* neg (var 2)) (var 1 :* neg (var 3)) tt e

pub neg_bracket : Bracket neg-Vol
unfolding neg-Vol
neg_bracket = record {
  swap_bc = λ a b c d. ap neg_ℤ (alt_bc a b c d);
  swap_bd = λ a b c d. ap neg_ℤ (alt_bd a b c d);
  three = λ a b y z k x. neg_three (Vol a b y z) (Vol a b k x) (Vol a b y k) (Vol a b z x) (Vol a b y x) (Vol a b z k) (gp a b y z k x);
  cramer = λ i a b k x p. neg_cramer (Vol a b k x) (on p i -ℤ on a i) (Vol a p k x) (on b i -ℤ on a i) (Vol a b p x) (on k i -ℤ on a i) (Vol a b k p) (on x i -ℤ on a i) (cr i a b k x p);
  linear = λ a b b' y k m n h. neg_linear m n (Vol a b y k) (Vol a b' y k) (vol_linear a b b' y k m n h);
}

-- −V read from a side's other end is V
pub mirror : (a b c d : Point) → neg-Vol b a c d ≡ Vol a b c d
unfolding neg-Vol
mirror a b c d = ap neg_ℤ (alt_ab a b c d) ∙ neg_ℤ-neg_ℤ (Vol a b c d)

-- ---- L4
both_zero : (u v : ℤ) → v ≡ neg_ℤ u → pos 0 ≤ℤ u → pos 0 ≤ℤ v → u ≡ pos 0
both_zero u v e h k = omega (arith, zs, up_neg u, dn_neg u, pos_is 0)

zero_neg : (u v : ℤ) → v ≡ neg_ℤ u → u ≡ pos 0 → v ≡ pos 0
zero_neg u v e h = omega (arith, zs, up_neg u, dn_neg u, pos_is 0)

squeeze : (u v : ℤ) → v ≡ neg_ℤ u → pos 0 ≤ℤ neg_ℤ u → pos 0 ≤ℤ neg_ℤ v → u ≡ pos 0
squeeze u v e h k = omega (arith, zs, up_neg u, dn_neg u, up_neg v, dn_neg v, pos_is 0)

-- f·m = r·d with f < 0, r ≥ 0, d ≥ 0
turned : (f m r d q z : ℤ) → f *ℤ m -ℤ r *ℤ d +ℤ q *ℤ z ≡ pos 0 → z ≡ pos 0 → f <ℤ pos 0 → pos 0 ≤ℤ r → pos 0 ≤ℤ d → pos 0 ≤ℤ neg_ℤ m
turned f m r d q z e ez hf hr hd = cancel_nonneg {a = neg_ℤ f} {b = neg_ℤ m} (neg_pos hf)
    (order (f ∷ m ∷ r ∷ d ∷ q ∷ z ∷ []) (eq one (var 0 :* var 1 :- var 2 :* var 3 :+ var 4 :* var 5) o ∷ eq (neg (var 4)) (var 5) o ∷ le 1 o (var 2 :* var 3) ∷ []) 0 o (neg (var 0) :* neg (var 1)) tt e ez (mul_nonneg hr hd))

drop_two : (w p m r u t : ℤ) → w ≡ p +ℤ m *ℤ r +ℤ u *ℤ t → m ≡ pos 0 → u ≡ pos 0 → w ≡ p
drop_two w p m r u t e em eu = combine (w ∷ p ∷ m ∷ r ∷ u ∷ t ∷ []) (eqn one (var 0) (var 1 :+ var 2 :* var 3 :+ var 4 :* var 5) ∷ eqn (var 3) (var 2) o ∷ eqn (var 5) (var 4) o ∷ []) (var 0) (var 1) tt e em eu

pos_other : (m n u v : ℤ) → m *ℤ u ≡ n *ℤ v → pos 0 <ℤ m → u <ℤ pos 0 → pos 0 ≤ℤ n → pos 0 <ℤ n
pos_other m n u v e hm hu hn = go (sign n)
  where
    go : Sign n → pos 0 <ℤ n
    go (minus h) = absurd (not_lt hn h)
    go (null z) = absurd (<ℤ_irrefl (subst (λ (w : ℤ). w <ℤ pos 0) (e ∙ ap (λ (w : ℤ). w *ℤ v) z ∙ zero-*ℤ v) (mul_pos_neg hm hu)))
    go (plus p) = p

module _ {B : Point → Point → Point → Point → ℤ} (L : Bracket B) where
  -- x is a point strictly behind the new face (a,b,k)
  pub turn : (a b y b' y' k x : Point) → B a b y k <ℤ pos 0 → B a b' y' k <ℤ pos 0 → pos 0 ≤ℤ B a b y b' → pos 0 ≤ℤ B a b' y' b →
      pos 0 ≤ℤ B a b k b' → pos 0 ≤ℤ B a b' k b → pos 0 <ℤ B a b k x → pos 0 ≤ℤ B a b' k x → OnRay a b b'
  turn a b y b' y' k x hf hf' hy hy' hk hk' hx hx' = record { m = B a b' k x; n = B a b k x; m_pos = D'-pos; n_pos = hx; along = λ i. sym (line i) }
    where
      k_zero : B a b k b' ≡ pos 0
      k_zero = both_zero (B a b k b') (B a b' k b) (L.swap_bd a b k b') hk hk'

      k_zero' : B a b' k b ≡ pos 0
      k_zero' = zero_neg (B a b k b') (B a b' k b) (L.swap_bd a b k b') k_zero

      m_le : pos 0 ≤ℤ neg_ℤ (B a b b' x)
      m_le = turned (B a b y k) (B a b b' x) (B a b y b') (B a b k x) (B a b y x) (B a b k b') (L.three a b y k b' x) k_zero hf hy (<→≤ hx)

      m_ge : pos 0 ≤ℤ neg_ℤ (B a b' b x)
      m_ge = turned (B a b' y' k) (B a b' b x) (B a b' y' b) (B a b' k x) (B a b' y' x) (B a b' k b) (L.three a b' y' k b x) k_zero' hf' hy' hx'

      m_zero : B a b b' x ≡ pos 0
      m_zero = squeeze (B a b b' x) (B a b' b x) (L.swap_bc a b b' x) m_le m_ge

      line : (i : Axis) → B a b k x *ℤ (on b' i -ℤ on a i) ≡ B a b' k x *ℤ (on b i -ℤ on a i)
      line i = drop_two (B a b k x *ℤ (on b' i -ℤ on a i)) (B a b' k x *ℤ (on b i -ℤ on a i)) (B a b b' x) (on k i -ℤ on a i) (B a b k b') (on x i -ℤ on a i) (L.cramer i a b k x b') m_zero k_zero

      D'-pos : pos 0 <ℤ B a b' k x
      D'-pos = pos_other (B a b k x) (B a b' k x) (B a b' y' k) (B a b y' k) (L.linear a b' b y' k (B a b k x) (B a b' k x) line) hx hf' hx'
