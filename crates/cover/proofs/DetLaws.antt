-- Laws of the determinant of three vectors, and of V seen from a centre. Each opens the polynomials once.
use mathlib.Core.Path.{◌≡◌, sym, ◌∙◌, ap, subst}
use mathlib.Core.List.{List, [], ◌∷◌}
use Prim.Native.Nat.{ℕ}
use lib.IntN.{ℤ, pos, neg_ℤ, ◌+ℤ◌, ◌-ℤ◌, ◌*ℤ◌}
use lib.Signed.{◌<ℤ◌}
use Rattle.laws.proofs.Ring.{Ex, o, var, ◌:+◌, ◌:-◌, ◌:*◌, neg, ring}
use Rattle.laws.proofs.Order.{mul_pos_pos}
use Rattle.touches.specs.declared.Point.{Point}
use Rattle.volume.specs.Volume.{Vol, dot, normal, offset}
use Rattle.volume.proofs.Axes.{Axis, X, Y, Z, on}
use Rattle.volume.proofs.PlaneLaws.{plane_vol}
use Rattle.volume.proofs.Quote.{Spot, W, env, pt, on_e, det3_e, vol_e, minus_e, cross_e, dot_e}
use Rattle.cover.specs.Cones.{det, from}

abbrev pub det_e : Spot → Spot → Spot → Ex
det_e a b c = det3_e a.x a.y a.z b.x b.y b.z c.x c.y c.z

-- of three numbered points
abbrev pub D : ℕ → ℕ → ℕ → Ex
D i j k = det_e (pt i) (pt j) (pt k)

abbrev pub from_e : Ex → Spot → Spot → Spot
from_e w s x = record { x = w :* x.x :- s.x; y = w :* x.y :- s.y; z = w :* x.z :- s.z }

-- the variables of points, and one more
abbrev pub env_with : ℤ → List Point → List ℤ
env_with w [] = w ∷ []
env_with w (p ∷ ps) = p.x ∷ p.y ∷ p.z ∷ env_with w ps

-- ---- turned and exchanged
pub det_turn : (a b c : Point) → det b c a ≡ det a b c
unfolding det
det_turn a b c = ring (env (a ∷ b ∷ c ∷ [])) (D 1 2 0) (D 0 1 2) tt

pub turn_pos : (a b c : Point) → pos 0 <ℤ det a b c → pos 0 <ℤ det b c a
turn_pos a b c h = subst (λ (z : ℤ). pos 0 <ℤ z) (sym (det_turn a b c)) h

pub det_swap : (a b c : Point) → det b a c ≡ neg_ℤ (det a b c)
unfolding det
det_swap a b c = ring (env (a ∷ b ∷ c ∷ [])) (D 1 0 2) (neg (D 0 1 2)) tt

pub det_last : (a b c : Point) → det c b a ≡ neg_ℤ (det a b c)
unfolding det
det_last a b c = ring (env (a ∷ b ∷ c ∷ [])) (D 2 1 0) (neg (D 0 1 2)) tt

-- ---- x over the base a, b, c: its parts are det b c x, det c a x and det a b x
abbrev over_e : Axis → Ex
over_e i = D 1 2 3 :* on_e (pt 0) i :+ D 2 0 3 :* on_e (pt 1) i :+ D 0 1 3 :* on_e (pt 2) i

pub det_axis : (i : Axis) (a b c x : Point) → det a b c *ℤ on x i ≡ det b c x *ℤ on a i +ℤ det c a x *ℤ on b i +ℤ det a b x *ℤ on c i
unfolding det
det_axis X a b c x = ring (env (a ∷ b ∷ c ∷ x ∷ [])) (D 0 1 2 :* on_e (pt 3) X) (over_e X) tt
det_axis Y a b c x = ring (env (a ∷ b ∷ c ∷ x ∷ [])) (D 0 1 2 :* on_e (pt 3) Y) (over_e Y) tt
det_axis Z a b c x = ring (env (a ∷ b ∷ c ∷ x ∷ [])) (D 0 1 2 :* on_e (pt 3) Z) (over_e Z) tt

pub det_dot : (a b c x n : Point) → det a b c *ℤ dot n x ≡ det b c x *ℤ dot n a +ℤ det c a x *ℤ dot n b +ℤ det a b x *ℤ dot n c
unfolding det
det_dot a b c x n = ring (env (a ∷ b ∷ c ∷ x ∷ n ∷ [])) (D 0 1 2 :* dot_e (pt 4) (pt 3)) (D 1 2 3 :* dot_e (pt 4) (pt 0) :+ D 2 0 3 :* dot_e (pt 4) (pt 1) :+ D 0 1 3 :* dot_e (pt 4) (pt 2)) tt

-- with the parts of k and of x, det k a x is k₃x₂ − k₂x₃
pub det_base : (a b c k x : Point) → det a b c *ℤ det k a x +ℤ neg_ℤ (det a b k *ℤ det c a x) +ℤ det c a k *ℤ det a b x ≡ pos 0
unfolding det
det_base a b c k x = ring (env (a ∷ b ∷ c ∷ k ∷ x ∷ [])) (D 0 1 2 :* D 3 0 4 :+ neg (D 0 1 3 :* D 2 0 4) :+ D 2 0 3 :* D 0 1 4) o tt

-- k × x is square to x
pub det_square : (a b c k x : Point) → det b c x *ℤ det k a x +ℤ det c a x *ℤ det k b x +ℤ det a b x *ℤ det k c x ≡ pos 0
unfolding det
det_square a b c k x = ring (env (a ∷ b ∷ c ∷ k ∷ x ∷ [])) (D 1 2 4 :* D 3 0 4 :+ D 2 0 4 :* D 3 1 4 :+ D 0 1 4 :* D 3 2 4) o tt

-- ---- V and the determinant
det_vol : (a b c x : Point) → det a b c ≡ det b c x +ℤ det c a x +ℤ det a b x +ℤ Vol a b c x
unfolding det Vol
det_vol a b c x = ring (env (a ∷ b ∷ c ∷ x ∷ [])) (D 0 1 2) (D 1 2 3 :+ D 2 0 3 :+ D 0 1 3 :+ W 0 1 2 3) tt

det_offset : (a b c : Point) → offset a b c ≡ det a b c
unfolding det normal offset
det_offset a b c = ring (env (a ∷ b ∷ c ∷ [])) (dot_e (cross_e (minus_e (pt 1) (pt 0)) (minus_e (pt 2) (pt 0))) (pt 0)) (D 0 1 2) tt

-- ---- seen from the centre s / w every V is w³ times as large
abbrev pub cube : ℤ → ℤ
cube w = w *ℤ w *ℤ w

pub cube_pos : {w : ℤ} → pos 0 <ℤ w → pos 0 <ℤ cube w
cube_pos h = mul_pos_pos (mul_pos_pos h h) h

module _ (w : ℤ) (s a b c q : Point) where
  -- a, b, c, q, s are the points 0 to 4, and w the variable 15
  pub from_vol : Vol (from w s a) (from w s b) (from w s c) (from w s q) ≡ cube w *ℤ Vol a b c q
  unfolding Vol
  from_vol = ring (env_with w (a ∷ b ∷ c ∷ q ∷ s ∷ [])) (vol_e (at 0) (at 1) (at 2) (at 3)) (var 15 :* var 15 :* var 15 :* W 0 1 2 3) tt
    where
      at : ℕ → Spot
      at i = from_e (var 15) (pt 4) (pt i)

  -- the parts of q over the base a, b, c, and what is left for the centre
  pub from_parts : det (from w s a) (from w s b) (from w s c) ≡ det (from w s b) (from w s c) (from w s q) +ℤ det (from w s c) (from w s a) (from w s q) +ℤ det (from w s a) (from w s b) (from w s q) +ℤ cube w *ℤ Vol a b c q
  from_parts = det_vol (from w s a) (from w s b) (from w s c) (from w s q)
      ∙ ap (λ (z : ℤ). det (from w s b) (from w s c) (from w s q) +ℤ det (from w s c) (from w s a) (from w s q) +ℤ det (from w s a) (from w s b) (from w s q) +ℤ z) from_vol

  -- V of q is that of the centre, and a linear part of the vector from the centre to q
  pub from_plane : cube w *ℤ Vol a b c q ≡ det (from w s a) (from w s b) (from w s c) -ℤ dot (normal (from w s a) (from w s b) (from w s c)) (from w s q)
  from_plane = sym from_vol ∙ plane_vol (from w s a) (from w s b) (from w s c) (from w s q)
      ∙ ap (λ (z : ℤ). z -ℤ dot (normal (from w s a) (from w s b) (from w s c)) (from w s q)) (det_offset (from w s a) (from w s b) (from w s c))
