-- The two faces on a side and the new face over it: L1 and L2 of the hull's proof, by GP.
use mathlib.Core.Path.{◌≡◌, sym, ◌∙◌, ap, subst}
use mathlib.Core.List.{[], ◌∷◌}
use lib.IntN.{ℤ, pos, neg_ℤ, ◌+ℤ◌, ◌*ℤ◌, zero-*ℤ}
use lib.Signed.{◌≤ℤ◌, ◌<ℤ◌, <ℤ_irrefl}
use Rattle.laws.proofs.Ring.{o, one, var, ◌:+◌, ◌:-◌, ◌:*◌, neg}
use Rattle.laws.proofs.Order.{<→≤, not_lt, add_nonneg, add_pos, mul_nonneg, mul_pos_pos, cancel_pos, cancel_nonneg, neg_pos, Sign, minus, null, plus, sign}
use Rattle.laws.proofs.Certificates.{combine, eqn}
use Rattle.touches.specs.declared.Point.{Point}
use Rattle.volume.specs.Volume.{Vol}
use Rattle.volume.proofs.VolumeLaws.{alt_ab, gp}

-- a→b is a side of (a,b,y), which has k in front, and b→a of (b,a,z), which has not; and the two faces bend towards each other
pub record Wings (a b y z k : Point) : Type 0 where
  pub front : Vol a b y k <ℤ pos 0
  pub behind : pos 0 ≤ℤ Vol b a z k
  pub bend : pos 0 <ℤ Vol a b y z

gp_wing : (a b y z k x : Point) → Vol a b y z *ℤ Vol a b k x ≡ neg_ℤ (Vol a b y k) *ℤ Vol b a z x +ℤ Vol a b y x *ℤ Vol b a z k
gp_wing a b y z k x =
    combine (Vol a b y z ∷ Vol a b k x ∷ Vol a b y k ∷ Vol a b z x ∷ Vol a b y x ∷ Vol a b z k ∷ Vol b a z x ∷ Vol b a z k ∷ [])
    (eqn one (var 0 :* var 1 :- var 2 :* var 3 :+ var 4 :* var 5) o ∷ eqn (var 2) (var 6) (neg (var 3)) ∷ eqn (neg (var 4)) (var 7) (neg (var 5)) ∷ [])
    (var 0 :* var 1) (neg (var 2) :* var 6 :+ var 4 :* var 7) tt (gp a b y z k x) (alt_ab a b z x) (alt_ab a b z k)

pos_factor : (a b : ℤ) → pos 0 ≤ℤ a → pos 0 <ℤ (a *ℤ b) → pos 0 <ℤ a
pos_factor a b h k = go (sign a)
  where
    go : Sign a → pos 0 <ℤ a
    go (minus n) = absurd (not_lt h n)
    go (null e) = absurd (<ℤ_irrefl (subst (λ (z : ℤ). pos 0 <ℤ z) (ap (λ (z : ℤ). z *ℤ b) e ∙ zero-*ℤ b) k))
    go (plus p) = p

module _ (a b y z k : Point) (front : Vol a b y k <ℤ pos 0) (behind : pos 0 ≤ℤ Vol b a z k) (x : Point) (hy : pos 0 ≤ℤ Vol a b y x) (hz : pos 0 <ℤ Vol b a z x) where
  product_pos : pos 0 <ℤ (Vol a b y z *ℤ Vol a b k x)
  product_pos = subst (λ (w : ℤ). pos 0 <ℤ w) (sym (gp_wing a b y z k x)) (add_pos (mul_pos_pos (neg_pos front) hz) (mul_nonneg hy behind))

  -- L1: the faces bend, since z is not in front of (a,b,y), and some x that is not either is behind (b,a,z)
  pub wings : pos 0 ≤ℤ Vol a b y z → Wings a b y z k
  wings h = record { front = front; behind = behind; bend = pos_factor (Vol a b y z) (Vol a b k x) h product_pos }

-- L2: what is on or behind both faces is on or behind the new face (a,b,k), and the same strictly
module _ {a b y z k : Point} (w : Wings a b y z k) (x : Point) where
  pub new_weak : pos 0 ≤ℤ Vol a b y x → pos 0 ≤ℤ Vol b a z x → pos 0 ≤ℤ Vol a b k x
  new_weak hy hz = cancel_nonneg w.bend (subst (λ (v : ℤ). pos 0 ≤ℤ v) (sym (gp_wing a b y z k x)) (add_nonneg (mul_nonneg (<→≤ (neg_pos w.front)) hz) (mul_nonneg hy w.behind)))

  pub new_strict : pos 0 ≤ℤ Vol a b y x → pos 0 <ℤ Vol b a z x → pos 0 <ℤ Vol a b k x
  new_strict hy hz = cancel_pos w.bend (product_pos a b y z k w.front w.behind x hy hz)
