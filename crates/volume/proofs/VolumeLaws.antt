-- Laws of V. Each opens V once; whoever cites a law never sees the polynomial.
use mathlib.Core.Path.{◌≡◌, subst, sym}
use mathlib.Core.List.{[], ◌∷◌}
use lib.IntN.{ℤ, pos, neg_ℤ, ◌+ℤ◌, ◌-ℤ◌, ◌*ℤ◌}
use Rattle.laws.specs.Numbers.{Within}
use Rattle.laws.proofs.Ring.{Ex, o, var, ◌:+◌, ◌:-◌, ◌:*◌, neg, ring}
use Rattle.laws.proofs.Certificates.{combine, Eqn, eqn}
use Rattle.laws.proofs.WithinLaws.{within_add, within_sub, within_mul, within_neg}
use Rattle.touches.specs.declared.Point.{Point}
use Rattle.touches.specs.Limits.{reach}
use Rattle.touches.specs.Touches.{Near}
use Rattle.volume.specs.Volume.{Vol, most_gap, most_normal, most_volume, minus, cross, dot}
use Rattle.volume.proofs.Axes.{Axis, X, Y, Z, on}
use Rattle.volume.proofs.Quote.{Spot, W, env, pt, on_e, minus_e, cross_e, dot_e}

-- V is minus ((b − a) cross (c − a)) dot (d − a)
pub vol_cross : (a b c d : Point) → Vol a b c d ≡ neg_ℤ (dot (cross (minus b a) (minus c a)) (minus d a))
unfolding Vol
vol_cross a b c d = ring (env (a ∷ b ∷ c ∷ d ∷ [])) (W 0 1 2 3) (neg (dot_e (cross_e (minus_e (pt 1) (pt 0)) (minus_e (pt 2) (pt 0))) (minus_e (pt 3) (pt 0)))) tt

-- V is the determinant of the differences a − d, b − d, c − d
pub vol_fourth : (a b c d : Point) → Vol a b c d ≡ dot (minus a d) (cross (minus b d) (minus c d))
unfolding Vol
vol_fourth a b c d = ring (env (a ∷ b ∷ c ∷ d ∷ [])) (W 0 1 2 3) (dot_e (minus_e (pt 0) (pt 3)) (cross_e (minus_e (pt 1) (pt 3)) (minus_e (pt 2) (pt 3)))) tt

-- its size within range
pub vol_within : {a b c d : Point} → Near a → Near b → Near c → Near d → Within most_volume (Vol a b c d)
vol_within {a} {b} {c} {d} ha hb hc hd = subst (Within most_volume) (sym (vol_cross a b c d))
    (within_neg (within_add (within_add
    (within_mul (part (gap hb.y ha.y) (gap hc.z ha.z) (gap hb.z ha.z) (gap hc.y ha.y)) (gap hd.x ha.x))
    (within_mul (part (gap hb.z ha.z) (gap hc.x ha.x) (gap hb.x ha.x) (gap hc.z ha.z)) (gap hd.y ha.y)))
    (within_mul (part (gap hb.x ha.x) (gap hc.y ha.y) (gap hb.y ha.y) (gap hc.x ha.x)) (gap hd.z ha.z))))
  where
    gap : {x y : ℤ} → Within reach x → Within reach y → Within most_gap (x -ℤ y)
    gap x y = within_sub x y

    part : {p q r s : ℤ} → Within most_gap p → Within most_gap q → Within most_gap r → Within most_gap s → Within most_normal (p *ℤ q -ℤ r *ℤ s)
    part p q r s = within_sub (within_mul p q) (within_mul r s)

-- ---- ALT: exchanging two points turns the sign, turning three keeps it
pub alt_ab : (a b c d : Point) → Vol b a c d ≡ neg_ℤ (Vol a b c d)
unfolding Vol
alt_ab a b c d = ring (env (a ∷ b ∷ c ∷ d ∷ [])) (W 1 0 2 3) (neg (W 0 1 2 3)) tt

pub alt_bc : (a b c d : Point) → Vol a c b d ≡ neg_ℤ (Vol a b c d)
unfolding Vol
alt_bc a b c d = ring (env (a ∷ b ∷ c ∷ d ∷ [])) (W 0 2 1 3) (neg (W 0 1 2 3)) tt

pub alt_cd : (a b c d : Point) → Vol a b d c ≡ neg_ℤ (Vol a b c d)
unfolding Vol
alt_cd a b c d = ring (env (a ∷ b ∷ c ∷ d ∷ [])) (W 0 1 3 2) (neg (W 0 1 2 3)) tt

pub alt_bd : (a b c d : Point) → Vol a d c b ≡ neg_ℤ (Vol a b c d)
unfolding Vol
alt_bd a b c d = ring (env (a ∷ b ∷ c ∷ d ∷ [])) (W 0 3 2 1) (neg (W 0 1 2 3)) tt

pub turn_abc : (a b c d : Point) → Vol b c a d ≡ Vol a b c d
unfolding Vol
turn_abc a b c d = ring (env (a ∷ b ∷ c ∷ d ∷ [])) (W 1 2 0 3) (W 0 1 2 3) tt

pub turn_bcd : (a b c d : Point) → Vol a c d b ≡ Vol a b c d
unfolding Vol
turn_bcd a b c d = ring (env (a ∷ b ∷ c ∷ d ∷ [])) (W 0 2 3 1) (W 0 1 2 3) tt

pub turn_bdc : (a b c d : Point) → Vol a d b c ≡ Vol a b c d
unfolding Vol
turn_bdc a b c d = ring (env (a ∷ b ∷ c ∷ d ∷ [])) (W 0 3 1 2) (W 0 1 2 3) tt

pub turn_abd : (a b c d : Point) → Vol b d c a ≡ Vol a b c d
unfolding Vol
turn_abd a b c d = ring (env (a ∷ b ∷ c ∷ d ∷ [])) (W 1 3 2 0) (W 0 1 2 3) tt

pub swap_both : (a b c d : Point) → Vol c d a b ≡ Vol a b c d
unfolding Vol
swap_both a b c d = ring (env (a ∷ b ∷ c ∷ d ∷ [])) (W 2 3 0 1) (W 0 1 2 3) tt

-- a corner of the face, or a repeated corner
pub alt_a : (a b c : Point) → Vol a b c a ≡ pos 0
unfolding Vol
alt_a a b c = ring (env (a ∷ b ∷ c ∷ [])) (W 0 1 2 0) o tt

pub alt_b : (a b c : Point) → Vol a b c b ≡ pos 0
unfolding Vol
alt_b a b c = ring (env (a ∷ b ∷ c ∷ [])) (W 0 1 2 1) o tt

pub alt_c : (a b c : Point) → Vol a b c c ≡ pos 0
unfolding Vol
alt_c a b c = ring (env (a ∷ b ∷ c ∷ [])) (W 0 1 2 2) o tt

pub alt_same : (a c d : Point) → Vol a a c d ≡ pos 0
unfolding Vol
alt_same a c d = ring (env (a ∷ c ∷ d ∷ [])) (W 0 0 1 2) o tt

-- ---- GP: three terms, axis a, b
pub gp : (a b y z k x : Point) → Vol a b y z *ℤ Vol a b k x -ℤ Vol a b y k *ℤ Vol a b z x +ℤ Vol a b y x *ℤ Vol a b z k ≡ pos 0
unfolding Vol
gp a b y z k x = ring (env (a ∷ b ∷ y ∷ z ∷ k ∷ x ∷ [])) (W 0 1 2 3 :* W 0 1 4 5 :- W 0 1 2 4 :* W 0 1 3 5 :+ W 0 1 2 5 :* W 0 1 3 4) o tt

-- ---- CO: a fifth point
pub co : (a b c o k : Point) → Vol a b c o ≡ Vol a b k o +ℤ Vol b c k o +ℤ Vol c a k o +ℤ Vol a b c k
unfolding Vol
co a b c o k = ring (env (a ∷ b ∷ c ∷ o ∷ k ∷ [])) (W 0 1 2 3) (W 0 1 4 3 :+ W 1 2 4 3 :+ W 2 0 4 3 :+ W 0 1 2 4) tt

-- ---- CR: Cramer at a, along each axis
abbrev cr_l : Axis → Ex
cr_l i = W 0 1 2 3 :* (on_e (pt 4) i :- on_e (pt 0) i)

abbrev cr_r : Axis → Ex
cr_r i = W 0 4 2 3 :* (on_e (pt 1) i :- on_e (pt 0) i) :+ W 0 1 4 3 :* (on_e (pt 2) i :- on_e (pt 0) i) :+ W 0 1 2 4 :* (on_e (pt 3) i :- on_e (pt 0) i)

pub cr : (i : Axis) (a b k x p : Point) → Vol a b k x *ℤ (on p i -ℤ on a i) ≡ Vol a p k x *ℤ (on b i -ℤ on a i) +ℤ Vol a b p x *ℤ (on k i -ℤ on a i) +ℤ Vol a b k p *ℤ (on x i -ℤ on a i)
unfolding Vol
cr X a b k x p = ring (env (a ∷ b ∷ k ∷ x ∷ p ∷ [])) (cr_l X) (cr_r X) tt
cr Y a b k x p = ring (env (a ∷ b ∷ k ∷ x ∷ p ∷ [])) (cr_l Y) (cr_r Y) tt
cr Z a b k x p = ring (env (a ∷ b ∷ k ∷ x ∷ p ∷ [])) (cr_l Z) (cr_r Z) tt

-- ---- AFF: V is affine in its last point. The points a b c p q v are 0 .. 5, and s, t the variables 18, 19
abbrev along : Axis → Ex → Eqn
along i m = eqn (neg m) (var 18 :* (on_e (pt 4) i :- on_e (pt 5) i)) (var 19 :* (on_e (pt 3) i :- on_e (pt 5) i))

abbrev n : Spot
n = cross_e (minus_e (pt 1) (pt 0)) (minus_e (pt 2) (pt 0))

pub aff : (a b c p q v : Point) (s t : ℤ) → ((i : Axis) → s *ℤ (on q i -ℤ on v i) ≡ t *ℤ (on p i -ℤ on v i)) → s *ℤ (Vol a b c q -ℤ Vol a b c v) ≡ t *ℤ (Vol a b c p -ℤ Vol a b c v)
unfolding Vol
aff a b c p q v s t h =
    combine (a.x ∷ a.y ∷ a.z ∷ b.x ∷ b.y ∷ b.z ∷ c.x ∷ c.y ∷ c.z ∷ p.x ∷ p.y ∷ p.z ∷ q.x ∷ q.y ∷ q.z ∷ v.x ∷ v.y ∷ v.z ∷ s ∷ t ∷ [])
    (along X n.x ∷ along Y n.y ∷ along Z n.z ∷ [])
    (var 18 :* (W 0 1 2 4 :- W 0 1 2 5)) (var 19 :* (W 0 1 2 3 :- W 0 1 2 5)) tt (h X) (h Y) (h Z)
