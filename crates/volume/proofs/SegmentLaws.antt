-- A place is on the smallest segment with three corners in line exactly if it is a mixture of them.
use mathlib.Core.Path.{◌≡◌, refl, sym, ◌∙◌, ap, subst}
use mathlib.Core.Logic.{◌⊎◌, inl, inr}
use mathlib.Core.Bool.{Bool, true, false, ◌&&◌, ◌||◌}
use mathlib.Core.List.{List, [], ◌∷◌}
use native.Mathlib.Omega.{arith}
use lib.Dec.{T}
use lib.IntN.{ℤ, pos, ◌+ℤ◌, ◌-ℤ◌, ◌*ℤ◌, *ℤ-zero}
use lib.Signed.{◌≤ℤ◌, ◌<ℤ◌, le_z, le_z_yes, lt_z_yes, <ℤ_irrefl}
use Rattle.laws.proofs.Tests.{and_both, both_and, or_left, or_right}
use Rattle.laws.proofs.Integers.{sum_is, -ℤ-zero}
use Rattle.laws.proofs.Ring.{Ex, o, one, var, ◌:+◌, ◌:-◌, ◌:*◌, neg, ring}
use Rattle.laws.proofs.Order.{zs, pos_is, Sign, minus, null, plus, sign, ≤_refl, <→≤, not_lt, below_or, mul_nonneg, mul_pos_pos, mul_neg_neg, cancel_zero, sub_nonneg, add_pos, neg_pos, lt→le1}
use Rattle.laws.proofs.Certificates.{combine, eqn, order, eq, le}
use Rattle.touches.specs.declared.Point.{Point}
use Rattle.volume.specs.Volume.{dot, normal, in_line}
use Rattle.volume.specs.Triangle.{between, on_segment, Mixture}
use Rattle.volume.proofs.Axes.{Axis, X, Y, Z, on, point_ext}
use Rattle.volume.proofs.Quote.{env, pt, dot_e}
use Rattle.volume.proofs.LineLaws.{origin→, →origin, dot_origin}
use Rattle.volume.proofs.SquareLaws.{dot_zero}
use Rattle.volume.proofs.TriangleLaws.{share_ab, share_bc, share_ca}

-- ---- a mixture of corners in line is in line with each two
dot_comm : (u v : Point) → dot u v ≡ dot v u
dot_comm u v = ring (env (u ∷ v ∷ [])) (dot_e (pt 0) (pt 1)) (dot_e (pt 1) (pt 0)) tt

-- d·(n · n) = w·(n · u) with u = 0
only_zero : (d w : ℤ) (n u : Point) → pos 0 <ℤ d → ((i : Axis) → on u i ≡ pos 0) → d *ℤ dot n n ≡ w *ℤ dot n u → (i : Axis) → on n i ≡ pos 0
only_zero d w n u h z e = dot_zero n (cancel_zero h (e ∙ ap (λ (y : ℤ). w *ℤ y) (dot_comm n u ∙ dot_origin u n z) ∙ *ℤ-zero w))

-- ---- and along each axis neither below all three nor above
module _ {a b c q : Point} (m : Mixture a b c q) where
  -- the weights balance only if some difference is not above 0
  some_le : (x y z u v w : ℤ) → m.i *ℤ (x -ℤ u) +ℤ m.j *ℤ (y -ℤ v) +ℤ m.k *ℤ (z -ℤ w) ≡ pos 0 → T (le_z x u || le_z y v || le_z z w)
  some_le x y z u v w e = go (below_or x u) (below_or y v) (below_or z w)
    where
      none : u <ℤ x → v <ℤ y → w <ℤ z → (m.i +ℤ m.j +ℤ m.k) ≤ℤ pos 0
      none f g h = order (x ∷ y ∷ z ∷ u ∷ v ∷ w ∷ m.i ∷ m.j ∷ m.k ∷ [])
          (eq (neg one) (var 6 :* (var 0 :- var 3) :+ var 7 :* (var 1 :- var 4) :+ var 8 :* (var 2 :- var 5)) o
          ∷ le 1 o (var 6 :* (var 0 :- (var 3 :+ one))) ∷ le 1 o (var 7 :* (var 1 :- (var 4 :+ one))) ∷ le 1 o (var 8 :* (var 2 :- (var 5 :+ one))) ∷ []) 0 (var 6 :+ var 7 :+ var 8) o tt
          e (mul_nonneg m.i_nonneg (sub_nonneg (lt→le1 f))) (mul_nonneg m.j_nonneg (sub_nonneg (lt→le1 g))) (mul_nonneg m.k_nonneg (sub_nonneg (lt→le1 h)))

      go : (x ≤ℤ u) ⊎ (u <ℤ x) → (y ≤ℤ v) ⊎ (v <ℤ y) → (z ≤ℤ w) ⊎ (w <ℤ z) → T (le_z x u || le_z y v || le_z z w)
      go (inl h) s t = or_left (le_z x u || le_z y v) (le_z z w) (or_left (le_z x u) (le_z y v) h.le)
      go (inr f) (inl h) t = or_left (le_z x u || le_z y v) (le_z z w) (or_right (le_z x u) (le_z y v) h.le)
      go (inr f) (inr g) (inl h) = or_right (le_z x u || le_z y v) (le_z z w) h.le
      go (inr f) (inr g) (inr h) = absurd (not_lt (none f g h) m.some)

  mixture_between : (x y z t : ℤ) → (m.i +ℤ m.j +ℤ m.k) *ℤ t ≡ m.i *ℤ x +ℤ m.j *ℤ y +ℤ m.k *ℤ z → T (between x y z t)
  mixture_between x y z t e = both_and (le_z x t || le_z y t || le_z z t) (le_z t x || le_z t y || le_z t z)
      (some_le x y z t t t (combine values (eqn (neg one) left right ∷ []) (var 4 :* (var 0 :- var 3) :+ var 5 :* (var 1 :- var 3) :+ var 6 :* (var 2 :- var 3)) o tt e))
      (some_le t t t x y z (combine values (eqn one left right ∷ []) (var 4 :* (var 3 :- var 0) :+ var 5 :* (var 3 :- var 1) :+ var 6 :* (var 3 :- var 2)) o tt e))
    where
      values : List ℤ
      values = x ∷ y ∷ z ∷ t ∷ m.i ∷ m.j ∷ m.k ∷ []

      left : Ex
      left = (var 4 :+ var 5 :+ var 6) :* var 3

      right : Ex
      right = var 4 :* var 0 :+ var 5 :* var 1 :+ var 6 :* var 2

-- ---- the other way: in line with l and r, the parts of q − l are to each other as those of r − l
ratio : (l r q : Point) → ((i : Axis) → on (normal l r q) i ≡ pos 0) → (t s : Axis) → (on r t -ℤ on l t) *ℤ (on q s -ℤ on l s) ≡ (on r s -ℤ on l s) *ℤ (on q t -ℤ on l t)
unfolding normal
ratio l r q e X X = refl
ratio l r q e X Y = -ℤ-zero _ _ (e Z)
ratio l r q e X Z = sym (-ℤ-zero _ _ (e Y))
ratio l r q e Y X = sym (-ℤ-zero _ _ (e Z))
ratio l r q e Y Y = refl
ratio l r q e Y Z = -ℤ-zero _ _ (e X)
ratio l r q e Z X = -ℤ-zero _ _ (e Y)
ratio l r q e Z Y = sym (-ℤ-zero _ _ (e X))
ratio l r q e Z Z = refl

-- a mixture by its axes, and a corner as one
by_axes : {a b c q : Point} (i j k : ℤ) → pos 0 ≤ℤ i → pos 0 ≤ℤ j → pos 0 ≤ℤ k → pos 0 <ℤ (i +ℤ j +ℤ k) → ((t : Axis) → (i +ℤ j +ℤ k) *ℤ on q t ≡ i *ℤ on a t +ℤ j *ℤ on b t +ℤ k *ℤ on c t) → Mixture a b c q
by_axes i j k f g h s e = record { i = i; j = j; k = k; i_nonneg = f; j_nonneg = g; k_nonneg = h; some = s; x = e X; y = e Y; z = e Z }

corner_mixture : (a b c : Point) → Mixture a b c a
corner_mixture a b c = by_axes (pos 1) (pos 0) (pos 0) (le_z_yes tt) (le_z_yes tt) (le_z_yes tt) (lt_z_yes tt)
    (λ t. ring (on a t ∷ on b t ∷ on c t ∷ []) ((one :+ o :+ o) :* var 0) (one :* var 0 :+ o :* var 1 :+ o :* var 2) tt)

sum_pos : {i w : ℤ} → pos 0 ≤ℤ i → pos 0 <ℤ w → (pos 0 <ℤ (i +ℤ w +ℤ pos 0)) × (pos 0 <ℤ (i +ℤ pos 0 +ℤ w))
sum_pos {i} {w} h k = (omega (arith, zs, sum_is i w, sum_is (i +ℤ w) (pos 0), pos_is 0), omega (arith, zs, sum_is i (pos 0), sum_is (i +ℤ pos 0) w, pos_is 0))

-- along axis t, where g, from a to q, is not 0
module _ (a b c q : Point) (ab : (i : Axis) → on (normal a b q) i ≡ pos 0) (ca : (i : Axis) → on (normal c a q) i ≡ pos 0) (t : Axis) where
  abbrev g : ℤ
  g = on q t -ℤ on a t

  -- seen from a, r is at q or beyond
  abbrev Beyond : Point → Type 0
  Beyond r = pos 0 ≤ℤ (g *ℤ (on r t -ℤ on q t))

  -- a, b, c, q along t, then along s
  abbrev parts : Axis → List ℤ
  parts s = on a t ∷ on b t ∷ on c t ∷ on q t ∷ on a s ∷ on b s ∷ on c s ∷ on q s ∷ []

  abbrev gE : Ex
  gE = var 3 :- var 0

  -- q is then a mixture of a and r
  beyond_b : pos 0 <ℤ (g *ℤ g) → Beyond b → Mixture a b c q
  beyond_b h k = by_axes (g *ℤ (on b t -ℤ on q t)) (g *ℤ g) (pos 0) k (<→≤ h) (≤_refl (pos 0)) (sum_pos k h).0
      (λ s. combine (parts s) (eqn gE ((var 1 :- var 0) :* (var 7 :- var 4)) ((var 5 :- var 4) :* gE) ∷ [])
      ((gE :* (var 1 :- var 3) :+ gE :* gE :+ o) :* var 7) (gE :* (var 1 :- var 3) :* var 4 :+ gE :* gE :* var 5 :+ o :* var 6) tt (ratio a b q ab t s))

  beyond_c : pos 0 <ℤ (g *ℤ g) → Beyond c → Mixture a b c q
  beyond_c h k = by_axes (g *ℤ (on c t -ℤ on q t)) (pos 0) (g *ℤ g) k (≤_refl (pos 0)) (<→≤ h) (sum_pos k h).1
      (λ s. combine (parts s) (eqn (neg gE) ((var 0 :- var 2) :* (var 7 :- var 6)) ((var 4 :- var 6) :* (var 3 :- var 2)) ∷ [])
      ((gE :* (var 2 :- var 3) :+ o :+ gE :* gE) :* var 7) (gE :* (var 2 :- var 3) :* var 4 :+ o :* var 5 :+ gE :* gE :* var 6) tt (ratio c a q ca t s))

  -- a itself is not
  not_beyond_a : pos 0 <ℤ (g *ℤ g) → Beyond a → ⊥
  not_beyond_a h k = <ℤ_irrefl (subst (λ (z : ℤ). pos 0 <ℤ z) (ring (on a t ∷ on q t ∷ []) ((var 1 :- var 0) :* (var 1 :- var 0) :+ (var 1 :- var 0) :* (var 0 :- var 1)) o tt) (add_pos h k))

  one_of : (d e f : Bool) → T (d || e || f) → pos 0 <ℤ (g *ℤ g) → (T d → Beyond a) → (T e → Beyond b) → (T f → Beyond c) → Mixture a b c q
  one_of true e f s h u v w = absurd (not_beyond_a h (u tt))
  one_of false true f s h u v w = beyond_b h (v tt)
  one_of false false true s h u v w = beyond_c h (w tt)
  one_of false false false s h u v w = absurd s

  up : pos 0 <ℤ g → (r : Point) → T (le_z (on q t) (on r t)) → Beyond r
  up k r e = mul_nonneg (<→≤ k) (sub_nonneg {a = on q t} {b = on r t} (le_z_yes e))

  down : g <ℤ pos 0 → (r : Point) → T (le_z (on r t) (on q t)) → Beyond r
  down k r e = subst (λ (z : ℤ). pos 0 ≤ℤ z) (ring (g ∷ on r t ∷ on q t ∷ []) (neg (var 0) :* (var 2 :- var 1)) (var 0 :* (var 1 :- var 2)) tt) (mul_nonneg (<→≤ (neg_pos k)) (sub_nonneg {a = on r t} {b = on q t} (le_z_yes e)))

  found : T (between (on a t) (on b t) (on c t) (on q t)) → (on a t ≡ on q t) ⊎ Mixture a b c q
  found h = go (sign g)
    where
      v : ℤ
      v = on q t

      two : T (le_z (on a t) v || le_z (on b t) v || le_z (on c t) v) × T (le_z v (on a t) || le_z v (on b t) || le_z v (on c t))
      two = and_both (le_z (on a t) v || le_z (on b t) v || le_z (on c t) v) (le_z v (on a t) || le_z v (on b t) || le_z v (on c t)) h

      go : Sign g → (on a t ≡ v) ⊎ Mixture a b c q
      go (null e) = inl (sym (-ℤ-zero v (on a t) e))
      go (plus k) = inr (one_of (le_z v (on a t)) (le_z v (on b t)) (le_z v (on c t)) two.1 (mul_pos_pos k k) (up k a) (up k b) (up k c))
      go (minus k) = inr (one_of (le_z (on a t) v) (le_z (on b t) v) (le_z (on c t) v) two.0 (mul_neg_neg k k) (down k a) (down k b) (down k c))

-- ---- both ways
module _ (a b c q : Point) where
  abbrev lines : Bool
  lines = in_line a b q && in_line b c q && in_line c a q

  abbrev amid : Axis → Bool
  amid s = between (on a s) (on b s) (on c s) (on q s)

  pub mixture_segment : T (in_line a b c) → Mixture a b c q → T (on_segment a b c q)
  unfolding on_segment in_line
  mixture_segment l m =
      both_and (lines && amid X && amid Y) (amid Z) (both_and (lines && amid X) (amid Y) (both_and lines (amid X)
      (both_and (in_line a b q && in_line b c q) (in_line c a q) (both_and (in_line a b q) (in_line b c q)
      (line a b m.k (share_ab m (normal a b q))) (line b c m.i (share_bc m (normal b c q)))) (line c a m.j (share_ca m (normal c a q))))
      (mixture_between m a.x b.x c.x q.x m.x)) (mixture_between m a.y b.y c.y q.y m.y)) (mixture_between m a.z b.z c.z q.z m.z)
    where
      line : (u v : Point) (w : ℤ) → (m.i +ℤ m.j +ℤ m.k) *ℤ dot (normal u v q) (normal u v q) ≡ w *ℤ dot (normal u v q) (normal a b c) → T (in_line u v q)
      line u v w e = →origin (normal u v q) (only_zero (m.i +ℤ m.j +ℤ m.k) w (normal u v q) (normal a b c) m.some (origin→ (normal a b c) l) e)

  pub segment_mixture : T (on_segment a b c q) → Mixture a b c q
  unfolding on_segment in_line
  segment_mixture h = go (along X third.1) (along Y second.1) (along Z first.1)
    where
      first : T (lines && amid X && amid Y) × T (amid Z)
      first = and_both (lines && amid X && amid Y) (amid Z) h

      second : T (lines && amid X) × T (amid Y)
      second = and_both (lines && amid X) (amid Y) first.0

      third : T lines × T (amid X)
      third = and_both lines (amid X) second.0

      fourth : T (in_line a b q && in_line b c q) × T (in_line c a q)
      fourth = and_both (in_line a b q && in_line b c q) (in_line c a q) third.0

      along : (t : Axis) → T (amid t) → (on a t ≡ on q t) ⊎ Mixture a b c q
      along = found a b c q (origin→ (normal a b q) (and_both (in_line a b q) (in_line b c q) fourth.0).0) (origin→ (normal c a q) fourth.1)

      go : (a.x ≡ q.x) ⊎ Mixture a b c q → (a.y ≡ q.y) ⊎ Mixture a b c q → (a.z ≡ q.z) ⊎ Mixture a b c q → Mixture a b c q
      go (inr m) y z = m
      go (inl x) (inr m) z = m
      go (inl x) (inl y) (inr m) = m
      go (inl x) (inl y) (inl z) = subst (Mixture a b c) (point_ext {p = a} {q = q} same) (corner_mixture a b c)
        where
          same : (t : Axis) → on a t ≡ on q t
          same X = x
          same Y = y
          same Z = z
