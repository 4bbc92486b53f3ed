-- A place on the plane of three corners not in line is in their triangle exactly if it is a mixture of them.
use mathlib.Core.Path.{◌≡◌}
use mathlib.Core.List.{List, [], ◌∷◌}
use mathlib.Core.Bool.{not, ◌&&◌}
use lib.Dec.{T}
use lib.IntN.{ℤ, pos, ◌+ℤ◌, ◌*ℤ◌}
use lib.Signed.{◌≤ℤ◌, le_z, le_z_yes}
use Rattle.laws.proofs.Tests.{and_both, both_and}
use Rattle.laws.proofs.Ring.{Ex, o, var, ◌:+◌, ◌:*◌, neg, ring}
use Rattle.laws.proofs.Order.{mul_nonneg, cancel_nonneg, cancel_zero}
use Rattle.laws.proofs.Certificates.{combine, Eqn, eqn}
use Rattle.touches.specs.declared.Point.{Point}
use Rattle.volume.specs.Volume.{Vol, dot, normal, in_line}
use Rattle.volume.specs.Triangle.{turns, in_triangle, Mixture}
use Rattle.volume.proofs.Axes.{Axis, X, Y, Z, on}
use Rattle.volume.proofs.Quote.{Spot, W, env, pt, on_e, minus_e, cross_e, dot_e, normal_e}
use Rattle.volume.proofs.SquareLaws.{dot_nonneg, dot_pos}

-- n · ((v − u) × (q − u)); a, b, c, q are the points 0 to 3
abbrev turn_e : Spot → Spot → Spot → Ex
turn_e n u v = dot_e n (normal_e u v (pt 3))

-- ---- a mixture is on the plane and in the triangle; n is point 4, and i, j, k are the variables 15 to 17
abbrev sum_e : Ex
sum_e = var 15 :+ var 16 :+ var 17

abbrev along_e : Spot → Axis → Eqn
along_e m t = eqn (on_e m t) (sum_e :* on_e (pt 3) t) (var 15 :* on_e (pt 0) t :+ var 16 :* on_e (pt 1) t :+ var 17 :* on_e (pt 2) t)

abbrev alongs : Spot → List Eqn
alongs m = along_e m X ∷ along_e m Y ∷ along_e m Z ∷ []

-- n · ((v − u) × q) is (n × (v − u)) · q
abbrev slope : Spot → Spot → Spot
slope u v = cross_e (pt 4) (minus_e v u)

abbrev whole_e : Ex
whole_e = dot_e (pt 4) (normal_e (pt 0) (pt 1) (pt 2))

module _ {a b c q : Point} (m : Mixture a b c q) (n : Point) where
  abbrev values : List ℤ
  values = a.x ∷ a.y ∷ a.z ∷ b.x ∷ b.y ∷ b.z ∷ c.x ∷ c.y ∷ c.z ∷ q.x ∷ q.y ∷ q.z ∷ n.x ∷ n.y ∷ n.z ∷ m.i ∷ m.j ∷ m.k ∷ []

  -- each turn is its weight's share of the whole turn
  pub share_ab : (m.i +ℤ m.j +ℤ m.k) *ℤ dot n (normal a b q) ≡ m.k *ℤ dot n (normal a b c)
  unfolding normal
  share_ab = combine values (alongs (slope (pt 0) (pt 1))) (sum_e :* turn_e (pt 4) (pt 0) (pt 1)) (var 17 :* whole_e) tt m.x m.y m.z

  pub share_bc : (m.i +ℤ m.j +ℤ m.k) *ℤ dot n (normal b c q) ≡ m.i *ℤ dot n (normal a b c)
  unfolding normal
  share_bc = combine values (alongs (slope (pt 1) (pt 2))) (sum_e :* turn_e (pt 4) (pt 1) (pt 2)) (var 15 :* whole_e) tt m.x m.y m.z

  pub share_ca : (m.i +ℤ m.j +ℤ m.k) *ℤ dot n (normal c a q) ≡ m.j *ℤ dot n (normal a b c)
  unfolding normal
  share_ca = combine values (alongs (slope (pt 2) (pt 0))) (sum_e :* turn_e (pt 4) (pt 2) (pt 0)) (var 16 :* whole_e) tt m.x m.y m.z

pub mixture_plane : {a b c q : Point} → Mixture a b c q → Vol a b c q ≡ pos 0
unfolding Vol
mixture_plane {a} {b} {c} {q} m = cancel_zero {w = m.i +ℤ m.j +ℤ m.k} {x = Vol a b c q} m.some
    (combine (values m q) (alongs (normal_e (pt 0) (pt 2) (pt 1))) (sum_e :* W 0 1 2 3) o tt m.x m.y m.z)

pub mixture_in : {a b c q : Point} → Mixture a b c q → T (in_triangle a b c q)
unfolding in_triangle
mixture_in {a} {b} {c} {q} m = both_and (turns n a b q && turns n b c q) (turns n c a q)
    (both_and (turns n a b q) (turns n b c q) (turn (dot n (normal a b q)) m.k_nonneg (share_ab m n)) (turn (dot n (normal b c q)) m.i_nonneg (share_bc m n)))
    (turn (dot n (normal c a q)) m.j_nonneg (share_ca m n))
  where
    n : Point
    n = normal a b c

    turn : (y : ℤ) {z : ℤ} → pos 0 ≤ℤ z → (m.i +ℤ m.j +ℤ m.k) *ℤ y ≡ z *ℤ dot n n → T (le_z (pos 0) y)
    turn y h e = (cancel_nonneg {a = m.i +ℤ m.j +ℤ m.k} {b = y} m.some (rw e (mul_nonneg h (dot_nonneg n)))).le

-- ---- the other way: the weights are the turns, and their sum is n · n
turns_sum : (a b c q n : Point) → dot n (normal b c q) +ℤ dot n (normal c a q) +ℤ dot n (normal a b q) ≡ dot n (normal a b c)
unfolding normal
turns_sum a b c q n = ring (env (a ∷ b ∷ c ∷ q ∷ n ∷ [])) (turn_e (pt 4) (pt 1) (pt 2) :+ turn_e (pt 4) (pt 2) (pt 0) :+ turn_e (pt 4) (pt 0) (pt 1)) whole_e tt

-- with n the corners' own normal
abbrev own_e : Spot
own_e = normal_e (pt 0) (pt 1) (pt 2)

abbrev own_turn : Spot → Spot → Ex
own_turn u v = turn_e own_e u v

abbrev left_e : Axis → Ex
left_e t = (own_turn (pt 1) (pt 2) :+ own_turn (pt 2) (pt 0) :+ own_turn (pt 0) (pt 1)) :* on_e (pt 3) t

abbrev right_e : Axis → Ex
right_e t = own_turn (pt 1) (pt 2) :* on_e (pt 0) t :+ own_turn (pt 2) (pt 0) :* on_e (pt 1) t :+ own_turn (pt 0) (pt 1) :* on_e (pt 2) t

mixed : (t : Axis) (a b c q : Point) → Vol a b c q ≡ pos 0 →
    (dot (normal a b c) (normal b c q) +ℤ dot (normal a b c) (normal c a q) +ℤ dot (normal a b c) (normal a b q)) *ℤ on q t
    ≡ dot (normal a b c) (normal b c q) *ℤ on a t +ℤ dot (normal a b c) (normal c a q) *ℤ on b t +ℤ dot (normal a b c) (normal a b q) *ℤ on c t
unfolding Vol normal
mixed X a b c q = combine (env (a ∷ b ∷ c ∷ q ∷ [])) (eqn (neg (on_e own_e X)) (W 0 1 2 3) o ∷ []) (left_e X) (right_e X) tt
mixed Y a b c q = combine (env (a ∷ b ∷ c ∷ q ∷ [])) (eqn (neg (on_e own_e Y)) (W 0 1 2 3) o ∷ []) (left_e Y) (right_e Y) tt
mixed Z a b c q = combine (env (a ∷ b ∷ c ∷ q ∷ [])) (eqn (neg (on_e own_e Z)) (W 0 1 2 3) o ∷ []) (left_e Z) (right_e Z) tt

pub in_mixture : (a b c q : Point) → T (not (in_line a b c)) → Vol a b c q ≡ pos 0 → T (in_triangle a b c q) → Mixture a b c q
unfolding in_triangle in_line
in_mixture a b c q l e t = record {
  i = dot n (normal b c q);
  j = dot n (normal c a q);
  k = dot n (normal a b q);
  i_nonneg = le_z_yes two.1;
  j_nonneg = le_z_yes three.1;
  k_nonneg = le_z_yes two.0;
  some = rw (turns_sum a b c q n) (dot_pos n l);
  x = mixed X a b c q e;
  y = mixed Y a b c q e;
  z = mixed Z a b c q e;
}
  where
    n : Point
    n = normal a b c

    three : T (turns n a b q && turns n b c q) × T (turns n c a q)
    three = and_both (turns n a b q && turns n b c q) (turns n c a q) t

    two : T (turns n a b q) × T (turns n b c q)
    two = and_both (turns n a b q) (turns n b c q) three.0
