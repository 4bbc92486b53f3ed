-- What turns its sign with the side: a face's normal is a sum of such round the face, and so is V of an upright face.
use mathlib.Core.Path.{◌≡◌}
use mathlib.Core.List.{[], ◌∷◌}
use lib.IntN.{ℤ, pos, neg_ℤ, ◌+ℤ◌, ◌-ℤ◌, ◌*ℤ◌}
use Rattle.laws.proofs.Ring.{Ex, o, var, ◌:+◌, ◌:-◌, ◌:*◌, neg, ring}
use Rattle.laws.proofs.Certificates.{combine, eqn}
use Rattle.touches.specs.declared.Point.{Point}
use Rattle.volume.specs.Volume.{Vol, det2, minus, cross, normal}
use Rattle.volume.proofs.Axes.{Axis, X, Y, Z, on}
use Rattle.volume.proofs.Quote.{Spot, W, env, pt, on_e, det2_e, minus_e, cross_e, normal_e}

-- ---- the normal
det2_turn : (a b c d : ℤ) → det2 c d a b ≡ neg_ℤ (det2 a b c d)
det2_turn a b c d = ring (a ∷ b ∷ c ∷ d ∷ []) (det2_e (var 2) (var 3) (var 0) (var 1)) (neg (det2_e (var 0) (var 1) (var 2) (var 3))) tt

pub cross_turn : (i : Axis) (a b : Point) → on (cross b a) i ≡ neg_ℤ (on (cross a b) i)
cross_turn X a b = det2_turn a.y a.z b.y b.z
cross_turn Y a b = det2_turn a.z a.x b.z b.x
cross_turn Z a b = det2_turn a.x a.y b.x b.y

abbrev n : Spot
n = normal_e (pt 0) (pt 1) (pt 2)

abbrev crosses_e : Axis → Ex
crosses_e i = on_e (cross_e (pt 0) (pt 1)) i :+ on_e (cross_e (pt 1) (pt 2)) i :+ on_e (cross_e (pt 2) (pt 0)) i

pub normal_sides : (i : Axis) (a b c : Point) → on (normal a b c) i ≡ on (cross a b) i +ℤ on (cross b c) i +ℤ on (cross c a) i
unfolding normal
normal_sides X a b c = ring (env (a ∷ b ∷ c ∷ [])) (on_e n X) (crosses_e X) tt
normal_sides Y a b c = ring (env (a ∷ b ∷ c ∷ [])) (on_e n Y) (crosses_e Y) tt
normal_sides Z a b c = ring (env (a ∷ b ∷ c ∷ [])) (on_e n Z) (crosses_e Z) tt

-- ---- V of a face that is upright along an axis: the wall of each side, between it and o
pub wall : Axis → Point → Point → Point → ℤ
wall i o s t = (on s i -ℤ on o i +ℤ (on t i -ℤ on o i)) *ℤ on (cross (minus t o) (minus s o)) i

abbrev wall_e : Axis → Spot → Spot → Spot → Ex
wall_e i o s t = (on_e s i :- on_e o i :+ (on_e t i :- on_e o i)) :* on_e (cross_e (minus_e t o) (minus_e s o)) i

abbrev walls_e : Axis → Ex
walls_e i = wall_e i (pt 3) (pt 0) (pt 1) :+ wall_e i (pt 3) (pt 1) (pt 2) :+ wall_e i (pt 3) (pt 2) (pt 0)

abbrev heights_e : Axis → Ex
heights_e i = on_e (pt 0) i :- on_e (pt 3) i :+ (on_e (pt 1) i :- on_e (pt 3) i) :+ (on_e (pt 2) i :- on_e (pt 3) i)

pub wall_turn : (i : Axis) (o s t : Point) → wall i o t s ≡ neg_ℤ (wall i o s t)
unfolding wall
wall_turn i o s t = law (on s i -ℤ on o i) (on t i -ℤ on o i) (on (cross (minus t o) (minus s o)) i) (on (cross (minus s o) (minus t o)) i) (cross_turn i (minus t o) (minus s o))
  where
    law : (u v k l : ℤ) → l ≡ neg_ℤ k → (v +ℤ u) *ℤ l ≡ neg_ℤ ((u +ℤ v) *ℤ k)
    law u v k l = combine (u ∷ v ∷ k ∷ l ∷ []) (eqn (var 1 :+ var 0) (var 3) (neg (var 2)) ∷ []) ((var 1 :+ var 0) :* var 3) (neg ((var 0 :+ var 1) :* var 2)) tt

pub upright_walls : (i : Axis) (a b c o : Point) → on (normal a b c) i ≡ pos 0 → Vol a b c o ≡ wall i o a b +ℤ wall i o b c +ℤ wall i o c a
unfolding Vol normal wall
upright_walls X a b c q = combine (env (a ∷ b ∷ c ∷ q ∷ [])) (eqn (heights_e X) (on_e n X) o ∷ []) (W 0 1 2 3) (walls_e X) tt
upright_walls Y a b c q = combine (env (a ∷ b ∷ c ∷ q ∷ [])) (eqn (heights_e Y) (on_e n Y) o ∷ []) (W 0 1 2 3) (walls_e Y) tt
upright_walls Z a b c q = combine (env (a ∷ b ∷ c ∷ q ∷ [])) (eqn (heights_e Z) (on_e n Z) o ∷ []) (W 0 1 2 3) (walls_e Z) tt
