-- The plane of a face in whole numbers: its size within range, that it reads minus V, and V by it.
use mathlib.Core.Path.{◌≡◌}
use mathlib.Core.List.{[], ◌∷◌}
use Prim.Native.Nat.{◌*◌}
use lib.IntN.{neg_ℤ, ◌-ℤ◌, ◌*ℤ◌}
use Rattle.laws.specs.Numbers.{Within}
use Rattle.laws.proofs.Ring.{neg, ◌:-◌, ring}
use Rattle.laws.proofs.WithinLaws.{within_add, within_sub, within_mul}
use Rattle.touches.specs.declared.Point.{Point}
use Rattle.touches.specs.Limits.{reach}
use Rattle.touches.specs.Touches.{Near}
use Rattle.volume.specs.Volume.{Vol, most_gap, most_normal, dot, normal, offset}
use Rattle.volume.proofs.Axes.{Axis, X, Y, Z, on}
use Rattle.volume.proofs.Quote.{Spot, W, env, pt, minus_e, cross_e, dot_e}

abbrev n : Spot
n = cross_e (minus_e (pt 1) (pt 0)) (minus_e (pt 2) (pt 0))

-- normal dot q minus the offset is −V
pub reading_is : (a b c q : Point) → dot (normal a b c) q -ℤ offset a b c ≡ neg_ℤ (Vol a b c q)
unfolding Vol normal offset
reading_is a b c q = ring (env (a ∷ b ∷ c ∷ q ∷ [])) (dot_e n (pt 3) :- dot_e n (pt 0)) (neg (W 0 1 2 3)) tt

pub plane_vol : (a b c q : Point) → Vol a b c q ≡ offset a b c -ℤ dot (normal a b c) q
unfolding Vol normal offset
plane_vol a b c q = ring (env (a ∷ b ∷ c ∷ q ∷ [])) (W 0 1 2 3) (dot_e n (pt 0) :- dot_e n (pt 3)) tt

pub near_on : {p : Point} → Near p → (i : Axis) → Within reach (on p i)
near_on h X = h.x
near_on h Y = h.y
near_on h Z = h.z

module _ {a b c : Point} (ha : Near a) (hb : Near b) (hc : Near c) where
  gap : (i : Axis) {p : Point} → Near p → Within most_gap (on p i -ℤ on a i)
  gap i h = within_sub (near_on h i) (near_on ha i)

  part : (i j : Axis) → Within most_normal ((on b i -ℤ on a i) *ℤ (on c j -ℤ on a j) -ℤ (on b j -ℤ on a j) *ℤ (on c i -ℤ on a i))
  part i j = within_sub (within_mul (gap i hb) (gap j hc)) (within_mul (gap j hb) (gap i hc))

  pub normal_within : (i : Axis) → Within most_normal (on (normal a b c) i)
  unfolding normal
  normal_within X = part Y Z
  normal_within Y = part Z X
  normal_within Z = part X Y

  pub dot_within : {q : Point} → Near q → Within (3 * most_normal * reach) (dot (normal a b c) q)
  dot_within h = within_add (within_add (within_mul (normal_within X) h.x) (within_mul (normal_within Y) h.y)) (within_mul (normal_within Z) h.z)
