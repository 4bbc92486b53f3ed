-- Heights by a linear form, and a form by which no two corners of a face are at one height.
use mathlib.Core.Path.{◌≡◌, sym, ◌∙◌, ap}
use mathlib.Core.Logic.{◌≢◌}
use mathlib.Core.List.{List, [], ◌∷◌}
use Prim.Native.Nat.{ℕ}
use native.Mathlib.Omega.{arith}
use lib.IntN.{ℤ, pos, neg_ℤ, ◌+ℤ◌, ◌-ℤ◌, ◌*ℤ◌, +ℤ_invr}
use lib.Signed.{◌<ℤ◌}
use Rattle.laws.specs.Lists.{In}
use Rattle.laws.proofs.Integers.{up_neg, dn_neg}
use Rattle.laws.proofs.Order.{zs}
use Rattle.laws.proofs.Ring.{Ex, var, ◌:+◌, ◌:-◌, ◌:*◌, neg, ring}
use Rattle.touches.specs.declared.Point.{Point}
use Rattle.volume.specs.Volume.{cross, dot}
use Rattle.volume.proofs.Quote.{Spot, env, pt, cross_e, dot_e}
use Rattle.rules.specs.Faces.{Places}
use Rattle.cover.specs.Cones.{det}
use Rattle.cover.proofs.DetLaws.{D, env_with}
use Rattle.cover.proofs.Nearby.{moved, moved_e, Plane, off_three}

-- how high q is by the form m
unfoldable pub height : Point → Point → ℤ
height m q = dot m q

-- ---- the same form the other way up: by it the order turns
abbrev pub down : Point → Point
down m = record { x = neg_ℤ m.x; y = neg_ℤ m.y; z = neg_ℤ m.z }

height_down : (m q : Point) → height (down m) q ≡ neg_ℤ (height m q)
unfolding height
height_down m q = ring (env (m ∷ q ∷ [])) (dot_e (record { x = neg (pt 0).x; y = neg (pt 0).y; z = neg (pt 0).z }) (pt 1)) (neg (dot_e (pt 0) (pt 1))) tt

pub down_lt : (m a b : Point) → height m a <ℤ height m b → height (down m) b <ℤ height (down m) a
down_lt m a b h = omega (arith, zs, height_down m a, height_down m b, up_neg (height m a), dn_neg (height m a), up_neg (height m b), dn_neg (height m b))

-- ---- the forms by which a and b are at one height are on a plane; b × c is off it, unless a, b, c have the determinant 0
gap : Point → Point → Point → ℤ
gap a b m = height m a -ℤ height m b

-- a and b are the points 0 and 1
abbrev gap_e : Spot → Ex
gap_e m = dot_e m (pt 0) :- dot_e m (pt 1)

gap_moved : (a b q e : Point) (m : ℤ) → gap a b (moved m q e) ≡ m *ℤ gap a b q +ℤ gap a b e
unfolding gap height
gap_moved a b q e m = ring (env_with m (a ∷ b ∷ q ∷ e ∷ [])) (gap_e (moved_e (var 12) (pt 2) (pt 3))) (var 12 :* gap_e (pt 2) :+ gap_e (pt 3)) tt

gap_off : (a b c : Point) → gap a b (cross b c) ≡ det a b c
unfolding gap height det
gap_off a b c = ring (env (a ∷ b ∷ c ∷ [])) (gap_e (cross_e (pt 1) (pt 2))) (D 0 1 2) tt

gap_none : (a b m : Point) → height m a ≡ height m b → gap a b m ≡ pos 0
unfolding gap
gap_none a b m e = ap (λ (z : ℤ). z -ℤ height m b) e ∙ +ℤ_invr (height m b)

-- ---- m tells the touches of the list l, at v, apart: those that can be corners of one face are at different heights
abbrev pub Tells : Point → Places → List ℕ → Type 0
Tells m v l = (a b c : ℕ) → In a l → In b l → In c l → det (v a) (v b) (v c) ≢ pos 0 → height m (v a) ≢ height m (v b)

pub telling : (v : Places) (l : List ℕ) → (m : Point) × Tells m v l
telling v l = let t = off_three plane l (v 0) in
    (t.0, (λ a b c i j k n e. t.2 a b c i j k (λ z. n (sym (gap_off (v a) (v b) (v c)) ∙ z)) (gap_none (v a) (v b) t.0 e)))
  where
    plane : ℕ → ℕ → ℕ → Plane
    plane a b c = record { reads = gap (v a) (v b); linear = gap_moved (v a) (v b); off = cross (v b) (v c) }
