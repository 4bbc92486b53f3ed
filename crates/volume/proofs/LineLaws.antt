-- In line: the test, that a and b are in line with a and b, and that three points in line have V = 0 with every other.
use mathlib.Core.Path.{◌≡◌, sym, ◌∙◌, ap, subst}
use mathlib.Core.Bool.{◌&&◌}
use mathlib.Core.List.{[], ◌∷◌}
use Prim.Native.Nat.{ℕ}
use lib.Dec.{T}
use lib.IntN.{ℤ, pos, neg_ℤ}
use Rattle.laws.proofs.Tests.{and_both, both_and}
use Rattle.laws.proofs.Ring.{Ex, o, ring}
use Rattle.laws.proofs.Order.{eq_z→eq}
use Rattle.laws.proofs.Certificates.{combine, eqn}
use Rattle.touches.specs.declared.Point.{Point}
use Rattle.volume.specs.Volume.{Vol, minus, cross, dot, normal, is_zero, is_origin, in_line}
use Rattle.volume.proofs.Axes.{Axis, X, Y, Z, on}
use Rattle.volume.proofs.Quote.{Spot, env, pt, on_e, minus_e, cross_e, dot_e}
use Rattle.volume.proofs.VolumeLaws.{vol_cross}

-- ---- the test of a vector that is 0
is_zero_lem : {z : ℤ} → z ≡ pos 0 → T (is_zero z)
is_zero_lem e = subst (λ (y : ℤ). T (is_zero y)) (sym e) tt

pub origin→ : (u : Point) → T (is_origin u) → (i : Axis) → on u i ≡ pos 0
origin→ u t = go (and_both (is_zero u.x && is_zero u.y) (is_zero u.z) t)
  where
    go : T (is_zero u.x && is_zero u.y) × T (is_zero u.z) → (i : Axis) → on u i ≡ pos 0
    go s X = eq_z→eq u.x (pos 0) (and_both (is_zero u.x) (is_zero u.y) s.0).0
    go s Y = eq_z→eq u.y (pos 0) (and_both (is_zero u.x) (is_zero u.y) s.0).1
    go s Z = eq_z→eq u.z (pos 0) s.1

pub →origin : (u : Point) → ((i : Axis) → on u i ≡ pos 0) → T (is_origin u)
→origin u e = both_and (is_zero u.x && is_zero u.y) (is_zero u.z) (both_and (is_zero u.x) (is_zero u.y) (is_zero_lem (e X)) (is_zero_lem (e Y))) (is_zero_lem (e Z))

pub dot_origin : (u w : Point) → ((i : Axis) → on u i ≡ pos 0) → dot u w ≡ pos 0
dot_origin u w e = combine (env (u ∷ w ∷ [])) (eqn (pt 1).x (pt 0).x o ∷ eqn (pt 1).y (pt 0).y o ∷ eqn (pt 1).z (pt 0).z o ∷ []) (dot_e (pt 0) (pt 1)) o tt (e X) (e Y) (e Z)

-- (u × v) · w
abbrev pub triple : Point → Point → Point → ℤ
triple u v w = dot (cross u v) w

abbrev pub triple_e : Spot → Spot → Spot → Ex
triple_e u v w = dot_e (cross_e u v) w

pub vol_zero : (a b c d : Point) → triple (minus b a) (minus c a) (minus d a) ≡ pos 0 → Vol a b c d ≡ pos 0
vol_zero a b c d e = vol_cross a b c d ∙ ap neg_ℤ e

-- three points in line are in no face: every V of them is 0
pub line_vol : (a b c x : Point) → T (in_line a b c) → Vol a b c x ≡ pos 0
unfolding in_line normal
line_vol a b c x t = vol_zero a b c x (dot_origin (normal a b c) (minus x a) (origin→ (normal a b c) t))

-- a and b are in line with a and b. e × (y − x), with e from point 0 to point 1
abbrev pub off : ℕ → ℕ → Axis → Ex
off x y i = on_e (cross_e (minus_e (pt 1) (pt 0)) (minus_e (pt y) (pt x))) i

pub line_a : (a b : Point) → T (in_line a b a)
unfolding in_line normal
line_a a b = →origin (normal a b a) go
  where
    go : (i : Axis) → on (normal a b a) i ≡ pos 0
    go X = ring (env (a ∷ b ∷ [])) (off 0 0 X) o tt
    go Y = ring (env (a ∷ b ∷ [])) (off 0 0 Y) o tt
    go Z = ring (env (a ∷ b ∷ [])) (off 0 0 Z) o tt

pub line_b : (a b : Point) → T (in_line a b b)
unfolding in_line normal
line_b a b = →origin (normal a b b) go
  where
    go : (i : Axis) → on (normal a b b) i ≡ pos 0
    go X = ring (env (a ∷ b ∷ [])) (off 0 1 X) o tt
    go Y = ring (env (a ∷ b ∷ [])) (off 0 1 Y) o tt
    go Z = ring (env (a ∷ b ∷ [])) (off 0 1 Z) o tt
