-- Flat: where all points are one, on one line or in one plane, every V is 0.
use mathlib.Core.Path.{◌≡◌, sym, ◌∙◌, ap₂}
use mathlib.Core.Logic.{◌≢◌, ◌⊎◌, inl, inr}
use mathlib.Core.Bool.{not}
use mathlib.Core.List.{List, [], ◌∷◌}
use lib.Dec.{T, T_not}
use lib.IntN.{ℤ, pos, ◌*ℤ◌}
use Rattle.laws.proofs.Ring.{Ex, o, one, ◌:*◌, neg}
use Rattle.laws.proofs.Order.{mul_zero}
use Rattle.laws.proofs.Certificates.{combine, Eqn, eqn}
use Rattle.touches.specs.declared.Point.{Point}
use Rattle.volume.specs.Volume.{Vol, minus, cross, dot, normal, is_origin, in_line}
use Rattle.volume.proofs.Axes.{Axis, X, Y, Z, on, point_ext}
use Rattle.volume.proofs.Quote.{W, env, pt, on_e, minus_e, cross_e, dot_e}
use Rattle.volume.proofs.VolumeLaws.{alt_same}
use Rattle.volume.proofs.LineLaws.{origin→, →origin, dot_origin, triple, triple_e, vol_zero, off}

-- a number that gives 0 times each part of a vector is 0, unless the vector is
zero_times : (d : ℤ) (u : Point) → ((i : Axis) → d *ℤ on u i ≡ pos 0) → (((i : Axis) → on u i ≡ pos 0) → ⊥) → d ≡ pos 0
zero_times d u e n = go (mul_zero d u.x (e X)) (mul_zero d u.y (e Y)) (mul_zero d u.z (e Z))
  where
    every : u.x ≡ pos 0 → u.y ≡ pos 0 → u.z ≡ pos 0 → (i : Axis) → on u i ≡ pos 0
    every x y z X = x
    every x y z Y = y
    every x y z Z = z

    go : (d ≡ pos 0) ⊎ (u.x ≡ pos 0) → (d ≡ pos 0) ⊎ (u.y ≡ pos 0) → (d ≡ pos 0) ⊎ (u.z ≡ pos 0) → d ≡ pos 0
    go (inl z) j k = z
    go (inr i) (inl z) k = z
    go (inr i) (inr j) (inl z) = z
    go (inr i) (inr j) (inr k) = absurd (n (every i j k))

-- ---- S is missing: all points are on the plane of P, Q, R, whose normal n is not 0
-- n · (b − a) is 0 for a, b on the plane
along_plane : (p q r a b : Point) → Vol p q r a ≡ pos 0 → Vol p q r b ≡ pos 0 → dot (normal p q r) (minus b a) ≡ pos 0
unfolding Vol normal
along_plane p q r a b e f =
    combine (env (p ∷ q ∷ r ∷ a ∷ b ∷ [])) (eqn one (W 0 1 2 3) o ∷ eqn (neg one) (W 0 1 2 4) o ∷ [])
    (dot_e (cross_e (minus_e (pt 1) (pt 0)) (minus_e (pt 2) (pt 0))) (minus_e (pt 4) (pt 3))) o tt e f

-- det(u,v,w)·n = (n·u)(v×w) + (n·v)(w×u) + (n·w)(u×v); n, u, v, w are the points 0 to 3
abbrev plane_hyps : Axis → List Eqn
plane_hyps i = eqn (on_e (cross_e (pt 2) (pt 3)) i) (dot_e (pt 0) (pt 1)) o ∷ eqn (on_e (cross_e (pt 3) (pt 1)) i) (dot_e (pt 0) (pt 2)) o ∷ eqn (on_e (cross_e (pt 1) (pt 2)) i) (dot_e (pt 0) (pt 3)) o ∷ []

abbrev product : Axis → Ex
product i = triple_e (pt 1) (pt 2) (pt 3) :* on_e (pt 0) i

in_plane : (n u v w : Point) → dot n u ≡ pos 0 → dot n v ≡ pos 0 → dot n w ≡ pos 0 → (i : Axis) → triple u v w *ℤ on n i ≡ pos 0
in_plane n u v w e f g X = combine (env (n ∷ u ∷ v ∷ w ∷ [])) (plane_hyps X) (product X) o tt e f g
in_plane n u v w e f g Y = combine (env (n ∷ u ∷ v ∷ w ∷ [])) (plane_hyps Y) (product Y) o tt e f g
in_plane n u v w e f g Z = combine (env (n ∷ u ∷ v ∷ w ∷ [])) (plane_hyps Z) (product Z) o tt e f g

pub flat_plane : (p q r : Point) → T (not (in_line p q r)) → (a b c d : Point) → Vol p q r a ≡ pos 0 → Vol p q r b ≡ pos 0 → Vol p q r c ≡ pos 0 → Vol p q r d ≡ pos 0 → Vol a b c d ≡ pos 0
unfolding in_line
flat_plane p q r t a b c d ha hb hc hd = vol_zero a b c d (zero_times (triple (minus b a) (minus c a) (minus d a)) (normal p q r)
    (in_plane (normal p q r) (minus b a) (minus c a) (minus d a) (along_plane p q r a b ha hb) (along_plane p q r a c ha hc) (along_plane p q r a d ha hd))
    (λ z. T_not (is_origin (normal p q r)) t (→origin (normal p q r) z)))

-- ---- R is missing: all points are in line with P and Q, and e = Q − P is not 0
-- e × (b − a) is 0 for a, b on the line; p, q, a, b are the points 0 to 3
abbrev off_hyps : Axis → List Eqn
off_hyps i = eqn one (off 0 3 i) o ∷ eqn (neg one) (off 0 2 i) o ∷ []

along_line : (p q a b : Point) → T (in_line p q a) → T (in_line p q b) → (i : Axis) → on (cross (minus q p) (minus b a)) i ≡ pos 0
unfolding in_line normal
along_line p q a b s t i = law i (origin→ (normal p q b) t i) (origin→ (normal p q a) s i)
  where
    law : (i : Axis) → on (cross (minus q p) (minus b p)) i ≡ pos 0 → on (cross (minus q p) (minus a p)) i ≡ pos 0 → on (cross (minus q p) (minus b a)) i ≡ pos 0
    law X = combine (env (p ∷ q ∷ a ∷ b ∷ [])) (off_hyps X) (off 2 3 X) o tt
    law Y = combine (env (p ∷ q ∷ a ∷ b ∷ [])) (off_hyps Y) (off 2 3 Y) o tt
    law Z = combine (env (p ∷ q ∷ a ∷ b ∷ [])) (off_hyps Z) (off 2 3 Z) o tt

-- det(u,v,w)·e = det(e,v,w)·u − ((e×u)·w)·v − ((e×v)·u)·w; e, u, v, w are the points 0 to 3
abbrev line_hyps : Axis → List Eqn
line_hyps i = eqn (on_e (pt 1) i) (triple_e (pt 0) (pt 2) (pt 3)) o ∷ eqn (neg (on_e (pt 2) i)) (triple_e (pt 0) (pt 1) (pt 3)) o ∷ eqn (neg (on_e (pt 3) i)) (triple_e (pt 0) (pt 2) (pt 1)) o ∷ []

on_line : (e u v w : Point) → triple e v w ≡ pos 0 → triple e u w ≡ pos 0 → triple e v u ≡ pos 0 → (i : Axis) → triple u v w *ℤ on e i ≡ pos 0
on_line e u v w f g h X = combine (env (e ∷ u ∷ v ∷ w ∷ [])) (line_hyps X) (product X) o tt f g h
on_line e u v w f g h Y = combine (env (e ∷ u ∷ v ∷ w ∷ [])) (line_hyps Y) (product Y) o tt f g h
on_line e u v w f g h Z = combine (env (e ∷ u ∷ v ∷ w ∷ [])) (line_hyps Z) (product Z) o tt f g h

pub flat_line : (p q : Point) → p ≢ q → (a b c d : Point) → T (in_line p q a) → T (in_line p q b) → T (in_line p q c) → Vol a b c d ≡ pos 0
flat_line p q n a b c d ha hb hc = vol_zero a b c d (zero_times (triple (minus b a) (minus c a) (minus d a)) (minus q p)
    (on_line (minus q p) (minus b a) (minus c a) (minus d a) (none (minus c a) (minus d a) (along_line p q a c ha hc)) (none (minus b a) (minus d a) (along_line p q a b ha hb)) (none (minus c a) (minus b a) (along_line p q a c ha hc)))
    (λ z. n (sym (point_ext {p = q} {q = p} (same z)))))
  where
    none : (u w : Point) → ((i : Axis) → on (cross (minus q p) u) i ≡ pos 0) → triple (minus q p) u w ≡ pos 0
    none u w h = dot_origin (cross (minus q p) u) w h

    same : ((i : Axis) → on (minus q p) i ≡ pos 0) → (i : Axis) → on q i ≡ on p i
    same z X = Rattle.laws.proofs.Integers.-ℤ-zero q.x p.x (z X)
    same z Y = Rattle.laws.proofs.Integers.-ℤ-zero q.y p.y (z Y)
    same z Z = Rattle.laws.proofs.Integers.-ℤ-zero q.z p.z (z Z)

-- ---- Q is missing: all points are P
pub flat_point : (p a b c d : Point) → a ≡ p → b ≡ p → Vol a b c d ≡ pos 0
flat_point p a b c d ha hb = ap₂ (λ (x y : Point). Vol x y c d) ha hb ∙ alt_same p c d
