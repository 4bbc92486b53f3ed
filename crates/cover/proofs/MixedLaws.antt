-- Where the cones cover, a place that is on or inside a hull and on the plane of a face is a mixture of the corners of a face.
use mathlib.Core.Path.{◌≡◌, sym, ◌∙◌, ap, subst}
use mathlib.Core.List.{List, [], ◌∷◌}
use Prim.Native.Nat.{ℕ}
use native.Mathlib.Omega.{arith}
use lib.IntN.{ℤ, pos, ◌+ℤ◌, ◌-ℤ◌, ◌*ℤ◌, *ℤ-zero, *ℤ_comm, +ℤ_idr}
use lib.Signed.{◌≤ℤ◌, ◌<ℤ◌}
use Rattle.laws.specs.Lists.{In}
use Rattle.laws.proofs.Integers.{sum_is, -ℤ-zero}
use Rattle.laws.proofs.Order.{zs, pos_is, <→≤, add_nonneg, mul_nonneg, cancel_zero}
use Rattle.laws.proofs.Ring.{o, one, var, ◌:+◌, ◌:-◌, ◌:*◌, neg}
use Rattle.laws.proofs.Certificates.{combine, eqn}
use Rattle.touches.specs.declared.Point.{Point}
use Rattle.volume.specs.Volume.{Vol}
use Rattle.volume.proofs.Axes.{X, Y, Z}
use Rattle.rules.specs.Faces.{Face, Places, corner, face_vol}
use Rattle.rules.specs.Demands.{OnOrInside, OnPlane}
use Rattle.rules.proofs.Hull.{Hull}
use Rattle.cover.specs.Cones.{Centre, Covers}
use Rattle.cover.specs.Triangles.{InFace}
use Rattle.cover.proofs.DetLaws.{cube, cube_pos}
use Rattle.cover.proofs.CentreLaws.{turned}
use Rattle.cover.proofs.Blends.{Blend, blend}

-- ---- whole numbers
-- two numbers that are not negative and add up to 0
second_zero : {x y : ℤ} → x +ℤ y ≡ pos 0 → pos 0 ≤ℤ x → pos 0 ≤ℤ y → y ≡ pos 0
second_zero {x} {y} e h k = omega (arith, zs, sum_is x y, pos_is 0)

no_weight : {x u e : ℤ} → x +ℤ u *ℤ e ≡ pos 0 → pos 0 ≤ℤ x → pos 0 ≤ℤ u → pos 0 <ℤ e → u ≡ pos 0
no_weight {x} {u} {e} z hx hu he = cancel_zero he (*ℤ_comm e u ∙ second_zero z hx (mul_nonneg hu (<→≤ he)))

-- along one axis: back from the vectors w·x − s to the places themselves
back : (d w s x i a j b k c : ℤ) → pos 0 <ℤ w → d ≡ i +ℤ j +ℤ k → d *ℤ (w *ℤ x -ℤ s) ≡ i *ℤ (w *ℤ a -ℤ s) +ℤ j *ℤ (w *ℤ b -ℤ s) +ℤ k *ℤ (w *ℤ c -ℤ s) → (i +ℤ j +ℤ k) *ℤ x ≡ i *ℤ a +ℤ j *ℤ b +ℤ k *ℤ c
back d w s x i a j b k c h e f = -ℤ-zero ((i +ℤ j +ℤ k) *ℤ x) (i *ℤ a +ℤ j *ℤ b +ℤ k *ℤ c) (cancel_zero h
    (combine (d ∷ w ∷ s ∷ x ∷ i ∷ a ∷ j ∷ b ∷ k ∷ c ∷ [])
    (eqn (neg (var 1 :* var 3 :- var 2)) (var 0) (var 4 :+ var 6 :+ var 8)
    ∷ eqn one (var 0 :* (var 1 :* var 3 :- var 2)) (var 4 :* (var 1 :* var 5 :- var 2) :+ var 6 :* (var 1 :* var 7 :- var 2) :+ var 8 :* (var 1 :* var 9 :- var 2)) ∷ [])
    (var 1 :* ((var 4 :+ var 6 :+ var 8) :* var 3 :- (var 4 :* var 5 :+ var 6 :* var 7 :+ var 8 :* var 9))) o tt e f))

-- the corners' part of V, for the plane of a, b, d, which has no touch in front
module _ {p : Places} {done : List ℕ} {h : List Face} (H : Hull p done h) (c : Centre p done) {q : Point} (m : Blend p h c.w c.s q) (a b d : Point) (behind : (t : ℕ) → In t done → pos 0 ≤ℤ Vol a b d (p t)) where
  abbrev part : ℕ → ℤ
  part n = cube c.w *ℤ Vol a b d (p (corner m.face n))

  pub corners_behind : pos 0 ≤ℤ (m.i *ℤ part 0 +ℤ m.j *ℤ part 1 +ℤ m.k *ℤ part 2)
  corners_behind = let own = H.corners m.face m.face_in in add_nonneg (add_nonneg (share m.i_nonneg own.a) (share m.j_nonneg own.b)) (share m.k_nonneg own.c)
    where
      share : {i : ℤ} {t : ℕ} → pos 0 ≤ℤ i → In t done → pos 0 ≤ℤ (i *ℤ (cube c.w *ℤ Vol a b d (p t)))
      share {i} {t} k n = mul_nonneg k (mul_nonneg (<→≤ (cube_pos c.positive)) (behind t n))

module _ {p : Places} {done : List ℕ} {h : List Face} (H : Hull p done h) (c : Centre p done) {q : Point} (within : OnOrInside p h q) (plane : OnPlane p h q) (m : Blend p h c.w c.s q) where
  -- the centre has no weight: it is behind the plane of a face that q is on, and no corner is in front of that plane
  weightless : cube c.w *ℤ face_vol p m.face q ≡ pos 0
  unfolding face_vol
  weightless = no_weight (sym (m.volume (at 0) (at 1) (at 2)) ∙ left)
      (corners_behind H c m (at 0) (at 1) (at 2) (H.supporting f plane.1))
      (mul_nonneg (<→≤ (cube_pos c.positive)) (within m.face m.face_in))
      (turned c H f plane.1)
    where
      f : Face
      f = plane.0

      at : ℕ → Point
      at n = p (corner f n)

      left : m.whole *ℤ (cube c.w *ℤ Vol (at 0) (at 1) (at 2) q) ≡ pos 0
      left = ap (λ (z : ℤ). m.whole *ℤ (cube c.w *ℤ z)) plane.2 ∙ ap (λ (z : ℤ). m.whole *ℤ z) (*ℤ-zero (cube c.w)) ∙ *ℤ-zero m.whole

  total : m.whole ≡ m.i +ℤ m.j +ℤ m.k
  total = m.sum ∙ ap (λ (z : ℤ). m.i +ℤ m.j +ℤ m.k +ℤ z) weightless ∙ +ℤ_idr (m.i +ℤ m.j +ℤ m.k)

  of_corners : InFace p m.face q
  of_corners = record {
    i = m.i;
    j = m.j;
    k = m.k;
    i_nonneg = m.i_nonneg;
    j_nonneg = m.j_nonneg;
    k_nonneg = m.k_nonneg;
    some = subst (λ (z : ℤ). pos 0 <ℤ z) total m.whole_pos;
    x = back m.whole c.w c.s.x q.x m.i (at 0).x m.j (at 1).x m.k (at 2).x c.positive total (m.along X);
    y = back m.whole c.w c.s.y q.y m.i (at 0).y m.j (at 1).y m.k (at 2).y c.positive total (m.along Y);
    z = back m.whole c.w c.s.z q.z m.i (at 0).z m.j (at 1).z m.k (at 2).z c.positive total (m.along Z);
  }
    where
      at : ℕ → Point
      at n = p (corner m.face n)

pub mixed : {p : Places} {done : List ℕ} {h : List Face} → Hull p done h → (c : Centre p done) → Covers c h → (q : Point) → OnOrInside p h q → OnPlane p h q →
    (g : Face) × In g h × InFace p g q
mixed H c covers q within plane = let m = blend c covers q in (m.face, m.face_in, of_corners H c within plane m)
