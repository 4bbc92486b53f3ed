-- Where the cones cover, each place is a mixture of the corners of a face and of the centre; and so is its V, for every plane.
use mathlib.Core.Path.{◌≡◌}
use mathlib.Core.List.{List, [], ◌∷◌}
use Prim.Native.Nat.{ℕ}
use lib.IntN.{ℤ, pos, ◌+ℤ◌, ◌-ℤ◌, ◌*ℤ◌}
use lib.Signed.{◌≤ℤ◌, ◌<ℤ◌}
use Rattle.laws.specs.Lists.{In}
use Rattle.laws.proofs.Ring.{one, var, ◌:+◌, ◌:-◌, ◌:*◌, neg}
use Rattle.laws.proofs.Certificates.{combine, eqn}
use Rattle.touches.specs.declared.Point.{Point}
use Rattle.volume.specs.Volume.{Vol, dot, normal}
use Rattle.volume.proofs.Axes.{Axis, on}
use Rattle.rules.specs.Faces.{Face, Places, corner, face_vol}
use Rattle.cover.specs.Cones.{det, from, InCone, Centre, rays, Covers}
use Rattle.cover.proofs.DetLaws.{det_axis, det_dot, cube, from_parts, from_plane}

-- q is a mixture of the corners of face, with the weights i, j, k, and of the centre s / w; the weights' sum is whole
pub record Blend (p : Places) (h : List Face) (w : ℤ) (s : Point) (q : Point) : Type 0 where
  pub face : Face
  pub face_in : In face h
  pub i : ℤ
  pub j : ℤ
  pub k : ℤ
  pub whole : ℤ
  pub i_nonneg : pos 0 ≤ℤ i
  pub j_nonneg : pos 0 ≤ℤ j
  pub k_nonneg : pos 0 ≤ℤ k
  pub whole_pos : pos 0 <ℤ whole
  -- the centre's weight is w³·V(face, q)
  pub sum : whole ≡ i +ℤ j +ℤ k +ℤ cube w *ℤ face_vol p face q
  pub along : (t : Axis) → whole *ℤ on (from w s q) t ≡ i *ℤ on (from w s (p (corner face 0))) t +ℤ j *ℤ on (from w s (p (corner face 1))) t +ℤ k *ℤ on (from w s (p (corner face 2))) t
  pub volume : (a b c : Point) → whole *ℤ (cube w *ℤ Vol a b c q)
      ≡ i *ℤ (cube w *ℤ Vol a b c (p (corner face 0))) +ℤ j *ℤ (cube w *ℤ Vol a b c (p (corner face 1))) +ℤ k *ℤ (cube w *ℤ Vol a b c (p (corner face 2)))
      +ℤ cube w *ℤ face_vol p face q *ℤ det (from w s a) (from w s b) (from w s c)

-- d·v from its parts: v = e − y, and so of each corner; y is mixed, and the rest of d is u
mix : (d v e y i v₀ y₀ j v₁ y₁ k v₂ y₂ u : ℤ) → v ≡ e -ℤ y → v₀ ≡ e -ℤ y₀ → v₁ ≡ e -ℤ y₁ → v₂ ≡ e -ℤ y₂ →
    d *ℤ y ≡ i *ℤ y₀ +ℤ j *ℤ y₁ +ℤ k *ℤ y₂ → d ≡ i +ℤ j +ℤ k +ℤ u → d *ℤ v ≡ i *ℤ v₀ +ℤ j *ℤ v₁ +ℤ k *ℤ v₂ +ℤ u *ℤ e
mix d v e y i v₀ y₀ j v₁ y₁ k v₂ y₂ u = combine (d ∷ v ∷ e ∷ y ∷ i ∷ v₀ ∷ y₀ ∷ j ∷ v₁ ∷ y₁ ∷ k ∷ v₂ ∷ y₂ ∷ u ∷ [])
    (eqn (var 0) (var 1) (var 2 :- var 3) ∷ eqn (neg (var 4)) (var 5) (var 2 :- var 6) ∷ eqn (neg (var 7)) (var 8) (var 2 :- var 9) ∷ eqn (neg (var 10)) (var 11) (var 2 :- var 12)
    ∷ eqn (neg one) (var 0 :* var 3) (var 4 :* var 6 :+ var 7 :* var 9 :+ var 10 :* var 12) ∷ eqn (var 2) (var 0) (var 4 :+ var 7 :+ var 10 :+ var 13) ∷ [])
    (var 0 :* var 1) (var 4 :* var 5 :+ var 7 :* var 8 :+ var 10 :* var 11 :+ var 13 :* var 2) tt

pub blend : {p : Places} {done : List ℕ} {h : List Face} (c : Centre p done) → Covers c h → (q : Point) → Blend p h c.w c.s q
unfolding face_vol
blend {p} {done} {h} c covers q = record {
  face = g;
  face_in = cone.1;
  i = det B C x;
  j = det C A x;
  k = det A B x;
  whole = det A B C;
  i_nonneg = cone.2.bc;
  j_nonneg = cone.2.ca;
  k_nonneg = cone.2.ab;
  whole_pos = cone.2.outward;
  sum = from_parts w s (at 0) (at 1) (at 2) q;
  along = λ t. det_axis t A B C x;
  volume = λ a b d. mix (det A B C) (cube w *ℤ Vol a b d q) (det (from w s a) (from w s b) (from w s d)) (slope a b d x)
      (det B C x) (cube w *ℤ Vol a b d (at 0)) (slope a b d A) (det C A x) (cube w *ℤ Vol a b d (at 1)) (slope a b d B) (det A B x) (cube w *ℤ Vol a b d (at 2)) (slope a b d C)
      (cube w *ℤ Vol (at 0) (at 1) (at 2) q)
      (from_plane w s a b d q) (from_plane w s a b d (at 0)) (from_plane w s a b d (at 1)) (from_plane w s a b d (at 2))
      (det_dot A B C x (normal (from w s a) (from w s b) (from w s d))) (from_parts w s (at 0) (at 1) (at 2) q);
}
  where
    w : ℤ
    w = c.w

    s : Point
    s = c.s

    x : Point
    x = from w s q

    cone : (f : Face) × In f h × InCone (rays c) f x
    cone = covers x

    g : Face
    g = cone.0

    at : ℕ → Point
    at n = p (corner g n)

    A : Point
    A = from w s (at 0)

    B : Point
    B = from w s (at 1)

    C : Point
    C = from w s (at 2)

    slope : Point → Point → Point → Point → ℤ
    slope a b d y = dot (normal (from w s a) (from w s b) (from w s d)) y
