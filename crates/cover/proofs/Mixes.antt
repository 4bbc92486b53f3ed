-- Mixtures of three vectors: the weights are the parts over their base, so that one with weights from 0 on is in their cone, and one with weights above 0 inside it.
use mathlib.Core.Path.{◌≡◌}
use mathlib.Core.List.{List, [], ◌∷◌}
use Prim.Native.Nat.{ℕ}
use lib.IntN.{ℤ, pos, ◌+ℤ◌, ◌*ℤ◌}
use lib.Signed.{◌≤ℤ◌, ◌<ℤ◌}
use Rattle.laws.proofs.Integers.{one-*ℤ}
use Rattle.laws.proofs.Ring.{var, ◌:+◌, ◌:*◌}
use Rattle.laws.proofs.Certificates.{combine, Eqn, eqn}
use Rattle.laws.proofs.Order.{<→≤, mul_nonneg, mul_pos_pos, cancel_pos, cancel_nonneg}
use Rattle.touches.specs.declared.Point.{Point}
use Rattle.volume.proofs.Axes.{Axis, X, Y, Z}
use Rattle.volume.proofs.Quote.{Spot, pt, on_e, cross_e}
use Rattle.rules.specs.Faces.{Face, Places, corner}
use Rattle.cover.specs.Cones.{det, InCone, InsideCone}
use Rattle.cover.proofs.DetLaws.{D}

-- n·q = i·a + j·b + k·c
pub record MixOf (n i : ℤ) (a : Point) (j : ℤ) (b : Point) (k : ℤ) (c q : Point) : Type 0 where
  pub x : n *ℤ q.x ≡ i *ℤ a.x +ℤ j *ℤ b.x +ℤ k *ℤ c.x
  pub y : n *ℤ q.y ≡ i *ℤ a.y +ℤ j *ℤ b.y +ℤ k *ℤ c.y
  pub z : n *ℤ q.z ≡ i *ℤ a.z +ℤ j *ℤ b.z +ℤ k *ℤ c.z

-- a, b, c, q are the points 0 to 3, and n, i, j, k the variables 12 to 15
abbrev along_e : Spot → Axis → Eqn
along_e m t = eqn (on_e m t) (var 12 :* on_e (pt 3) t) (var 13 :* on_e (pt 0) t :+ var 14 :* on_e (pt 1) t :+ var 15 :* on_e (pt 2) t)

abbrev alongs : ℕ → ℕ → List Eqn
alongs u w = let m = cross_e (pt u) (pt w) in along_e m X ∷ along_e m Y ∷ along_e m Z ∷ []

module _ {n i j k : ℤ} {a b c q : Point} (e : MixOf n i a j b k c q) where
  abbrev values : List ℤ
  values = a.x ∷ a.y ∷ a.z ∷ b.x ∷ b.y ∷ b.z ∷ c.x ∷ c.y ∷ c.z ∷ q.x ∷ q.y ∷ q.z ∷ n ∷ i ∷ j ∷ k ∷ []

  part_ab : n *ℤ det a b q ≡ k *ℤ det a b c
  unfolding det
  part_ab = combine values (alongs 0 1) (var 12 :* D 0 1 3) (var 15 :* D 0 1 2) tt e.x e.y e.z

  part_bc : n *ℤ det b c q ≡ i *ℤ det a b c
  unfolding det
  part_bc = combine values (alongs 1 2) (var 12 :* D 1 2 3) (var 13 :* D 0 1 2) tt e.x e.y e.z

  part_ca : n *ℤ det c a q ≡ j *ℤ det a b c
  unfolding det
  part_ca = combine values (alongs 2 0) (var 12 :* D 2 0 3) (var 14 :* D 0 1 2) tt e.x e.y e.z

-- ---- of the corners of face f
module _ (v : Places) (f : Face) {q : Point} {n i j k : ℤ} (up : pos 0 <ℤ det (v (corner f 0)) (v (corner f 1)) (v (corner f 2))) (n_pos : pos 0 <ℤ n)
    (e : MixOf n i (v (corner f 0)) j (v (corner f 1)) k (v (corner f 2)) q) where
  pub mix_in : pos 0 ≤ℤ i → pos 0 ≤ℤ j → pos 0 ≤ℤ k → InCone v f q
  mix_in hi hj hk = record { outward = up; ab = share hk (part_ab e); bc = share hi (part_bc e); ca = share hj (part_ca e) }
    where
      share : {w y : ℤ} → pos 0 ≤ℤ w → n *ℤ y ≡ w *ℤ det (v (corner f 0)) (v (corner f 1)) (v (corner f 2)) → pos 0 ≤ℤ y
      share h d = cancel_nonneg n_pos (rw d (mul_nonneg h (<→≤ up)))

  pub mix_inside : pos 0 <ℤ i → pos 0 <ℤ j → pos 0 <ℤ k → InsideCone v f q
  mix_inside hi hj hk = record { outward = up; ab = share hk (part_ab e); bc = share hi (part_bc e); ca = share hj (part_ca e) }
    where
      share : {w y : ℤ} → pos 0 <ℤ w → n *ℤ y ≡ w *ℤ det (v (corner f 0)) (v (corner f 1)) (v (corner f 2)) → pos 0 <ℤ y
      share h d = cancel_pos n_pos (rw d (mul_pos_pos h up))

-- ---- i·a + j·b + k·c itself
abbrev pub mix : ℤ → Point → ℤ → Point → ℤ → Point → Point
mix i a j b k c = record { x = i *ℤ a.x +ℤ j *ℤ b.x +ℤ k *ℤ c.x; y = i *ℤ a.y +ℤ j *ℤ b.y +ℤ k *ℤ c.y; z = i *ℤ a.z +ℤ j *ℤ b.z +ℤ k *ℤ c.z }

pub mix_of : (i : ℤ) (a : Point) (j : ℤ) (b : Point) (k : ℤ) (c : Point) → MixOf (pos 1) i a j b k c (mix i a j b k c)
mix_of i a j b k c = record { x = one-*ℤ (mix i a j b k c).x; y = one-*ℤ (mix i a j b k c).y; z = one-*ℤ (mix i a j b k c).z }
