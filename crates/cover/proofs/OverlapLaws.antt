-- Where no direction is inside the cones of two faces, no two triangles overlap, and a place inside a triangle is in no other, border included.
use mathlib.Core.Path.{◌≡◌}
use mathlib.Core.Logic.{◌⊎◌, inl, inr}
use mathlib.Core.List.{List, [], ◌∷◌}
use Prim.Native.Nat.{ℕ}
use lib.IntN.{ℤ, pos, ◌+ℤ◌, ◌-ℤ◌, ◌*ℤ◌}
use lib.Signed.{◌≤ℤ◌, ◌<ℤ◌}
use Rattle.laws.specs.Lists.{In}
use Rattle.laws.proofs.Ring.{Ex, var, ◌:+◌, ◌:-◌, ◌:*◌, ring}
use Rattle.laws.proofs.Order.{<→≤, antisymm, nonneg_add, below_or, mul_nonneg}
use Rattle.laws.proofs.Certificates.{combine, eqn}
use Rattle.laws.proofs.Members.{Pw-get, Pw-weak}
use Rattle.touches.specs.declared.Point.{Point}
use Rattle.volume.specs.Triangle.{Mixture, InsideTriangle, OnBorder}
use Rattle.volume.proofs.Quote.{Spot, env, pt}
use Rattle.rules.specs.Faces.{Face, Places, corner}
use Rattle.rules.proofs.Hull.{Hull}
use Rattle.cover.specs.Cones.{det, from, InCone, InsideCone, Centre, rays, Once}
use Rattle.cover.specs.Triangles.{InFace, InsideFace, OnFaceBorder, NoOverlap, InsideOneOrOnBorder}
use Rattle.cover.proofs.DetLaws.{det_e, D}
use Rattle.cover.proofs.Nearby.{moved, det_moved, near_moved, planes}
use Rattle.cover.proofs.Mixes.{MixOf, mix_in, mix_inside}
use Rattle.cover.proofs.CentreLaws.{turned}
use Rattle.cover.proofs.CoverLaws.{cone_near}

-- ---- a mixture of places is one of their vectors from the centre, with the same weights
forth : (w s x i a j b k c : ℤ) → (i +ℤ j +ℤ k) *ℤ x ≡ i *ℤ a +ℤ j *ℤ b +ℤ k *ℤ c → (i +ℤ j +ℤ k) *ℤ (w *ℤ x -ℤ s) ≡ i *ℤ (w *ℤ a -ℤ s) +ℤ j *ℤ (w *ℤ b -ℤ s) +ℤ k *ℤ (w *ℤ c -ℤ s)
forth w s x i a j b k c = combine (w ∷ s ∷ x ∷ i ∷ a ∷ j ∷ b ∷ k ∷ c ∷ []) (eqn (var 0) (sum :* var 2) (var 3 :* var 4 :+ var 5 :* var 6 :+ var 7 :* var 8) ∷ [])
    (sum :* gap 2) (var 3 :* gap 4 :+ var 5 :* gap 6 :+ var 7 :* gap 8) tt
  where
    sum : Ex
    sum = var 3 :+ var 5 :+ var 7

    gap : ℕ → Ex
    gap n = var 0 :* var n :- var 1

from_mixture : (w : ℤ) (s : Point) {a b c q : Point} → Mixture a b c q → Mixture (from w s a) (from w s b) (from w s c) (from w s q)
from_mixture w s {a} {b} {c} {q} m = record {
  i = m.i;
  j = m.j;
  k = m.k;
  i_nonneg = m.i_nonneg;
  j_nonneg = m.j_nonneg;
  k_nonneg = m.k_nonneg;
  some = m.some;
  x = forth w s.x q.x m.i a.x m.j b.x m.k c.x m.x;
  y = forth w s.y q.y m.i a.y m.j b.y m.k c.y m.y;
  z = forth w s.z q.z m.i a.z m.j b.z m.k c.z m.z;
}

-- so a place in a triangle is in its cone, and one inside it inside the cone
along : {a b c x : Point} (m : Mixture a b c x) → MixOf (m.i +ℤ m.j +ℤ m.k) m.i a m.j b m.k c x
along m = record { x = m.x; y = m.y; z = m.z }

module _ {v : Places} {f : Face} {x : Point} (up : pos 0 <ℤ det (v (corner f 0)) (v (corner f 1)) (v (corner f 2))) where
  in_cone : InFace v f x → InCone v f x
  in_cone m = mix_in v f up m.some (along m) m.i_nonneg m.j_nonneg m.k_nonneg

  inside_cone : InsideFace v f x → InsideCone v f x
  inside_cone n = mix_inside v f up n.mixture.some (along n.mixture) n.i_pos n.j_pos n.k_pos

-- ---- moved by the sum of the corners' vectors, what is in a cone is inside it
abbrev sum3 : Point → Point → Point → Point
sum3 a b c = record { x = a.x +ℤ b.x +ℤ c.x; y = a.y +ℤ b.y +ℤ c.y; z = a.z +ℤ b.z +ℤ c.z }

det_sum : (a b c : Point) → (det a b (sum3 a b c) ≡ det a b c) × (det b c (sum3 a b c) ≡ det a b c) × (det c a (sum3 a b c) ≡ det a b c)
unfolding det
det_sum a b c = let ρ = env (a ∷ b ∷ c ∷ []) in (ring ρ (det_e (pt 0) (pt 1) all) (D 0 1 2) tt, ring ρ (det_e (pt 1) (pt 2) all) (D 0 1 2) tt, ring ρ (det_e (pt 2) (pt 0) all) (D 0 1 2) tt)
  where
    all : Spot
    all = record { x = (pt 0).x :+ (pt 1).x :+ (pt 2).x; y = (pt 0).y :+ (pt 1).y :+ (pt 2).y; z = (pt 0).z :+ (pt 1).z :+ (pt 2).z }

abbrev inward : Places → Face → Point
inward v f = sum3 (v (corner f 0)) (v (corner f 1)) (v (corner f 2))

moved_inside : {v : Places} {f : Face} {x : Point} {m : ℤ} → pos 0 ≤ℤ m → InCone v f x → InsideCone v f (moved m x (inward v f))
moved_inside {v} {f} {x} {m} h c = let e = det_sum (at 0) (at 1) (at 2) in
    record { outward = c.outward; ab = more (at 0) (at 1) c.ab e.0; bc = more (at 1) (at 2) c.bc e.1; ca = more (at 2) (at 0) c.ca e.2 }
  where
    at : ℕ → Point
    at n = v (corner f n)

    more : (u w : Point) → pos 0 ≤ℤ det u w x → det u w (inward v f) ≡ det (at 0) (at 1) (at 2) → pos 0 <ℤ det u w (moved m x (inward v f))
    more u w k d = rw (det_moved u w x (inward v f) m) (nonneg_add (mul_nonneg h k) (rw d c.outward))

-- ---- a mixture is inside the triangle, or on its border
inside_or : {a b c q : Point} → Mixture a b c q → InsideTriangle a b c q ⊎ OnBorder a b c q
inside_or {a} {b} {c} {q} m = go (below_or m.i (pos 0)) (below_or m.j (pos 0)) (below_or m.k (pos 0))
  where
    go : (m.i ≤ℤ pos 0) ⊎ (pos 0 <ℤ m.i) → (m.j ≤ℤ pos 0) ⊎ (pos 0 <ℤ m.j) → (m.k ≤ℤ pos 0) ⊎ (pos 0 <ℤ m.k) → InsideTriangle a b c q ⊎ OnBorder a b c q
    go (inl h) s t = inr (record { mixture = m; on_side = inl (antisymm h m.i_nonneg) })
    go (inr h) (inl k) t = inr (record { mixture = m; on_side = inr (inl (antisymm k m.j_nonneg)) })
    go (inr h) (inr k) (inl l) = inr (record { mixture = m; on_side = inr (inr (antisymm l m.k_nonneg)) })
    go (inr h) (inr k) (inr l) = inl (record { mixture = m; i_pos = h; j_pos = k; k_pos = l })

-- ---- of a hull, seen from a centre
module _ {p : Places} {done : List ℕ} {h : List Face} (H : Hull p done h) (c : Centre p done) (once : Once c h) where
  -- a place as a vector from the centre
  inside_ray : {f : Face} → In f h → {q : Point} → InsideFace p f q → InsideCone (rays c) f (from c.w c.s q)
  unfolding from_mixture
  inside_ray {f} i n = inside_cone (turned c H f i) (record { mixture = from_mixture c.w c.s n.mixture; i_pos = n.i_pos; j_pos = n.j_pos; k_pos = n.k_pos })

  in_ray : {f : Face} → In f h → {q : Point} → InFace p f q → InCone (rays c) f (from c.w c.s q)
  in_ray {f} i m = in_cone (turned c H f i) (from_mixture c.w c.s m)

  pub no_overlap : NoOverlap p h
  no_overlap = Pw-weak h (λ f g i j r q a b. r (from c.w c.s q) (inside_ray i a) (inside_ray j b)) once

  -- a direction inside one cone and in another: near it there is one inside both
  one_cone : {f g : Face} → In f h → In g h → {x : Point} → InsideCone (rays c) f x → InCone (rays c) g x → g ≡ f
  one_cone {f} {g} i j {x} a b = go (Pw-get (λ f g r y k l. r y l k) h once j i)
    where
      go : (g ≡ f) ⊎ ((y : Point) → InsideCone (rays c) g y → InsideCone (rays c) f y → ⊥) → g ≡ f
      go (inl e) = e
      go (inr r) = let t = near_moved (planes (rays c) done) x (inward (rays c) g) in absurd (r (moved t.0 x (inward (rays c) g)) (moved_inside (<→≤ t.1) b) (cone_near t.2 (H.corners f i) a))

  pub inside_one : {f : Face} → In f h → {q : Point} → InFace p f q → InsideOneOrOnBorder p h f q
  inside_one {f} i {q} m = go (inside_or m)
    where
      go : InsideFace p f q ⊎ OnFaceBorder p f q → InsideOneOrOnBorder p h f q
      go (inl n) = inl (n, (λ g j k. one_cone i j (inside_ray i n) (in_ray j k)))
      go (inr n) = inr n
