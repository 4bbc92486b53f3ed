-- The centre: the mean of the four starting touches. It is behind every plane that has none of the four in front, so behind every face.
use mathlib.Core.Path.{◌≡◌, refl, sym, subst}
use mathlib.Core.Logic.{◌≢◌, ◌⊎◌, inl, inr}
use mathlib.Core.Bool.{Bool, false, not}
use mathlib.Core.List.{List, [], ◌∷◌}
use Prim.Native.Nat.{ℕ}
use native.Mathlib.Omega.{arith}
use lib.Dec.{T}
use lib.IntN.{ℤ, pos, ◌+ℤ◌, ◌*ℤ◌}
use lib.Signed.{◌≤ℤ◌, ◌<ℤ◌, lt_z_yes}
use Rattle.laws.specs.Lists.{In}
use Rattle.laws.proofs.Integers.{sum_is}
use Rattle.laws.proofs.Ring.{lit, ◌:+◌, ◌:*◌, ring}
use Rattle.laws.proofs.Order.{zs, pos_is, below_or, four_zero, mul_pos_pos, mul_pos_neg}
use Rattle.laws.proofs.Members.{here, there}
use Rattle.touches.specs.declared.Point.{Point}
use Rattle.volume.specs.Volume.{Vol, in_line}
use Rattle.volume.proofs.Quote.{Spot, W, pt, env}
use Rattle.volume.proofs.FlatLaws.{flat_plane}
use Rattle.rules.specs.Faces.{Face, Places, corner, face_vol}
use Rattle.rules.specs.Start.{Start}
use Rattle.rules.proofs.CornerLaws.{starters}
use Rattle.rules.proofs.Hull.{Hull, off_line}
use Rattle.cover.specs.Cones.{det, from, Centre, rays}
use Rattle.cover.proofs.DetLaws.{det_e, from_e, cube_pos, from_parts}
use Rattle.cover.proofs.Hits.{Outward}

-- ---- k in front of a, b, c: its parts over their base have a sum above 0
more : {d z v : ℤ} → d ≡ z +ℤ v → pos 0 <ℤ d → v <ℤ pos 0 → pos 0 <ℤ z
more {d} {z} {v} e h k = omega (arith, zs, sum_is z v, pos_is 0)

pub in_front : (w : ℤ) (s a b c k : Point) → pos 0 <ℤ w → pos 0 <ℤ det (from w s a) (from w s b) (from w s c) → Vol a b c k <ℤ pos 0 →
    pos 0 <ℤ (det (from w s b) (from w s c) (from w s k) +ℤ det (from w s c) (from w s a) (from w s k) +ℤ det (from w s a) (from w s b) (from w s k))
in_front w s a b c k positive up front = more (from_parts w s a b c k) up (mul_pos_neg (cube_pos positive) front)

-- ---- the sum of four points: it stands for their mean, with the weight 4
abbrev sum4 : Point → Point → Point → Point → Point
sum4 p q r s = record { x = p.x +ℤ q.x +ℤ r.x +ℤ s.x; y = p.y +ℤ q.y +ℤ r.y +ℤ s.y; z = p.z +ℤ q.z +ℤ r.z +ℤ s.z }

-- of the points 3 to 6
abbrev sum_e : Spot
sum_e = record { x = (pt 3).x :+ (pt 4).x :+ (pt 5).x :+ (pt 6).x; y = (pt 3).y :+ (pt 4).y :+ (pt 5).y :+ (pt 6).y; z = (pt 3).z :+ (pt 4).z :+ (pt 5).z :+ (pt 6).z }

-- it is as far behind a, b, c as the four together
mean_det : (a b c p q r s : Point) → det (from (pos 4) (sum4 p q r s) a) (from (pos 4) (sum4 p q r s) b) (from (pos 4) (sum4 p q r s) c) ≡ pos 16 *ℤ (Vol a b c p +ℤ Vol a b c q +ℤ Vol a b c r +ℤ Vol a b c s)
unfolding det Vol
mean_det a b c p q r s = ring (env (a ∷ b ∷ c ∷ p ∷ q ∷ r ∷ s ∷ [])) (det_e (at 0) (at 1) (at 2)) (lit (pos 16) :* (W 0 1 2 3 :+ W 0 1 2 4 :+ W 0 1 2 5 :+ W 0 1 2 6)) tt
  where
    at : ℕ → Spot
    at i = from_e (lit (pos 4)) sum_e (pt i)

-- four numbers from 0 on, not all 0
four_pos : (w x y z : ℤ) → pos 0 ≤ℤ w → pos 0 ≤ℤ x → pos 0 ≤ℤ y → pos 0 ≤ℤ z → (w ≡ pos 0 → x ≡ pos 0 → y ≡ pos 0 → z ≡ pos 0 → ⊥) → pos 0 <ℤ (w +ℤ x +ℤ y +ℤ z)
four_pos w x y z hw hx hy hz n = go (below_or (w +ℤ x +ℤ y +ℤ z) (pos 0))
  where
    go : ((w +ℤ x +ℤ y +ℤ z) ≤ℤ pos 0) ⊎ (pos 0 <ℤ (w +ℤ x +ℤ y +ℤ z)) → pos 0 <ℤ (w +ℤ x +ℤ y +ℤ z)
    go (inl h) = let e = four_zero hw hx hy hz h in absurd (n e.0 e.1 e.2 e.3)
    go (inr h) = h

-- ---- four times the mean of P, Q, R and S, and the touches as vectors from it
abbrev pub middle : Places → Start → Point
middle p s = sum4 (p s.P) (p s.Q) (p s.R) (p s.S)

abbrev pub ray : Places → Start → Places
ray p s t = from (pos 4) (middle p s) (p t)

module _ (p : Places) (s : Start) (solid : Vol (p s.P) (p s.Q) (p s.R) (p s.S) ≢ pos 0) where
  -- a plane with none of the four in front has the mean behind
  pub behind : (a b c : Point) → in_line a b c ≡ false → ((t : ℕ) → In t (starters s) → pos 0 ≤ℤ Vol a b c (p t)) → pos 0 <ℤ det (from (pos 4) (middle p s) a) (from (pos 4) (middle p s) b) (from (pos 4) (middle p s) c)
  behind a b c off h = subst (λ (z : ℤ). pos 0 <ℤ z) (sym (mean_det a b c (p s.P) (p s.Q) (p s.R) (p s.S)))
      (mul_pos_pos {a = pos 16} (lt_z_yes tt) (four_pos (Vol a b c (p s.P)) (Vol a b c (p s.Q)) (Vol a b c (p s.R)) (Vol a b c (p s.S))
      (h s.P (here refl)) (h s.Q (there (here refl))) (h s.R (there (there (here refl)))) (h s.S (there (there (there (here refl)))))
      (λ e₁ e₂ e₃ e₄. solid (flat_plane a b c (subst (λ (b : Bool). T (not b)) (sym off) tt) (p s.P) (p s.Q) (p s.R) (p s.S) e₁ e₂ e₃ e₄))))

  module _ {done : List ℕ} (taken : (t : ℕ) → In t (starters s) → In t done) where
    abbrev pub centre : Centre p done
    centre = record { w = pos 4; s = middle p s; positive = lt_z_yes tt; amid = λ a b c off h. behind a b c off (λ t i. h t (taken t i)) }

-- ---- seen from a centre every face of a hull is turned outward
pub turned : {p : Places} {done : List ℕ} {h : List Face} (c : Centre p done) → Hull p done h → Outward (rays c) h
unfolding face_vol
turned {p} c H f m = c.amid (p (corner f 0)) (p (corner f 1)) (p (corner f 2)) (off_line H f m) (H.supporting f m)
