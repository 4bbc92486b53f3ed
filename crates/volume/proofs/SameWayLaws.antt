-- On the plane of the corners the test of a side by signs gives the answer of the one by the dot product.
use mathlib.Core.Path.{◌≡◌, refl, sym, ◌∙◌, ap₂}
use mathlib.Core.Logic.{◌⊎◌, inl, inr}
use mathlib.Core.Bool.{Bool, not, ◌&&◌}
use mathlib.Core.List.{[], ◌∷◌}
use lib.Dec.{T, T_not, not_T}
use lib.IntN.{ℤ, pos, ◌*ℤ◌, *ℤ-zero, zero-*ℤ, *ℤ_comm}
use lib.Signed.{◌≤ℤ◌, le_z, lt_z, le_z_yes, lt_z_yes}
use Rattle.laws.proofs.Tests.{same_test, and_both, both_and, or_either, or_left, or_right}
use Rattle.laws.proofs.Integers.{*ℤ_assoc, *ℤ_left_comm}
use Rattle.laws.proofs.Ring.{Ex, o, ◌:*◌, ring}
use Rattle.laws.proofs.Order.{Sign, minus, null, plus, sign, ≤_refl, <→≤, not_lt, add_nonneg, mul_nonneg, mul_pos_pos, mul_neg_neg, mul_pos_neg, cancel_nonneg}
use Rattle.laws.proofs.Certificates.{combine, eqn}
use Rattle.touches.specs.declared.Point.{Point}
use Rattle.volume.specs.Volume.{Vol, dot, normal}
use Rattle.volume.specs.Triangle.{turns, in_triangle}
use Rattle.volume.specs.SameWay.{opposed, same_way}
use Rattle.volume.proofs.Axes.{Axis, X, Y, Z, on, point_ext}
use Rattle.volume.proofs.Quote.{Spot, W, env, pt, on_e, minus_e, cross_e, dot_e, normal_e}
use Rattle.volume.proofs.VolumeLaws.{turn_abc}
use Rattle.volume.proofs.SquareLaws.{square_nonneg, dot_nonneg, dot_zero}

-- ---- numbers are opposed exactly if their product is negative
abbrev falls : ℤ → ℤ → Bool
falls n m = lt_z (pos 0) n && lt_z m (pos 0)

abbrev rises : ℤ → ℤ → Bool
rises n m = lt_z n (pos 0) && lt_z (pos 0) m

not_opposed→ : (n m : ℤ) → T (not (opposed n m)) → pos 0 ≤ℤ (n *ℤ m)
not_opposed→ n m t = go (sign n) (sign m)
  where
    go : Sign n → Sign m → pos 0 ≤ℤ (n *ℤ m)
    go (null e) s = rw e (rw (zero-*ℤ m) (≤_refl (pos 0)))
    go (minus h) (null e) = rw e (rw (*ℤ-zero n) (≤_refl (pos 0)))
    go (plus h) (null e) = rw e (rw (*ℤ-zero n) (≤_refl (pos 0)))
    go (minus h) (minus k) = <→≤ (mul_neg_neg h k)
    go (plus h) (plus k) = <→≤ (mul_pos_pos h k)
    go (plus h) (minus k) = absurd (T_not (opposed n m) t (or_left (falls n m) (rises n m) (both_and (lt_z (pos 0) n) (lt_z m (pos 0)) h.lt k.lt)))
    go (minus h) (plus k) = absurd (T_not (opposed n m) t (or_right (falls n m) (rises n m) (both_and (lt_z n (pos 0)) (lt_z (pos 0) m) h.lt k.lt)))

→not_opposed : (n m : ℤ) → pos 0 ≤ℤ (n *ℤ m) → T (not (opposed n m))
→not_opposed n m h = not_T (opposed n m) (λ t. go (or_either (falls n m) (rises n m) t))
  where
    go : T (falls n m) ⊎ T (rises n m) → ⊥
    go (inl t) = let u = and_both (lt_z (pos 0) n) (lt_z m (pos 0)) t in not_lt h (mul_pos_neg {a = n} {b = m} (lt_z_yes u.0) (lt_z_yes u.1))
    go (inr t) = let u = and_both (lt_z n (pos 0)) (lt_z (pos 0) m) t in not_lt h (rw (*ℤ_comm n m) (mul_pos_neg {a = m} {b = n} (lt_z_yes u.1) (lt_z_yes u.0)))

-- ---- parallel vectors: (n · n) m = (n · m) n
module _ (n m : Point) (e : (i : Axis) → dot n n *ℤ on m i ≡ on n i *ℤ dot n m) where
  part_nonneg : pos 0 ≤ℤ dot n m → (i : Axis) → pos 0 ≤ℤ (on n i *ℤ on m i)
  part_nonneg h i = go (sign (dot n n))
    where
      go : Sign (dot n n) → pos 0 ≤ℤ (on n i *ℤ on m i)
      go (minus k) = absurd (not_lt (dot_nonneg n) k)
      go (null z) = rw (dot_zero n z i) (rw (zero-*ℤ (on m i)) (≤_refl (pos 0)))
      go (plus k) = cancel_nonneg k (rw (*ℤ_left_comm (dot n n) (on n i) (on m i)) (rw (e i) (rw (sym (*ℤ_assoc (on n i) (on n i) (dot n m))) (mul_nonneg (square_nonneg (on n i)) h))))

  by_signs : same_way n m ≡ le_z (pos 0) (dot n m)
  unfolding same_way
  by_signs = same_test (same_way n m) (le_z (pos 0) (dot n m))
      (λ t. let s = and_both (along X && along Y) (along Z) t in let r = and_both (along X) (along Y) s.0 in
      (add_nonneg (add_nonneg (not_opposed→ n.x m.x r.0) (not_opposed→ n.y m.y r.1)) (not_opposed→ n.z m.z s.1)).le)
      (λ t. both_and (along X && along Y) (along Z) (both_and (along X) (along Y) (each t X) (each t Y)) (each t Z))
    where
      along : Axis → Bool
      along i = not (opposed (on n i) (on m i))

      each : T (le_z (pos 0) (dot n m)) → (i : Axis) → T (along i)
      each t i = →not_opposed (on n i) (on m i) (part_nonneg (le_z_yes t) i)

-- ---- the normals n of a, b, c and m of a, b, q are parallel; a, b, c, q are the points 0 to 3
abbrev nE : Spot
nE = normal_e (pt 0) (pt 1) (pt 2)

abbrev mE : Spot
mE = normal_e (pt 0) (pt 1) (pt 3)

abbrev times_e : Axis → Ex
times_e i = on_e (cross_e nE (minus_e (pt 1) (pt 0))) i

parallel : (i : Axis) (a b c q : Point) → Vol a b c q ≡ pos 0 → dot (normal a b c) (normal a b c) *ℤ on (normal a b q) i ≡ on (normal a b c) i *ℤ dot (normal a b c) (normal a b q)
unfolding Vol normal
parallel X a b c q = combine (env (a ∷ b ∷ c ∷ q ∷ [])) (eqn (times_e X) (W 0 1 2 3) o ∷ []) (dot_e nE nE :* on_e mE X) (on_e nE X :* dot_e nE mE) tt
parallel Y a b c q = combine (env (a ∷ b ∷ c ∷ q ∷ [])) (eqn (times_e Y) (W 0 1 2 3) o ∷ []) (dot_e nE nE :* on_e mE Y) (on_e nE Y :* dot_e nE mE) tt
parallel Z a b c q = combine (env (a ∷ b ∷ c ∷ q ∷ [])) (eqn (times_e Z) (W 0 1 2 3) o ∷ []) (dot_e nE nE :* on_e mE Z) (on_e nE Z :* dot_e nE mE) tt

pub same_way_lem : (a b c q : Point) → Vol a b c q ≡ pos 0 → same_way (normal a b c) (normal a b q) ≡ turns (normal a b c) a b q
same_way_lem a b c q e = by_signs (normal a b c) (normal a b q) (λ i. parallel i a b c q e)

-- ---- a face has one normal, whichever corner comes first
normal_turn : (a b c : Point) → normal b c a ≡ normal a b c
unfolding normal
normal_turn a b c = point_ext {p = normal b c a} {q = normal a b c} go
  where
    go : (i : Axis) → on (normal b c a) i ≡ on (normal a b c) i
    go X = ring (env (a ∷ b ∷ c ∷ [])) (on_e (normal_e (pt 1) (pt 2) (pt 0)) X) (on_e nE X) tt
    go Y = ring (env (a ∷ b ∷ c ∷ [])) (on_e (normal_e (pt 1) (pt 2) (pt 0)) Y) (on_e nE Y) tt
    go Z = ring (env (a ∷ b ∷ c ∷ [])) (on_e (normal_e (pt 1) (pt 2) (pt 0)) Z) (on_e nE Z) tt

pub in_triangle_is : (a b c q : Point) → Vol a b c q ≡ pos 0 → (same_way (normal a b c) (normal a b q) && same_way (normal a b c) (normal b c q) && same_way (normal a b c) (normal c a q)) ≡ in_triangle a b c q
unfolding in_triangle
in_triangle_is a b c q e = ap₂ ◌&&◌ (ap₂ ◌&&◌ (side a b c refl e) (side b c a (normal_turn a b c) (turn_abc a b c q ∙ e))) (side c a b (normal_turn b c a ∙ normal_turn a b c) (turn_abc b c a q ∙ turn_abc a b c q ∙ e))
  where
    side : (u v w : Point) → normal u v w ≡ normal a b c → Vol u v w q ≡ pos 0 → same_way (normal a b c) (normal u v q) ≡ turns (normal a b c) u v q
    side u v w g h = rw (sym g) (same_way_lem u v w q h)
