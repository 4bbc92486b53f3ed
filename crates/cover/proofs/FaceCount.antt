-- One face and a touch in front of it: the face's cone counts a place as the three cones over its sides to that touch do together.
use mathlib.Core.Path.{◌≡◌, sym, ◌∙◌, ap}
use mathlib.Core.Bool.{Bool}
use mathlib.Core.List.{List, [], ◌∷◌}
use Prim.Native.Nat.{ℕ}
use lib.Dec.{T}
use lib.IntN.{ℤ, pos, neg_ℤ, ◌+ℤ◌, ◌*ℤ◌}
use lib.Signed.{◌<ℤ◌}
use Rattle.laws.specs.Numbers.{eq_z}
use Rattle.laws.specs.Lists.{In}
use Rattle.laws.proofs.Order.{pos_ne, eq_z→eq}
use Rattle.laws.proofs.Members.{All}
use Rattle.laws.proofs.Signs.{Sg, above, sg, flip, times, nonzero, follows, rising, balanced, sg_above, sg_neg, sg_mul, sg_nonzero, sg_follows, sg_rising, balanced_at, Trio, trio, trios, pick_trio, under, by_rules, ◌also◌}
use Rattle.touches.specs.declared.Point.{Point}
use Rattle.rules.specs.Faces.{Places}
use Rattle.cover.specs.Cones.{det}
use Rattle.cover.proofs.DetLaws.{det_turn, turn_pos, det_last, det_base, det_square}
use Rattle.cover.proofs.Hits.{counts, hit, flipped, Clear}

-- ---- k and x over the base, q = k × x: which signs they can have, and what is to be shown
abbrev rules : Trio → Trio → Trio → List Bool
rules k x q =
    rising k.a k.b k.c ∷ nonzero x.a ∷ nonzero x.b ∷ nonzero x.c
    ∷ balanced q.a (flip (times k.c x.b)) (times k.b x.c)
    ∷ balanced q.b (flip (times k.a x.c)) (times k.c x.a)
    ∷ balanced q.c (flip (times k.b x.a)) (times k.a x.b)
    ∷ balanced (times x.a q.a) (times x.b q.b) (times x.c q.c)
    ∷ follows k.b q.a ∷ follows k.c q.a ∷ follows k.c q.b ∷ follows k.a q.b ∷ follows k.a q.c ∷ follows k.b q.c ∷ []

abbrev whole : Trio → ℤ
whole x = counts above x.c x.a x.b

abbrev parts : Trio → Trio → Trio → ℤ
parts k x q = counts k.c x.c (flip q.b) q.a +ℤ counts k.a x.a (flip q.c) q.b +ℤ counts k.b x.b (flip q.a) q.c

abbrev law : Trio → Trio → Trio → Bool
law k x q = under (rules k x q) (eq_z (whole x) (parts k x q))

-- the finite check
checked : T (trios λ k. trios λ x. trios λ q. law k x q)
checked = tt

each : (k x q : Trio) → T (law k x q)
each k x q = pick_trio (λ q. law k x q) (pick_trio (λ x. trios λ q. law k x q) (pick_trio (λ k. trios λ x. trios λ q. law k x q) checked k) x) q

-- ---- they do have such signs
over_base : (a b c k x : Point) → pos 0 <ℤ det a b c → T (balanced (sg (det k a x)) (flip (times (sg (det a b k)) (sg (det c a x)))) (times (sg (det c a k)) (sg (det a b x))))
over_base a b c k x h = balanced_at (det a b c *ℤ det k a x) (neg_ℤ (det a b k *ℤ det c a x)) (det c a k *ℤ det a b x)
    (sg_mul (det a b c) (det k a x) ∙ ap (λ (s : Sg). times s (sg (det k a x))) (sg_above h)) (sg_neg (det a b k *ℤ det c a x) ∙ ap flip (sg_mul (det a b k) (det c a x))) (sg_mul (det c a k) (det a b x)) (det_base a b c k x)

square : (a b c k x : Point) → T (balanced (times (sg (det b c x)) (sg (det k a x))) (times (sg (det c a x)) (sg (det k b x))) (times (sg (det a b x)) (sg (det k c x))))
square a b c k x = balanced_at (det b c x *ℤ det k a x) (det c a x *ℤ det k b x) (det a b x *ℤ det k c x) (sg_mul (det b c x) (det k a x)) (sg_mul (det c a x) (det k b x)) (sg_mul (det a b x) (det k c x)) (det_square a b c k x)

-- a clear place x, and touches of the list l: where det t u r is not 0, x is off the planes of two of them
module _ {v : Places} {l : List ℕ} {x : Point} (g : Clear v l x) where
  off : {t u r : ℕ} → In t l → In u l → In r l → pos 0 <ℤ det (v t) (v u) (v r) → T (nonzero (sg (det (v t) (v u) x)))
  off {t} {u} {r} i j m h = sg_nonzero (det (v t) (v u) x) (g.off t u r i j m (pos_ne h))

  ahead : {t u r : ℕ} → In t l → In u l → In r l → T (follows (sg (det (v t) (v u) (v r))) (sg (det (v r) (v t) x)))
  ahead {t} {u} {r} i j m = sg_follows (det (v t) (v u) (v r)) (det (v r) (v t) x) (λ n. g.off r t u m i j (λ e. n (det_turn (v r) (v t) (v u) ∙ e)))

  behind : {t u r : ℕ} → In t l → In u l → In r l → T (follows (sg (det (v t) (v u) (v r))) (sg (det (v r) (v u) x)))
  behind {t} {u} {r} i j m = sg_follows (det (v t) (v u) (v r)) (det (v r) (v u) x) (λ n. g.off r u t m j i (λ e. n (det_last (v r) (v u) (v t) ∙ ap neg_ℤ e)))

  -- the face a, b, c, and k in front of it: its parts over the base have a sum above 0
  pub face_counts : (a b c k : ℕ) → In a l → In b l → In c l → In k l → pos 0 <ℤ det (v a) (v b) (v c) → pos 0 <ℤ (det (v b) (v c) (v k) +ℤ det (v c) (v a) (v k) +ℤ det (v a) (v b) (v k)) →
      hit x (v a) (v b) (v c) ≡ hit x (v a) (v b) (v k) +ℤ hit x (v b) (v c) (v k) +ℤ hit x (v c) (v a) (v k)
  unfolding hit
  face_counts a b c k ia ib ic ik h front =
      (λ i. counts (sg_above h i) (sg (det (v a) (v b) x)) (sg (det (v b) (v c) x)) (sg (det (v c) (v a) x)))
      ∙ eq_z→eq (whole X) (parts K X Q) (by_rules (rules K X Q) (eq_z (whole X) (parts K X Q)) (each K X Q) kept)
      ∙ (λ i. counts K.c X.c (sym (flipped (v k) (v b) x) i) Q.a +ℤ counts K.a X.a (sym (flipped (v k) (v c) x) i) Q.b +ℤ counts K.b X.b (sym (flipped (v k) (v a) x) i) Q.c)
    where
      h₁ : pos 0 <ℤ det (v b) (v c) (v a)
      h₁ = turn_pos (v a) (v b) (v c) h

      h₂ : pos 0 <ℤ det (v c) (v a) (v b)
      h₂ = turn_pos (v b) (v c) (v a) h₁

      K : Trio
      K = trio (sg (det (v b) (v c) (v k))) (sg (det (v c) (v a) (v k))) (sg (det (v a) (v b) (v k)))

      X : Trio
      X = trio (sg (det (v b) (v c) x)) (sg (det (v c) (v a) x)) (sg (det (v a) (v b) x))

      Q : Trio
      Q = trio (sg (det (v k) (v a) x)) (sg (det (v k) (v b) x)) (sg (det (v k) (v c) x))

      kept : All T (rules K X Q)
      kept =
          sg_rising (det (v b) (v c) (v k)) (det (v c) (v a) (v k)) (det (v a) (v b) (v k)) front
          also off ib ic ia h₁ also off ic ia ib h₂ also off ia ib ic h
          also over_base (v a) (v b) (v c) (v k) x h also over_base (v b) (v c) (v a) (v k) x h₁ also over_base (v c) (v a) (v b) (v k) x h₂ also square (v a) (v b) (v c) (v k) x
          also behind ic ia ik also ahead ia ib ik also behind ia ib ik also ahead ib ic ik also behind ib ic ik also ahead ic ia ik also tt
