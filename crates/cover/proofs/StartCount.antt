-- The start: four vectors with sum 0. Their four cones together count every clear place once.
use mathlib.Core.Path.{◌≡◌, refl, sym, ◌∙◌, ap}
use mathlib.Core.Logic.{◌≢◌}
use mathlib.Core.Bool.{Bool}
use mathlib.Core.List.{List, [], ◌∷◌}
use Prim.Native.Nat.{ℕ}
use lib.Dec.{T}
use lib.IntN.{ℤ, pos, neg_ℤ, ◌+ℤ◌, ◌-ℤ◌}
use lib.Signed.{◌<ℤ◌}
use Rattle.laws.specs.Numbers.{eq_z}
use Rattle.laws.specs.Lists.{In}
use Rattle.laws.proofs.Ring.{Ex, o, one, var, ◌:+◌, ◌:-◌, neg, ring}
use Rattle.laws.proofs.Order.{pos_ne, eq_z→eq}
use Rattle.laws.proofs.Certificates.{combine, Eqn, eqn}
use Rattle.laws.proofs.Members.{All}
use Rattle.laws.proofs.Signs.{above, sg, flip, nonzero, balanced, sg_above, sg_neg, sg_nonzero, sg_balanced, balanced_at, Trio, trio, trios, pick_trio, under, by_rules, ◌also◌}
use Rattle.touches.specs.declared.Point.{Point}
use Rattle.volume.proofs.Axes.{Axis, X, Y, Z, on}
use Rattle.volume.proofs.Quote.{Spot, pt, env, on_e, cross_e}
use Rattle.rules.specs.Faces.{Places}
use Rattle.rules.specs.Start.{start_faces}
use Rattle.cover.specs.Cones.{det}
use Rattle.cover.proofs.DetLaws.{D, turn_pos}
use Rattle.cover.proofs.Hits.{counts, hit, hits, flipped, Clear}

-- ---- the signs of three numbers x and of their differences y, each to the next
abbrev rules : Trio → Trio → List Bool
rules x y =
    nonzero x.a ∷ nonzero x.b ∷ nonzero x.c ∷ nonzero y.a ∷ nonzero y.b ∷ nonzero y.c ∷ balanced y.a y.b y.c
    ∷ balanced y.a (flip x.a) x.b ∷ balanced y.b (flip x.b) x.c ∷ balanced y.c (flip x.c) x.a ∷ []

abbrev four : Trio → Trio → ℤ
four x y = counts above x.c x.a x.b +ℤ (counts above y.b (flip y.c) (flip x.c) +ℤ (counts above y.c (flip y.a) (flip x.a) +ℤ (counts above y.a (flip y.b) (flip x.b) +ℤ pos 0)))

abbrev law : Trio → Trio → Bool
law x y = under (rules x y) (eq_z (four x y) (pos 1))

-- the finite check
checked : T (trios λ x. trios λ y. law x y)
checked = tt

each : (x y : Trio) → T (law x y)
each x y = pick_trio (λ y. law x y) (pick_trio (λ x. trios λ y. law x y) checked x) y

-- of three numbers that are not 0 and differ, and 0, one is the least
least : (x y z : ℤ) → x ≢ pos 0 → y ≢ pos 0 → z ≢ pos 0 → x -ℤ y ≢ pos 0 → y -ℤ z ≢ pos 0 → z -ℤ x ≢ pos 0 → four (trio (sg x) (sg y) (sg z)) (trio (sg (x -ℤ y)) (sg (y -ℤ z)) (sg (z -ℤ x))) ≡ pos 1
least x y z hx hy hz h₁ h₂ h₃ = eq_z→eq (four S G) (pos 1) (by_rules (rules S G) (eq_z (four S G) (pos 1)) (each S G) kept)
  where
    S : Trio
    S = trio (sg x) (sg y) (sg z)

    G : Trio
    G = trio (sg (x -ℤ y)) (sg (y -ℤ z)) (sg (z -ℤ x))

    round : (x -ℤ y) +ℤ (y -ℤ z) +ℤ (z -ℤ x) ≡ pos 0
    round = ring (x ∷ y ∷ z ∷ []) ((var 0 :- var 1) :+ (var 1 :- var 2) :+ (var 2 :- var 0)) o tt

    step : (a b : ℤ) → T (balanced (sg (a -ℤ b)) (flip (sg a)) (sg b))
    step a b = balanced_at (a -ℤ b) (neg_ℤ a) b refl (sg_neg a) refl (ring (a ∷ b ∷ []) ((var 0 :- var 1) :+ neg (var 0) :+ var 1) o tt)

    kept : All T (rules S G)
    kept = sg_nonzero x hx also sg_nonzero y hy also sg_nonzero z hz also sg_nonzero (x -ℤ y) h₁ also sg_nonzero (y -ℤ z) h₂ also sg_nonzero (z -ℤ x) h₃
        also sg_balanced (x -ℤ y) (y -ℤ z) (z -ℤ x) round also step x y also step y z also step z x also tt

-- ---- vectors a, b, c, d with sum 0, the points 0 to 3; x is point 4
abbrev pub Zero : Point → Point → Point → Point → Type 0
Zero a b c d = (i : Axis) → on a i +ℤ on b i +ℤ on c i +ℤ on d i ≡ pos 0

zero_turn : {a b c d : Point} → Zero a b c d → Zero b c a d
zero_turn {a} {b} {c} {d} z i = combine (on a i ∷ on b i ∷ on c i ∷ on d i ∷ []) (eqn one (var 0 :+ var 1 :+ var 2 :+ var 3) o ∷ []) (var 1 :+ var 2 :+ var 0 :+ var 3) o tt (z i)

-- the equations of `Zero`, each times a part of u × w
abbrev zeros : Spot → Spot → List Eqn
zeros u w = eqn (cross_e u w).x (at X) o ∷ eqn (cross_e u w).y (at Y) o ∷ eqn (cross_e u w).z (at Z) o ∷ []
  where
    at : Axis → Ex
    at i = on_e (pt 0) i :+ on_e (pt 1) i :+ on_e (pt 2) i :+ on_e (pt 3) i

module _ {a b c d : Point} (z : Zero a b c d) where
  zero_own : det a d b ≡ det a b c
  unfolding det
  zero_own = combine (env (a ∷ b ∷ c ∷ d ∷ [])) (zeros (pt 1) (pt 0)) (D 0 3 1) (D 0 1 2) tt (z X) (z Y) (z Z)

  zero_from : (x : Point) → det a d x ≡ det c a x -ℤ det a b x
  unfolding det
  zero_from x = combine (env (a ∷ b ∷ c ∷ d ∷ x ∷ [])) (zeros (pt 4) (pt 0)) (D 0 3 4) (D 2 0 4 :- D 0 1 4) tt (z X) (z Y) (z Z)

  zero_to : (x : Point) → det d b x ≡ neg_ℤ (det a b x -ℤ det b c x)
  unfolding det
  zero_to x = combine (env (a ∷ b ∷ c ∷ d ∷ x ∷ [])) (zeros (pt 1) (pt 4)) (D 3 1 4) (neg (D 0 1 4 :- D 1 2 4)) tt (z X) (z Y) (z Z)

  -- how the cone over a, d, b counts x
  zero_hit : (x : Point) → pos 0 <ℤ det a b c → hit x a d b ≡ counts above (sg (det c a x -ℤ det a b x)) (flip (sg (det a b x -ℤ det b c x))) (flip (sg (det a b x)))
  unfolding hit
  zero_hit x h = λ i. counts ((ap sg zero_own ∙ sg_above h) i) (sg (zero_from x i)) ((ap sg (zero_to x) ∙ sg_neg (det a b x -ℤ det b c x)) i) (flipped a b x i)

module _ {v : Places} {l : List ℕ} {x : Point} (g : Clear v l x) where
  -- a clear place tells a, b and c apart by d
  zero_apart : (a b c d : ℕ) → In a l → In b l → In d l → Zero (v a) (v b) (v c) (v d) → pos 0 <ℤ det (v a) (v b) (v c) → det (v c) (v a) x -ℤ det (v a) (v b) x ≢ pos 0
  zero_apart a b c d ia ib id z h e = g.off a d b ia id ib (λ f. pos_ne h (sym (zero_own z) ∙ f)) (zero_from z x ∙ e)

  pub start_count : (a b c d : ℕ) → In a l → In b l → In c l → In d l → Zero (v a) (v b) (v c) (v d) → pos 0 <ℤ det (v a) (v b) (v c) → hits v x (start_faces (a ∷ b ∷ c ∷ d ∷ [])) ≡ pos 1
  unfolding hit
  start_count a b c d ia ib ic id z h =
      (λ i. counts (sg_above h i) (sg (det (v a) (v b) x)) (sg (det (v b) (v c) x)) (sg (det (v c) (v a) x)) +ℤ (zero_hit z x h i +ℤ (zero_hit z₁ x h₁ i +ℤ (zero_hit z₂ x h₂ i +ℤ pos 0))))
      ∙ least (det (v b) (v c) x) (det (v c) (v a) x) (det (v a) (v b) x) (g.off b c a ib ic ia (pos_ne h₁)) (g.off c a b ic ia ib (pos_ne h₂)) (g.off a b c ia ib ic (pos_ne h))
      (zero_apart c a b d ic ia id z₂ h₂) (zero_apart a b c d ia ib id z h) (zero_apart b c a d ib ic id z₁ h₁)
    where
      z₁ : Zero (v b) (v c) (v a) (v d)
      z₁ = zero_turn z

      z₂ : Zero (v c) (v a) (v b) (v d)
      z₂ = zero_turn z₁

      h₁ : pos 0 <ℤ det (v b) (v c) (v a)
      h₁ = turn_pos (v a) (v b) (v c) h

      h₂ : pos 0 <ℤ det (v c) (v a) (v b)
      h₂ = turn_pos (v b) (v c) (v a) h₁
