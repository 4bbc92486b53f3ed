-- The border of some faces: SUM, and that the border goes on: where one of its sides ends another starts, and where one starts another ends.
use mathlib.Core.Path.{◌≡◌, refl, sym, ◌∙◌, ap, subst}
use mathlib.Core.Logic.{◌≢◌, ◌⊎◌, inl, inr}
use mathlib.Core.Bool.{Bool, true, false, not}
use mathlib.Core.List.{List, [], ◌∷◌}
use Prim.Native.Nat.{ℕ}
use native.Mathlib.Omega.{arith}
use lib.Dec.{T, eqb, eqb→eq, eqb_refl}
use lib.IntN.{ℤ, pos, neg_ℤ, ◌+ℤ◌, ◌-ℤ◌}
use lib.Signed.{◌≤ℤ◌, ◌<ℤ◌, le_z_yes, lt_z_yes, <ℤ_irrefl}
use Rattle.laws.specs.Lists.{In, Nodup, has, sum_z}
use Rattle.laws.proofs.Integers.{dif_is}
use Rattle.laws.proofs.Order.{zs, pos_is, ≤_refl}
use Rattle.laws.proofs.Ring.{o, one, var, ◌:+◌, ◌:-◌, neg, ring}
use Rattle.laws.proofs.Certificates.{combine, eqn}
use Rattle.laws.proofs.Members.{find, Pw-keep}
use Rattle.laws.proofs.Sums.{sum_pos, sum_ext, sum_neg, sum_rim}
use Rattle.rules.specs.Faces.{Face, Side, corner, reversed, same_side, sides, border}
use Rattle.rules.proofs.SideLaws.{same_sound, same_self}

module _ (v : List Face) where
  pub in_border : {s : Side} → In s (border v) → In s (sides v) × (In (reversed s) (sides v) → ⊥)
  in_border m = Rattle.laws.proofs.Sums.in_rim same_side same_sound same_self reversed (λ s. refl) (sides v) m

  pub border_in : {s : Side} → In s (sides v) → (In (reversed s) (sides v) → ⊥) → In s (border v)
  border_in m f = Rattle.laws.proofs.Sums.rim_in same_side same_sound same_self reversed (λ s. refl) (sides v) m f

  pub border_nodup : Nodup (sides v) → Nodup (border v)
  border_nodup h = Pw-keep (λ s t. s ≢ t) (λ s. not (has same_side (reversed s) (sides v))) (sides v) h

  -- SUM: what turns its sign with the side has the same sum over all sides as over the border
  pub sum_border : (g : Side → ℤ) → ((s : Side) → In s (sides v) → g (reversed s) ≡ neg_ℤ (g s)) → Nodup (sides v) → sum_z g (sides v) ≡ sum_z g (border v)
  sum_border g anti h = sum_rim same_side same_sound same_self reversed (λ s. refl) g (sides v) anti h

-- ---- each touch is the end of as many sides as it is the start of
abbrev end : Bool → Side → ℕ
end true s = s.to
end false s = s.from

dif_neg : (x y : ℤ) → y -ℤ x ≡ neg_ℤ (x -ℤ y)
dif_neg x y = ring (x ∷ y ∷ []) (var 1 :- var 0) (neg (var 0 :- var 1)) tt

round_trip : (a b c r : ℤ) → r ≡ pos 0 → (b -ℤ a) +ℤ ((c -ℤ b) +ℤ ((a -ℤ c) +ℤ r)) ≡ pos 0
round_trip a b c r e = combine (a ∷ b ∷ c ∷ r ∷ []) (eqn one (var 3) o ∷ []) ((var 1 :- var 0) :+ ((var 2 :- var 1) :+ ((var 0 :- var 2) :+ var 3))) o tt e

in_minus_out : (g : ℕ → ℤ) (h : List Face) → sum_z (λ s. g s.to -ℤ g s.from) (sides h) ≡ pos 0
in_minus_out g [] = refl
in_minus_out g (f ∷ h) = round_trip (g (corner f 0)) (g (corner f 1)) (g (corner f 2)) (sum_z (λ s. g s.to -ℤ g s.from) (sides h)) (in_minus_out g h)

balance : (g : ℕ → ℤ) (h : List Face) (b : Bool) → sum_z (λ s. g (end b s) -ℤ g (end (not b) s)) (sides h) ≡ pos 0
balance g h true = in_minus_out g h
balance g h false =
    sum_ext (λ s. g s.from -ℤ g s.to) (λ s. neg_ℤ (g s.to -ℤ g s.from)) (sides h) (λ s m. dif_neg (g s.to) (g s.from))
    ∙ sum_neg (λ s. g s.to -ℤ g s.from) (sides h) ∙ ap neg_ℤ (in_minus_out g h)

turns : (g : ℕ → ℤ) (b : Bool) (s : Side) → g (end b (reversed s)) -ℤ g (end (not b) (reversed s)) ≡ neg_ℤ (g (end b s) -ℤ g (end (not b) s))
turns g true s = dif_neg (g s.to) (g s.from)
turns g false s = dif_neg (g s.from) (g s.to)

-- ---- so, by SUM, at the border too
abbrev count : Bool → ℤ
count true = pos 1
count false = pos 0

count_nonneg : (b : Bool) → pos 0 ≤ℤ count b
count_nonneg true = le_z_yes tt
count_nonneg false = ≤_refl (pos 0)

count_pos : (b : Bool) → T b → pos 0 <ℤ count b
count_pos true t = lt_z_yes tt
count_pos false t = absurd t

count_zero : (b : Bool) → T (not b) → count b ≡ pos 0
count_zero true t = absurd t
count_zero false t = refl

less_none : (x y : ℤ) → y ≡ pos 0 → pos 0 ≤ℤ x → pos 0 ≤ℤ (x -ℤ y)
less_none x y e h = omega (arith, zs, dif_is x y, pos_is 0)

less_none_pos : (x y : ℤ) → y ≡ pos 0 → pos 0 <ℤ x → pos 0 <ℤ (x -ℤ y)
less_none_pos x y e h = omega (arith, zs, dif_is x y, pos_is 0)

module _ (v : List Face) (nd : Nodup (sides v)) (b : Bool) (s : Side) (m : In s (border v)) where
  at : Side → Bool
  at t = eqb (end b s) (end b t)

  against : Side → Bool
  against t = eqb (end b s) (end (not b) t)

  difference : Side → ℤ
  difference t = count (at t) -ℤ count (against t)

  none_left : sum_z difference (border v) ≡ pos 0
  unfolding difference at against
  none_left = sym (sum_border v difference (λ t i. turns (λ i. count (eqb (end b s) i)) b t) nd) ∙ balance (λ i. count (eqb (end b s) i)) v b

  -- with b = true a side that starts where s ends; with b = false one that ends where s starts
  pub goes_on : (t : Side) × In t (border v) × (end (not b) t ≡ end b s)
  unfolding difference at against
  goes_on = go (find against (border v))
    where
      go : ((t : Side) × In t (border v) × T (against t)) ⊎ ((t : Side) → In t (border v) → T (not (against t))) → (t : Side) × In t (border v) × (end (not b) t ≡ end b s)
      go (inl r) = (r.0, r.1, sym (eqb→eq (end b s) (end (not b) r.0) r.2))
      go (inr f) = absurd (<ℤ_irrefl (subst (λ (z : ℤ). pos 0 <ℤ z) none_left (sum_pos difference (border v)
          (λ t i. less_none (count (at t)) (count (against t)) (count_zero (against t) (f t i)) (count_nonneg (at t))) m
          (less_none_pos (count (at s)) (count (against s)) (count_zero (against s) (f s m)) (count_pos (at s) (eqb_refl (end b s)))))))
