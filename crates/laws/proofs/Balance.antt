-- Numbers that sum to 0 and are not all 0: one of them is above 0, and one below.
use mathlib.Core.Path.{◌≡◌, sym, ◌∙◌, ap, subst}
use mathlib.Core.Logic.{◌⊎◌, inl, inr}
use mathlib.Core.Bool.{not}
use mathlib.Core.List.{List}
use lib.Dec.{T}
use lib.IntN.{ℤ, pos, neg_ℤ, neg_ℤ-neg_ℤ}
use lib.Signed.{◌<ℤ◌, lt_z, lt_z_yes, lt_z_no, <ℤ_irrefl}
use Rattle.laws.specs.Lists.{In, sum_z}
use Rattle.laws.proofs.Order.{neg_mono, neg_pos, neg_neg, not_lt, Sign, minus, null, plus, sign}
use Rattle.laws.proofs.Members.{find}
use Rattle.laws.proofs.Sums.{sum_neg, sum_pos}

module _ {A : Type 0} where
  pub some_above : (g : A → ℤ) (l : List A) → sum_z g l ≡ pos 0 → (((x : A) → In x l → g x ≡ pos 0) → ⊥) → (x : A) × In x l × (pos 0 <ℤ g x)
  some_above g l e n = go (find (λ x. lt_z (pos 0) (g x)) l)
    where
      go : ((x : A) × In x l × T (lt_z (pos 0) (g x))) ⊎ ((x : A) → In x l → T (not (lt_z (pos 0) (g x)))) → (x : A) × In x l × (pos 0 <ℤ g x)
      go (inl r) = (r.0, r.1, lt_z_yes r.2)
      go (inr f) = absurd (n (λ x m. zero x m (sign (g x))))
        where
          zero : (x : A) → In x l → Sign (g x) → g x ≡ pos 0
          zero x m (minus h) = absurd (<ℤ_irrefl (subst (λ (z : ℤ). pos 0 <ℤ z) (sum_neg g l ∙ ap neg_ℤ e) (sum_pos (λ y. neg_ℤ (g y)) l (λ y i. neg_mono {a = g y} {b = pos 0} (lt_z_no (f y i))) m (neg_pos h))))
          zero x m (null h) = h
          zero x m (plus h) = absurd (not_lt (lt_z_no (f x m)) h)

  pub some_below : (g : A → ℤ) (l : List A) → sum_z g l ≡ pos 0 → (((x : A) → In x l → g x ≡ pos 0) → ⊥) → (x : A) × In x l × (g x <ℤ pos 0)
  some_below g l e n =
      let r = some_above (λ x. neg_ℤ (g x)) l (sum_neg g l ∙ ap neg_ℤ e) (λ z. n (λ x m. sym (neg_ℤ-neg_ℤ (g x)) ∙ ap neg_ℤ (z x m))) in
      (r.0, r.1, subst (λ (z : ℤ). z <ℤ pos 0) (neg_ℤ-neg_ℤ (g r.0)) (neg_neg r.2))
