-- One refusal and those after it, for the answer of a call.
use mathlib.Core.Path.{◌≡◌, refl, sym, ap, ◌∙◌}
use mathlib.Core.Logic.{◌↔◌, ◌⊎◌, inl, inr}
use mathlib.Core.Bool.{Bool, true, false}
use Prim.Native.Nat.{ℕ, ◌<◌, ◌≤◌}
use native.Mathlib.Decide.{dec_le}
use native.Mathlib.Omega.{arith}
use Rattle.std.specs.Prelude.{Result, Ok, Err}
use Rattle.touches.specs.declared.refusal.Refusal.{Refusal}
use Rattle.touches.specs.Refusals.{number, place as touch_of}
use Rattle.touches.specs.Check.{pick}
use Rattle.demands.specs.Demands.{first, never, at0}
use Rattle.touches.proofs.RefusalLaws.{same_refusal}

-- the test b says whether E holds
pub record Tests (E : Type 0) (b : Bool) : Type 0 where
  pub told : b ≡ true → E
  pub holds : E → b ≡ true

module _ {E : Type 0} where
  pub decided : {b : Bool} → Tests E b → Dec E
  decided {b} t = go b t.told t.holds
    where
      go : (b : Bool) → (b ≡ true → E) → (E → b ≡ true) → Dec E
      go true to from = yes (to refl)
      go false to from = no (λ e. let f = from e in cc)

  pub failed : {b : Bool} → Tests E b → (E → ⊥) → b ≡ false
  failed {b} t d = go b t.told
    where
      go : (b : Bool) → (b ≡ true → E) → b ≡ false
      go true to = absurd (d (to refl))
      go false to = refl

-- of `first`, where it is not this number: the later ones decide
pub past : {A B C : Type 0} → (A → ⊥) → A ⊎ (B × C) → C
past d (inl a) = absurd (d a)
past d (inr u) = u.1

module _ {A : Type 0} where
  -- one answer is one refusal
  pub one_refusal : {x : Result A Refusal} {r s : Refusal} → x ≡ Err r → x ≡ Err s → r ≡ s
  one_refusal e f = cc

  -- what is given is no refusal
  pub given_never : (a : A) (r : Refusal) → (Ok a ≡ Err r) ↔ never r
  given_never a r = ((λ e. cc), (λ u. absurd u))

  -- s, which speaks of no touch, is given where C holds
  pub where_so : (C : Type 0) (s : Refusal) (x : Result A Refusal) (later : Refusal → Type 0) → (touch_of s).0 ≡ 0 → Dec C → (C → x ≡ Err s) → ((C → ⊥) → (r : Refusal) → (x ≡ Err r) ↔ later r)
      → (r : Refusal) → (x ≡ Err r) ↔ first (number s) (at0 C) later r
  where_so C s x later z (yes c) so after r = (to, from)
    where
      to : x ≡ Err r → first (number s) (at0 C) later r
      to e = let t : r ≡ s = one_refusal e (so c) in inl (ap number t, (ap (λ (u : Refusal). (touch_of u).0) t ∙ z, c))

      from : first (number s) (at0 C) later r → x ≡ Err r
      from (inl u) = so c ∙ ap Err (same_refusal (sym u.0) (z ∙ sym u.1.0))
      from (inr u) = absurd (u.0 0 (refl, c))
  where_so C s x later z (no d) so after r = (to, from)
    where
      to : x ≡ Err r → first (number s) (at0 C) later r
      to e = inr ((λ k u. d u.1), (after d r).0 e)

      from : first (number s) (at0 C) later r → x ≡ Err r
      from (inl u) = absurd (d u.1.1)
      from (inr u) = (after d r).1 u.1

  -- s is given unless E holds
  pub unless_so : (E : Type 0) (s : Refusal) (x : Result A Refusal) (later : Refusal → Type 0) → (touch_of s).0 ≡ 0 → Dec E → ((E → ⊥) → x ≡ Err s) → (E → (r : Refusal) → (x ≡ Err r) ↔ later r)
      → (r : Refusal) → (x ≡ Err r) ↔ first (number s) (at0 (E → ⊥)) later r
  unless_so E s x later z (yes e) so after = where_so (E → ⊥) s x later z (no (λ d. d e)) (λ d. absurd (d e)) (λ d. after e)
  unless_so E s x later z (no d) so after = where_so (E → ⊥) s x later z (yes d) (λ c. so d) (λ c. absurd (c d))

  -- s is given where a is too small for b
  pub where_less : (a b : ℕ) (s : Refusal) (x : Result A Refusal) (later : Refusal → Type 0) → (touch_of s).0 ≡ 0 → (a < b → x ≡ Err s) → (b ≤ a → (r : Refusal) → (x ≡ Err r) ↔ later r)
      → (r : Refusal) → (x ≡ Err r) ↔ first (number s) (at0 (a < b)) later r
  where_less a b s x later z so after = go (dec_le b a)
    where
      go : Dec (b ≤ a) → (r : Refusal) → (x ≡ Err r) ↔ first (number s) (at0 (a < b)) later r
      go (no f) = let l : a < b = omega (arith, f) in where_so (a < b) s x later z (yes l) so (λ c. absurd (c l))
      go (yes l) = where_so (a < b) s x later z (no (λ k. omega arith)) so (λ c. after l)

  -- a test gives the answer y, or s
  pub tested : {E : Type 0} {b : Bool} → Tests E b → (s : Refusal) (y : Result A Refusal) (later : Refusal → Type 0) → (touch_of s).0 ≡ 0 → ((r : Refusal) → (y ≡ Err r) ↔ later r)
      → (r : Refusal) → (pick b y (Err s) ≡ Err r) ↔ first (number s) (at0 (E → ⊥)) later r
  tested {E} {b} t s y later z h =
      unless_so E s (pick b y (Err s)) later z (decided t) (λ d. ap (λ (c : Bool). pick c y (Err s)) (failed t d)) (λ e. rw (t.holds e) h)
