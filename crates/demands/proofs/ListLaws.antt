-- Refusals 1, 2 and 3 of a coordinate list, and then what a call says of one that passed them.
use mathlib.Core.Path.{◌≡◌, refl, sym, ap, subst, ◌∙◌}
use mathlib.Core.Logic.{◌↔◌, ◌⊎◌, inl, inr, ◌≢◌}
use mathlib.Core.List.{List}
use Prim.Native.Nat.{ℕ, ◌*◌, ◌%◌, ◌≤◌}
use native.Mathlib.Decide.{dec_le, ℕ_discrete}
use native.Mathlib.Omega.{arith}
use lib.IntN.{ℤ}
use lib.ListN.{length}
use Rattle.std.specs.Prelude.{Result, Ok, Err}
use Rattle.touches.specs.declared.refusal.Refusal.{Refusal}
use Rattle.touches.specs.declared.refusal.Refusal.TheVariants.{CoordinatesNotInThrees, TooManyTouches, CoordinateOutOfRange}
use Rattle.touches.specs.Limits.{most_touches}
use Rattle.touches.specs.Touches.{touch_no, Sound, FirstStray}
use Rattle.touches.specs.Refusals.{too_many_touches, coordinate_out_of_range, number, place as touch_of}
use Rattle.touches.specs.Check.{checked, if_accepted}
use Rattle.touches.proofs.SoundLaws.{accepted_sound, sound_accepted, touch_near}
use Rattle.touches.proofs.CheckLaws.{one_stray, check_ragged, check_many, check_stray}
use Rattle.demands.specs.Demands.{first, never, at0, TooMany, list_order}
use Rattle.touches.proofs.RefusalLaws.{same_refusal}
use Rattle.demands.proofs.FirstLaws.{one_refusal, given_never, unless_so, where_less}

module _ {A : Type 0} where
  -- ---- a call that checks the list first, and then answers x
  module _ (cs : List ℤ) (x : Result A Refusal) (later : Refusal → Type 0) (h : Sound cs → (r : Refusal) → (x ≡ Err r) ↔ later r) where
    abbrev answer : Result A Refusal
    answer = if_accepted (checked cs) x

    -- an equation of the check's answer is one of the call's
    said : {k : Result (List ℤ) Refusal} → checked cs ≡ k → answer ≡ if_accepted k x
    said e = ap (λ (c : Result (List ℤ) Refusal). if_accepted c x) e

    third : length cs % 3 ≡ 0 → length cs ≤ most_touches * 3 → (r : Refusal) → (answer ≡ Err r) ↔ first coordinate_out_of_range (FirstStray cs) later r
    third w f r = go (check_stray cs w f)
      where
        go : Sound cs ⊎ ((k : ℕ) × FirstStray cs k × (checked cs ≡ Err (CoordinateOutOfRange (touch_no k)))) → (answer ≡ Err r) ↔ first coordinate_out_of_range (FirstStray cs) later r
        go (inl d) = ((λ e. inr (nowhere, (h d r).0 (sym passes ∙ e))), from)
          where
            passes : answer ≡ x
            passes = said (sound_accepted cs d)

            nowhere : (k : ℕ) → FirstStray cs k → ⊥
            nowhere k u = u.far (touch_near d k u.among)

            from : first coordinate_out_of_range (FirstStray cs) later r → answer ≡ Err r
            from (inl u) = absurd (nowhere (touch_of r).0 u.1)
            from (inr u) = passes ∙ (h d r).1 u.1
        go (inr s) = ((λ e. to (one_refusal (said s.2) e)), from)
          where
            to : CoordinateOutOfRange (touch_no s.0) ≡ r → first coordinate_out_of_range (FirstStray cs) later r
            to e = inl (ap number (sym e), subst (λ (t : Refusal). FirstStray cs (touch_of t).0) e s.1)

            from : first coordinate_out_of_range (FirstStray cs) later r → answer ≡ Err r
            from (inl u) = said s.2 ∙ ap Err (same_refusal (sym u.0) (one_stray s.1 u.1))
            from (inr u) = absurd (u.0 s.0 s.1)

    second : length cs % 3 ≡ 0 → (r : Refusal) → (answer ≡ Err r) ↔ first too_many_touches (at0 (TooMany cs)) (first coordinate_out_of_range (FirstStray cs) later) r
    second w = where_less (most_touches * 3) (length cs) TooManyTouches answer (first coordinate_out_of_range (FirstStray cs) later) refl (λ l. said (check_many cs w l)) (third w)

    pub of_list : (r : Refusal) → (answer ≡ Err r) ↔ list_order cs later r
    of_list = unless_so (length cs % 3 ≡ 0) CoordinatesNotInThrees answer (first too_many_touches (at0 (TooMany cs)) (first coordinate_out_of_range (FirstStray cs) later)) refl (ℕ_discrete (length cs % 3) 0)
        (λ d. said (check_ragged cs d)) second

  -- ---- a call that checks, and then answers by the list
  module _ (k : Result (List ℤ) Refusal → Result A Refusal) (told : (r : Refusal) → k (Err r) ≡ Err r) (cs : List ℤ) (later : Refusal → Type 0) (h : (r : Refusal) → (k (Ok cs) ≡ Err r) ↔ later r) where
    by_list : k (checked cs) ≡ if_accepted (checked cs) (k (Ok cs))
    by_list = go (checked cs) refl
      where
        go : (c : Result (List ℤ) Refusal) → checked cs ≡ c → k c ≡ if_accepted c (k (Ok cs))
        go (Ok l) e = ap (λ (m : List ℤ). k (Ok m)) (accepted_sound cs l e).same
        go (Err s) e = told s

    pub of_touches : (r : Refusal) → (k (checked cs) ≡ Err r) ↔ list_order cs later r
    of_touches = rw by_list (of_list cs (k (Ok cs)) later (λ d. h))

-- ---- the check itself
pub check_first : (cs : List ℤ) (r : Refusal) → (checked cs ≡ Err r) ↔ list_order cs never r
check_first cs = of_touches (λ c. c) (λ r. refl) cs never (given_never cs)

-- ---- a list to which none of 1, 2 and 3 applies
pub none_applies : (cs : List ℤ) → ((k : ℕ) → at0 (length cs % 3 ≢ 0) k → ⊥) → ((k : ℕ) → at0 (TooMany cs) k → ⊥) → ((k : ℕ) → FirstStray cs k → ⊥) → Sound cs
none_applies cs a b c = whole (ℕ_discrete (length cs % 3) 0)
  where
    all : Sound cs ⊎ ((k : ℕ) × FirstStray cs k × (checked cs ≡ Err (CoordinateOutOfRange (touch_no k)))) → Sound cs
    all (inl d) = d
    all (inr s) = absurd (c s.0 s.1)

    few : length cs % 3 ≡ 0 → Dec (length cs ≤ most_touches * 3) → Sound cs
    few w (yes f) = all (check_stray cs w f)
    few w (no d) = absurd (b 0 (refl, omega (arith, d)))

    whole : Dec (length cs % 3 ≡ 0) → Sound cs
    whole (yes w) = few w (dec_le (length cs) (most_touches * 3))
    whole (no d) = absurd (a 0 (refl, d))
