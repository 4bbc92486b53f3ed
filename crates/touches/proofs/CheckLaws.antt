-- The check by its reasons: which list is refused 1, 2 or 3, and at which touch.
use mathlib.Core.Path.{◌≡◌, refl, sym, ap, subst, ◌∙◌}
use mathlib.Core.Logic.{◌⊎◌, inl, inr, ◌≢◌}
use mathlib.Core.Bool.{Bool, true, false}
use mathlib.Core.List.{List, [], ◌∷◌}
use Prim.Native.Nat.{ℕ, zero, suc, ◌+◌, ◌*◌, ◌/◌, ◌%◌, ◌<◌, ◌≤◌}
use native.Mathlib.Decide.{dec_le}
use native.Mathlib.Omega.{arith}
use borrow.Author.Tests.{eq-eqb, ne_eqb, le-leb, lt-leb}
use lib.IntN.{ℤ, pos}
use lib.ListN.{length, get_or}
use Rattle.laws.specs.Numbers.{Within}
use Rattle.touches.specs.declared.TouchNo.{TouchNo}
use Rattle.std.specs.Prelude.{Option, None, Some, Err}
use Rattle.touches.specs.declared.refusal.Refusal.TheVariants.{CoordinatesNotInThrees, TooManyTouches, CoordinateOutOfRange}
use Rattle.touches.specs.Limits.{most_touches, reach, in_range}
use Rattle.touches.specs.Touches.{touch, touch_no, Near, Sound, FirstStray}
use Rattle.touches.specs.Check.{pick, stray_from, of_stray, checked}
use Rattle.touches.proofs.SoundLaws.{range_within, within_range, no_stray}

-- ---- the first coordinate out of range
-- it is number `at` of cs, and k is its touch, the list's first being coordinate number i
record FirstOut (i : ℕ) (cs : List ℤ) (k : TouchNo) : Type 0 where
  at : ℕ
  among : at < length cs
  of : k ≡ touch_no ((i + at) / 3)
  out : in_range (get_or cs at (pos 0)) ≡ false
  earlier : (m : ℕ) → m < at → in_range (get_or cs m (pos 0)) ≡ true

first_out : (i : ℕ) (cs : List ℤ) (k : TouchNo) → stray_from i cs ≡ Some k → FirstOut i cs k
unfolding stray_from
first_out i [] k e = let z : ◌≡◌ {A = ℕ} 0 1 = cc in absurd (omega arith)
first_out i (x ∷ cs) k e = go (λ f. first_out (suc i) cs k f) (in_range x) refl e
  where
    go : (stray_from (suc i) cs ≡ Some k → FirstOut (suc i) cs k) → (b : Bool) → in_range x ≡ b → pick b (stray_from (suc i) cs) (Some (touch_no (i / 3))) ≡ Some k → FirstOut i (x ∷ cs) k
    go later false f g =
        let t : touch_no (i / 3) ≡ k = cc in
        let z : i + 0 ≡ i = omega arith in
        record { at = 0; among = omega arith; of = sym t ∙ ap (λ (j : ℕ). touch_no (j / 3)) (sym z); out = f; earlier = λ m l. absurd (omega arith) }
    go later true f g =
        let u = later g in
        let z : suc i + u.at ≡ i + suc u.at = omega arith in
        record { at = suc u.at; among = omega (arith, u.among); of = u.of ∙ ap (λ (j : ℕ). touch_no (j / 3)) z; out = u.out; earlier = before u }
      where
        before : (u : FirstOut (suc i) cs k) (m : ℕ) → m < suc u.at → in_range (get_or (x ∷ cs) m (pos 0)) ≡ true
        before u zero l = f
        before u (suc m) l = u.earlier m (omega arith)

-- ---- the first touch out of range
-- a coordinate of a touch in range is in range
of_touch : (cs : List ℤ) (j : ℕ) → Near (touch cs (j / 3)) → Within reach (get_or cs j (pos 0))
of_touch cs j h = go (j % 3) (omega arith) (omega arith)
  where
    at : {i : ℕ} → Within reach (get_or cs i (pos 0)) → j ≡ i → Within reach (get_or cs j (pos 0))
    at w e = rw e w

    go : (m : ℕ) → j ≡ j / 3 * 3 + m → m < 3 → Within reach (get_or cs j (pos 0))
    go zero e l = at h.x (omega arith)
    go (suc zero) e l = at h.y (omega arith)
    go (suc (suc zero)) e l = at h.z (omega arith)
    go (suc (suc (suc m))) e l = absurd (omega arith)

stray_first : (cs : List ℤ) (k : TouchNo) → length cs % 3 ≡ 0 → stray_from 0 cs ≡ Some k → FirstStray cs k.0
stray_first cs k w e = subst (FirstStray cs) (sym place) (record { among = omega (arith, o.among); far = far; earlier = earlier })
  where
    o : FirstOut 0 cs k
    o = first_out 0 cs k e

    j : ℕ
    j = o.at

    place : k.0 ≡ j / 3
    place = let z : 0 + j ≡ j = omega arith in ap (λ (t : TouchNo). t.0) o.of ∙ ap (λ (i : ℕ). i / 3) z

    far : Near (touch cs (j / 3)) → ⊥
    far h = let e = within_range (get_or cs j (pos 0)) (of_touch cs j h) in let f = o.out in let z : ◌≡◌ {A = ℕ} 0 1 = cc in omega arith

    near : (i : ℕ) → i < j → Within reach (get_or cs i (pos 0))
    near i l = range_within (get_or cs i (pos 0)) (o.earlier i l)

    earlier : (t : ℕ) → t < j / 3 → Near (touch cs t)
    earlier t l = record { x = near (t * 3) (omega arith); y = near (t * 3 + 1) (omega arith); z = near (t * 3 + 2) (omega arith) }

pub one_stray : {cs : List ℤ} {k l : ℕ} → FirstStray cs k → FirstStray cs l → k ≡ l
one_stray {cs} {k} {l} u v = go (dec_le k l) (dec_le l k)
  where
    go : Dec (k ≤ l) → Dec (l ≤ k) → k ≡ l
    go (yes a) (yes b) = omega arith
    go (no a) b = absurd (v.far (u.earlier l (omega (arith, a))))
    go (yes a) (no b) = absurd (u.far (v.earlier k (omega (arith, b))))

-- ---- the check
module _ (cs : List ℤ) where
  pub check_ragged : length cs % 3 ≢ 0 → checked cs ≡ Err CoordinatesNotInThrees
  check_ragged d = simp (ne_eqb (length cs % 3) 0 d)

  module _ (w : length cs % 3 ≡ 0) where
    pub check_many : most_touches * 3 < length cs → checked cs ≡ Err TooManyTouches
    check_many l = simp (eq-eqb (length cs % 3) 0 w, lt-leb (length cs) (most_touches * 3) l)

    -- a list of at most 64 whole touches has all in range, or is refused at the first that is not
    pub check_stray : length cs ≤ most_touches * 3 → Sound cs ⊎ ((k : ℕ) × FirstStray cs k × (checked cs ≡ Err (CoordinateOutOfRange (touch_no k))))
    check_stray f = go (stray_from 0 cs) refl
      where
        late : checked cs ≡ of_stray cs (stray_from 0 cs)
        late = simp (eq-eqb (length cs % 3) 0 w, le-leb (length cs) (most_touches * 3) f)

        go : (s : Option TouchNo) → stray_from 0 cs ≡ s → Sound cs ⊎ ((k : ℕ) × FirstStray cs k × (checked cs ≡ Err (CoordinateOutOfRange (touch_no k))))
        go None e = inl (record { whole = w; few = f; near = no_stray 0 cs e })
        go (Some k) e = inr (k.0, stray_first cs k w e, late ∙ ap (of_stray cs) e)
