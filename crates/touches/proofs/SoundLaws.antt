-- A list that the check accepts is sound, and a sound list is accepted; a coordinate is in range exactly if it is at most the reach in size.
use mathlib.Core.Path.{◌≡◌, refl, ◌∙◌, ap}
use mathlib.Core.Bool.{Bool, true, false, ◌&&◌}
use mathlib.Core.List.{List, [], ◌∷◌}
use Prim.Native.Nat.{ℕ, zero, suc, ◌+◌, ◌-◌, ◌*◌, ◌/◌, ◌%◌, ◌<◌, ◌≤◌}
use native.Mathlib.Omega.{arith}
use lib.Dec.{leb, eqb, leb→le, le→leb, lit<}
use lib.IntN.{ℤ, pos, negsuc}
use lib.ListN.{length, get_or}
use borrow.Author.Tests.{eq-eqb, le-leb, eqb-true, leb-true}
use mir.Syntax.{w64}
use mir.Val.{to_z, of_z}
use Rattle.std.proofs.lemmas.Int.{to_z-of_z}
use Rattle.laws.specs.Numbers.{Within}
use Rattle.laws.proofs.WithinLaws.{within_fits}
use Rattle.laws.proofs.Tests.{is_true, T_of, and_both, both_and}
use Rattle.touches.specs.Limits.{most_touches, reach, in_range, place_in_range}
use Rattle.touches.specs.Touches.{touch_count, touch_no, Near, Sound, touch}
use Rattle.touches.specs.Check.{pick, stray_from, of_stray, checked, place_checked}
use Rattle.touches.specs.declared.Point.{Point}
use Rattle.touches.specs.declared.TouchNo.{TouchNo}
use Rattle.std.specs.Prelude.{Option, None, Some, Ok, Err}
use Rattle.touches.specs.declared.refusal.Refusal.TheVariants.{CoordinatesNotInThrees, TooManyTouches, PlaceOutOfRange}

-- ---- one coordinate
pub range_within : (z : ℤ) → in_range z ≡ true → Within reach z
unfolding in_range
range_within (pos n) e = record { within = leb→le n reach (T_of e) }
range_within (negsuc n) e = let m = reach - 1 in record { within = omega (arith, leb→le n m (and_both (leb n m) true (T_of e)).0) }

pub within_range : (z : ℤ) → Within reach z → in_range z ≡ true
unfolding in_range
within_range (pos n) h = is_true (leb n reach) (le→leb n reach h.within)
within_range (negsuc n) h = let m = reach - 1 in is_true (leb n m && true) (both_and (leb n m) true (le→leb n m (omega (arith, h.within))) tt)

-- ---- one place
pub place_near : (q : Point) → place_in_range q ≡ true → Near q
place_near q e =
    let b = and_both (in_range q.x && in_range q.y) (in_range q.z) (T_of e) in
    let a = and_both (in_range q.x) (in_range q.y) b.0 in
    record {
      x = range_within q.x (is_true (in_range q.x) a.0);
      y = range_within q.y (is_true (in_range q.y) a.1);
      z = range_within q.z (is_true (in_range q.z) b.1);
    }

pub near_place : (q : Point) → Near q → place_in_range q ≡ true
near_place q s =
    let two = both_and (in_range q.x) (in_range q.y) (T_of (within_range q.x s.x)) (T_of (within_range q.y s.y)) in
    is_true (place_in_range q) (both_and (in_range q.x && in_range q.y) (in_range q.z) two (T_of (within_range q.z s.z)))

pub place_passed : (q r : Point) → place_checked q ≡ Ok r → (r ≡ q) × (place_in_range q ≡ true)
place_passed q r e = go (place_in_range q) refl e
  where
    go : (b : Bool) → place_in_range q ≡ b → pick b (Ok q) (Err PlaceOutOfRange) ≡ Ok r → (r ≡ q) × (place_in_range q ≡ true)
    go true g e = (cc, g)
    go false g e = cc

-- the three numbers as the machine holds them
pub near_held : (q : Point) → Near q → Near (record { x = to_z w64 (of_z w64 q.x); y = to_z w64 (of_z w64 q.y); z = to_z w64 (of_z w64 q.z) })
near_held q s = record { x = held s.x; y = held s.y; z = held s.z }
  where
    held : {z : ℤ} → Within reach z → Within reach (to_z w64 (of_z w64 z))
    held {z} h = rw (to_z-of_z w64 z (within_fits w64 (lit< tt) h)) h

-- ---- the whole list
pub no_stray : (i : ℕ) (cs : List ℤ) → stray_from i cs ≡ None → (k : ℕ) → k < length cs → Within reach (get_or cs k (pos 0))
unfolding stray_from
no_stray i [] e k h = absurd (omega arith)
no_stray i (x ∷ cs) e k h = go (λ f j. no_stray (suc i) cs f j) (in_range x) refl e k h
  where
    go : (stray_from (suc i) cs ≡ None → (j : ℕ) → j < length cs → Within reach (get_or cs j (pos 0))) → (b : Bool) → in_range x ≡ b → pick b (stray_from (suc i) cs) (Some (touch_no (i / 3))) ≡ None → (k : ℕ) → k < suc (length cs) → Within reach (get_or (x ∷ cs) k (pos 0))
    go n true r e zero h = range_within x r
    go n true r e (suc k) h = n e k (omega arith)
    go n false r e k h = let z : ◌≡◌ {A = ℕ} 0 1 = cc in absurd (omega arith)

stray_nowhere : (i : ℕ) (cs : List ℤ) → ((k : ℕ) → k < length cs → Within reach (get_or cs k (pos 0))) → stray_from i cs ≡ None
unfolding stray_from
stray_nowhere i [] h = refl
stray_nowhere i (x ∷ cs) h = ap (λ (b : Bool). pick b (stray_from (suc i) cs) (Some (touch_no (i / 3)))) (within_range x (h 0 (omega arith))) ∙ stray_nowhere (suc i) cs (λ k l. h (suc k) (omega arith))

pub record Passed (cs l : List ℤ) : Type 0 where
  pub sound : Sound cs
  pub same : l ≡ cs

pub accepted_sound : (cs l : List ℤ) → checked cs ≡ Ok l → Passed cs l
accepted_sound cs l e = whole (eqb (length cs % 3) 0) refl e
  where
    stray : length cs % 3 ≡ 0 → length cs ≤ most_touches * 3 → (s : Option TouchNo) → stray_from 0 cs ≡ s → of_stray cs s ≡ Ok l → Passed cs l
    stray w f None g e = record { sound = record { whole = w; few = f; near = no_stray 0 cs g }; same = cc }
    stray w f (Some k) g e = cc

    few : length cs % 3 ≡ 0 → (b : Bool) → leb (length cs) (most_touches * 3) ≡ b → pick b (of_stray cs (stray_from 0 cs)) (Err TooManyTouches) ≡ Ok l → Passed cs l
    few w true g e = stray w (leb-true (length cs) (most_touches * 3) g) (stray_from 0 cs) refl e
    few w false g e = cc

    whole : (b : Bool) → eqb (length cs % 3) 0 ≡ b → pick b (pick (leb (length cs) (most_touches * 3)) (of_stray cs (stray_from 0 cs)) (Err TooManyTouches)) (Err CoordinatesNotInThrees) ≡ Ok l → Passed cs l
    whole true g e = few (eqb-true (length cs % 3) 0 g) (leb (length cs) (most_touches * 3)) refl e
    whole false g e = cc

pub sound_accepted : (cs : List ℤ) → Sound cs → checked cs ≡ Ok cs
sound_accepted cs s = simp (eq-eqb (length cs % 3) 0 s.whole, le-leb (length cs) (most_touches * 3) s.few, stray_nowhere 0 cs s.near)

-- ---- one touch of a sound list
module _ {cs : List ℤ} (s : Sound cs) (k : ℕ) (h : k < touch_count cs) where
  inside : (i : ℕ) → i < 3 → k * 3 + i < length cs
  inside i l = omega arith

  pub touch_near : Near (touch cs k)
  touch_near = record { x = s.near (k * 3) (omega (arith, inside 0 (omega arith))); y = s.near (k * 3 + 1) (inside 1 (omega arith)); z = s.near (k * 3 + 2) (inside 2 (omega arith)) }
