-- Demand 3 of the calls: two accepted builds, the second with more touches at its end.
use mathlib.Core.Path.{◌≡◌, refl, sym, ap, subst, ◌∙◌}
use mathlib.Core.Logic.{◌↔◌, ◌⊎◌, inr}
use mathlib.Core.Bool.{Bool, true, false}
use mathlib.Core.List.{List, ◌++◌}
use Prim.Native.Nat.{ℕ, ◌+◌, ◌%◌, ◌<◌}
use native.Mathlib.Omega.{arith}
use lib.IntN.{ℤ}
use lib.Signed.{◌≤ℤ◌, ◌<ℤ◌}
use lib.ListN.{length, length-append}
use Rattle.std.specs.Prelude.{Result, Ok, Err}
use Rattle.laws.proofs.Firsts.{no_some}
use Rattle.touches.specs.declared.FaceNo.{FaceNo}
use Rattle.touches.specs.declared.Point.{Point}
use Rattle.touches.specs.declared.refusal.Refusal.{Refusal}
use Rattle.touches.specs.declared.refusal.Refusal.TheVariants.{AllTouchesOnOnePlane, NoSuchFace, PlaceOutOfRange}
use Rattle.touches.specs.Limits.{place_in_range}
use Rattle.touches.specs.Touches.{touch, touch_count, face_no, Sound}
use Rattle.touches.specs.Check.{pick, checked, if_accepted}
use Rattle.touches.proofs.SoundLaws.{near_place, touch_near}
use Rattle.touches.proofs.JoinLaws.{join_count, join_second}
use Rattle.rules.specs.Faces.{Face}
use Rattle.rules.specs.Building.{volume}
use Rattle.rules.specs.Placing.{outside, lies}
use Rattle.rules.specs.Demands.{OnOrInside, Growth}
use Rattle.rules.proofs.Theorems.{flat_exact, one_result, inside_stays, lists_grow, lists_rise, lists_same}
use Rattle.table.specs.Table.{lent, faces_in, usable}
use Rattle.hull.specs.Build.{hull_with, built}
use Rattle.hull.specs.Place.{placed_by, placed}
use Rattle.hull.specs.declared.place.Placed.{Placed}
use Rattle.hull.specs.declared.place.Placed.TheVariants.{On, Inside}
use Rattle.hull.proofs.Inversion.{Inverted, inverted}
use Rattle.hull.proofs.CallLaws.{by_inside, by_outside}
use Rattle.demands.specs.Demands.{front, place, SomeOutside, Grows}
use Rattle.demands.proofs.PlacedLaws.{hull_within}
use Rattle.demands.proofs.BuiltLaws.{front_is, place_is, flat_to}

-- a place that was not refused is in range
in_range : (cs : List ℤ) (t : List ℕ) (q : Point) {p : Placed} → placed cs t q ≡ Ok p → place_in_range q ≡ true
in_range cs t q {p} e = go (checked cs) (usable (touch_count cs) t) (place_in_range q) e
  where
    go : (k : Result (List ℤ) Refusal) (u b : Bool) → if_accepted k (pick u (pick b (placed_by (lies (touch cs) (faces_in t) q)) (Err PlaceOutOfRange)) (Err NoSuchFace)) ≡ Ok p → b ≡ true
    go (Err r) u b e = cc
    go (Ok l) false b e = cc
    go (Ok l) true false e = cc
    go (Ok l) true true e = refl

-- added touches come in whole threes
added_whole : (L M : List ℤ) → Sound L → Sound (L ++ M) → length M % 3 ≡ 0
added_whole L M d D = omega (arith, length-append L M, d.whole, D.whole)

module _ (L M : List ℤ) {old new : List ℕ} {n m : ℕ} {v w : ℤ} {h g : List Face} (i : Inverted L old n v h) (j : Inverted (L ++ M) new m w g) where
  whole_L : length L % 3 ≡ 0
  whole_L = i.sound.whole

  whole_M : length M % 3 ≡ 0
  whole_M = added_whole L M i.sound j.sound

  -- the hull that grew from L's is the one that building gave
  abbrev grown : List Face
  grown = (lists_grow L M whole_L whole_M i.is).0

  is_grown : g ≡ grown
  is_grown = one_result j.is (lists_grow L M whole_L whole_M i.is).1

  growth : Growth (touch L) (touch (L ++ M)) (touch_count L) (touch_count M) h grown
  growth = (lists_grow L M whole_L whole_M i.is).2

  second : (q : Point) → place_in_range q ≡ true → place (L ++ M) new q ≡ placed_by (lies (touch (L ++ M)) grown q)
  second q r = place_is j q r ∙ ap (λ (f : List Face). placed_by (lies (touch (L ++ M)) f q)) is_grown

  inside_is : (q : Point) → place L old q ≡ Ok Inside → place (L ++ M) new q ≡ Ok Inside
  inside_is q a = let r = in_range L (front L old) q a in
      second q r ∙ ap placed_by (inside_stays growth q (by_inside (lies (touch L) h q) (sym (place_is i q r) ∙ a)))

  on_is : (q : Point) (k : FaceNo) → place L old q ≡ Ok (On k) → (place (L ++ M) new q ≡ Ok Inside) ⊎ ((f : FaceNo) × (place (L ++ M) new q ≡ Ok (On f)))
  on_is q k a = let r = in_range L (front L old) q a in
      (hull_within j q r).1 (subst (λ (f : List Face). OnOrInside (touch (L ++ M)) f q) (sym is_grown) (growth.on q ((hull_within i q r).0 (inr (k, a)))))

  sum_grown : w ≡ volume (touch (L ++ M)) grown
  sum_grown = j.sum ∙ ap (volume (touch (L ++ M))) is_grown

  keeps_is : v ≤ℤ w
  keeps_is = subst (λ (x : ℤ). x ≤ℤ w) (sym i.sum) (subst (λ (y : ℤ). volume (touch L) h ≤ℤ y) (sym sum_grown) growth.keeps)

  -- an added touch is outside by the answer exactly if it is by the rules
  abbrev RuleOutside : Type 0
  RuleOutside = (t : ℕ) × (t < touch_count M) × (k : ℕ) × (d : ℤ) × (lies (touch L) h (touch M t) ≡ outside k d)

  added_near : (t : ℕ) → t < touch_count M → place_in_range (touch M t) ≡ true
  added_near t l =
      let k : touch_count L + t < touch_count (L ++ M) = omega (arith, join_count L M whole_L whole_M) in
      subst (λ (q : Point). place_in_range q ≡ true) (join_second L M whole_L whole_M t) (near_place (touch (L ++ M) (touch_count L + t)) (touch_near j.sound (touch_count L + t) k))

  to_call : RuleOutside → SomeOutside L old M
  to_call u = (u.0, u.1, face_no u.2, u.3, place_is i (touch M u.0) (added_near u.0 u.1) ∙ ap placed_by u.4)

  from_call : SomeOutside L old M → RuleOutside
  from_call u = (u.0, u.1, u.2.0, u.3, by_outside (lies (touch L) h (touch M u.0)) (sym (place_is i (touch M u.0) (added_near u.0 u.1)) ∙ u.4))

  rises_by : {a b : ℤ} → a ≡ v → b ≡ w → (a <ℤ b) ↔ RuleOutside → (v <ℤ w) ↔ SomeOutside L old M
  rises_by x y = rw (x, y) (λ c. ((λ l. to_call (c.0 l)), (λ u. c.1 (from_call u))))

  rises_is : (v <ℤ w) ↔ SomeOutside L old M
  rises_is = rises_by (sym i.sum) (sym sum_grown) (lists_rise L M whole_L whole_M i.is)

  same_is : (SomeOutside L old M → ⊥) → (m ≡ n) × (front (L ++ M) new ≡ front L old)
  same_is d =
      let s : g ≡ h = is_grown ∙ lists_same L M whole_L whole_M i.is (λ u. d (to_call u)) in
      (j.count ∙ ap length s ∙ sym i.count, front_is j ∙ ap lent s ∙ sym (front_is i))

  pub grows : Grows L M old new n m v w
  grows = record { inside = inside_is; on = on_is; keeps = keeps_is; rises = rises_is; same = same_is }

-- a list that begins with an accepted one is not refused as flat
pub never_flat : (L M : List ℤ) (old new : List ℕ) (n : ℕ) (v : ℤ) → built L old ≡ Ok (hull_with n v) → built (L ++ M) new ≡ Err AllTouchesOnOnePlane → ⊥
never_flat L M old new n v e f =
    let i = (inverted L old e).1 in
    let u = flat_to (L ++ M) new f in
    let g = lists_grow L M i.sound.whole (added_whole L M i.sound u.0) i.is in
    no_some (sym ((flat_exact (touch (L ++ M)) (touch_count (L ++ M))).1 u.1) ∙ g.1)
