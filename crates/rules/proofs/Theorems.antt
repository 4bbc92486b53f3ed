-- The theorems, as demands 2 and 3 state them. p says where the touches are and n how many there are; nothing else is asked of them.
use mathlib.Core.Path.{◌≡◌, refl, sym, ◌∙◌, ap, subst}
use mathlib.Core.Logic.{◌↔◌, ◌⊎◌, inl, inr}
use mathlib.Core.List.{List, [], ◌∷◌, ◌++◌}
use mathlib.Core.Option.{Option, none, some, some-injective}
use Prim.Native.Nat.{ℕ, ◌+◌, ◌-◌, ◌%◌, ◌≤◌, ◌<◌}
use native.Mathlib.Omega.{arith}
use lib.ListN.{length}
use lib.IntN.{ℤ, pos, neg_ℤ, ◌+ℤ◌}
use lib.Signed.{◌≤ℤ◌, ◌<ℤ◌}
use Rattle.laws.specs.Lists.{In, sum_z}
use Rattle.laws.proofs.Ring.{one, var, ◌:+◌, neg}
use Rattle.laws.proofs.Certificates.{combine, eqn}
use Rattle.laws.proofs.Sums.{sum_neg}
use Rattle.laws.proofs.Firsts.{no_some}
use Rattle.touches.specs.declared.Point.{Point}
use Rattle.touches.specs.Limits.{most_touches}
use Rattle.touches.specs.Touches.{touch, touch_count, Sound}
use Rattle.touches.proofs.JoinLaws.{whole_length, join_count, join_first, join_second}
use Rattle.rules.specs.Faces.{Face, Places, face_vol}
use Rattle.rules.specs.Start.{Start, start}
use Rattle.rules.specs.Building.{seen, step, after, hull, volume}
use Rattle.rules.specs.Placing.{Lies, outside, on, inside, astray, lies}
use Rattle.rules.specs.Demands.{Flat, CornersIn, OnOrInside, Surface, Growth}
use Rattle.rules.proofs.FaceLaws.{→unseen}
use Rattle.rules.proofs.Hull.{Hull, hull_corners}
use Rattle.rules.proofs.StepLaws.{step_same}
use Rattle.rules.proofs.GrowthLaws.{step_volume}
use Rattle.rules.proofs.StartLaws.{started, not_flat, 0<Q, Q<R, R<S, S<n}
use Rattle.rules.proofs.MissingLaws.{start_none}
use Rattle.rules.proofs.CornerLaws.{starters}
use Rattle.rules.proofs.AfterLaws.{after_hull, taken_below, hull_none, hull_some}
use Rattle.rules.proofs.PlaceLaws.{lies_inside, lies_outside, lies_within}
use Rattle.rules.proofs.SurfaceLaws.{surface_of}
use Rattle.rules.proofs.GrownLaws.{hull_grows}

-- ---- 'How firmly results are fixed': two results that meet one definition are equal; so are two face lists that are the hull of p and n
pub one_result : {A : Type 0} {x : Option A} {h g : A} → x ≡ some h → x ≡ some g → h ≡ g
one_result {A} {x} {h} {g} e f = some-injective h g (sym e ∙ f)

-- ---- 'Building', 1
-- refused as flat exactly if every four touches have V = 0
pub flat_exact : (p : Places) (n : ℕ) → (hull p n ≡ none) ↔ Flat p n
flat_exact p n = (to, from)
  where
    to : hull p n ≡ none → Flat p n
    to e = go (start p n) refl
      where
        go : (x : Option Start) → start p n ≡ x → Flat p n
        go none f = start_none p n f
        go (some s) f = absurd (no_some (sym e ∙ hull_some p n f))

    from : Flat p n → hull p n ≡ none
    from f = go (start p n) refl
      where
        go : (x : Option Start) → start p n ≡ x → hull p n ≡ none
        go none e = hull_none p n e
        go (some s) e = absurd (not_flat (started p n e) f)

-- P = 0 < Q < R < S
pub start_order : (p : Places) (n : ℕ) {s : Start} → start p n ≡ some s → (s.P ≡ 0) × (0 < s.Q) × (s.Q < s.R) × (s.R < s.S) × (s.S < n)
start_order p n e = let h = started p n e in (h.P_zero, 0<Q h, Q<R h, R<S h, S<n h)

-- ---- after every step: the touches ks are any below n, such as those of `others s k` for k up to n
module _ (p : Places) (n : ℕ) {s : Start} (e : start p n ≡ some s) (ks : List ℕ) where
  taken : Hull p (ks ++ starters s) (after p s ks)
  taken = after_hull (started p n e) ks

  -- the step at k adds the sum of −V(f,k) over the faces visible from k
  pub step_adds : (k : ℕ) → volume p (step p (after p s ks) k) ≡ volume p (after p s ks) +ℤ sum_z (λ f. neg_ℤ (face_vol p f (p k))) (seen p (after p s ks) k)
  unfolding volume
  step_adds k = move (volume p (step p (after p s ks) k)) (sum_z (λ f. face_vol p f (p k)) (seen p (after p s ks) k)) (volume p (after p s ks)) (sum_z (λ f. neg_ℤ (face_vol p f (p k))) (seen p (after p s ks) k))
      (step_volume taken k (p 0)) (sum_neg (λ f. face_vol p f (p k)) (seen p (after p s ks) k))
    where
      move : (w v h u : ℤ) → w +ℤ v ≡ h → u ≡ neg_ℤ v → w ≡ h +ℤ u
      move w v h u e f = combine (w ∷ v ∷ h ∷ u ∷ []) (eqn one (var 0 :+ var 1) (var 2) ∷ eqn (neg one) (var 3) (neg (var 1)) ∷ []) (var 0) (var 2 :+ var 3) tt e f

  -- a touch that repeats one that was taken changes nothing
  pub repeat_same : (j k : ℕ) → In j (ks ++ starters s) → p k ≡ p j → step p (after p s ks) k ≡ after p s ks
  repeat_same j k m q = step_same p (after p s ks) k (λ f i. →unseen p k f (subst (λ (x : Point). pos 0 ≤ℤ face_vol p f x) (sym q) (taken.supporting f i j m)))

  module _ (below : (k : ℕ) → In k ks → k < n) where
    pub steps_corners : (f : Face) → In f (after p s ks) → CornersIn (λ t. t < n) f
    steps_corners = hull_corners taken n (taken_below (started p n e) ks below)

-- ---- demand 2: closed, no touch in front, a body, not in line, and a positive volume
pub hull_surface : (p : Places) (n : ℕ) {h : List Face} → hull p n ≡ some h → Surface p n h
hull_surface p n e = surface_of p n e

-- a list that passes refusals 1 to 3 has at most 64 touches
pub accepted_few : {cs : List ℤ} → Sound cs → touch_count cs ≤ most_touches
accepted_few {cs} c = omega (arith, whole_length cs c.whole, c.few)

-- ---- demand 3: with m more touches the list is never flat, and it grows as Growth says
pub hull_goes_on : (p : Places) (n m : ℕ) {h : List Face} → hull p n ≡ some h → (g : List Face) × (hull p (n + m) ≡ some g) × Growth p p n m h g
hull_goes_on p n m e = hull_grows p p n m (λ t l. refl) e

-- the same in the words of 'Where a place lies'
module _ {p r : Places} {n m : ℕ} {h g : List Face} (w : Growth p r n m h g) where
  pub inside_stays : (q : Point) → lies p h q ≡ inside → lies r g q ≡ inside
  inside_stays q e = (lies_inside r g q).1 (w.inside q ((lies_inside p h q).0 e))

  pub rises_outside : (volume p h <ℤ volume r g) ↔ ((t : ℕ) × (n ≤ t) × (t < n + m) × (i : ℕ) × (d : ℤ) × (lies p h (r t) ≡ outside i d))
  rises_outside = (
    (λ l. let u = w.rises.0 l in let o = (lies_outside p h (r u.0)).1 u.3 in (u.0, u.1, u.2, o.0, o.1, o.2)),
    (λ u. w.rises.1 (u.0, u.1, u.2, (lies_outside p h (r u.0)).0 (u.3, u.4, u.5))),
  )

-- touches that repeat touches of the list, at its end, change nothing
pub repeats_same : (p : Places) (n m : ℕ) {h : List Face} → hull p n ≡ some h → ((t : ℕ) → n ≤ t → t < n + m → (j : ℕ) × (j < n) × (p t ≡ p j)) → hull p (n + m) ≡ some h
repeats_same p n m {h} e d = let u = hull_goes_on p n m e in
    u.1 ∙ ap some (u.2.same (λ t l k. let j = d t l k in subst (OnOrInside p h) (sym j.2) ((surface_of p n e).behind j.0 j.1)))

-- ---- demand 3 of coordinate lists: L is accepted, and M is put after it
module _ (L M : List ℤ) (l : length L % 3 ≡ 0) (k : length M % 3 ≡ 0) {h : List Face} (e : hull (touch L) (touch_count L) ≡ some h) where
  pub lists_grow : (g : List Face) × (hull (touch (L ++ M)) (touch_count (L ++ M)) ≡ some g) × Growth (touch L) (touch (L ++ M)) (touch_count L) (touch_count M) h g
  lists_grow = let u = hull_grows (touch L) (touch (L ++ M)) (touch_count L) (touch_count M) (λ t b. sym (join_first L M l k t b)) e in
      (u.0, ap (hull (touch (L ++ M))) (join_count L M l k) ∙ u.1, u.2)

  -- the touches of M by their own numbers, and by those of the longer list
  abbrev SomeOutside : Type 0
  SomeOutside = (t : ℕ) × (t < touch_count M) × (i : ℕ) × (d : ℤ) × (lies (touch L) h (touch M t) ≡ outside i d)

  abbrev Later : Type 0
  Later = (t : ℕ) × (touch_count L ≤ t) × (t < touch_count L + touch_count M) × (i : ℕ) × (d : ℤ) × (lies (touch L) h (touch (L ++ M) t) ≡ outside i d)

  to_own : Later → SomeOutside
  to_own u = (u.0 - touch_count L, omega (arith, u.1, u.2), u.3, u.4, ap (lies (touch L) h) (sym (join_second L M l k (u.0 - touch_count L)) ∙ ap (touch (L ++ M)) (back u.0 u.1)) ∙ u.5)
    where
      back : (t : ℕ) → touch_count L ≤ t → touch_count L + (t - touch_count L) ≡ t
      back t b = omega arith

  from_own : SomeOutside → Later
  from_own u = (touch_count L + u.0, omega arith, omega (arith, u.1), u.2, u.3, ap (lies (touch L) h) (join_second L M l k u.0) ∙ u.4)

  pub lists_rise : (volume (touch L) h <ℤ volume (touch (L ++ M)) lists_grow.0) ↔ SomeOutside
  lists_rise = ((λ v. to_own ((rises_outside lists_grow.2).0 v)), (λ u. (rises_outside lists_grow.2).1 (from_own u)))

  pub lists_same : (SomeOutside → ⊥) → lists_grow.0 ≡ h
  lists_same d = lists_grow.2.same (λ t a b. (lies_within (touch L) h (touch (L ++ M) t)).0 (go t a b (lies (touch L) h (touch (L ++ M) t)) refl))
    where
      go : (t : ℕ) → touch_count L ≤ t → t < touch_count L + touch_count M → (x : Lies) → lies (touch L) h (touch (L ++ M) t) ≡ x → (lies (touch L) h (touch (L ++ M) t) ≡ inside) ⊎ ((i : ℕ) × (lies (touch L) h (touch (L ++ M) t) ≡ on i)) ⊎ (lies (touch L) h (touch (L ++ M) t) ≡ astray)
      go t a b (outside i c) e = absurd (d (to_own (t, a, b, i, c, e)))
      go t a b (on i) e = inr (inl (i, e))
      go t a b inside e = inl e
      go t a b astray e = inr (inr e)
