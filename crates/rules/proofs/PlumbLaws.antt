-- The theorems of A3, for every hull and every whole x and y; nothing else is asked but for the size of the numbers.
use mathlib.Core.Path.{◌≡◌, refl, subst}
use mathlib.Core.Logic.{◌↔◌, ◌⊎◌, inl, inr}
use mathlib.Core.List.{List}
use mathlib.Core.Option.{some}
use Prim.Native.Nat.{ℕ, ◌<◌}
use lib.IntN.{ℤ, pos, ◌*ℤ◌}
use lib.Signed.{◌<ℤ◌}
use lib.Ieee.{binary64, of_int}
use Rattle.laws.specs.Numbers.{Within}
use Rattle.laws.specs.Lists.{In, sum_z}
use Rattle.laws.proofs.Order.{≤_refl, <→≤}
use Rattle.laws.proofs.Exact.{Exact, e_int}
use Rattle.touches.specs.Limits.{reach}
use Rattle.touches.specs.Touches.{touch, touch_count, Near, Sound}
use Rattle.touches.proofs.SoundLaws.{touch_near}
use Rattle.volume.specs.Volume.{most_normal, most_volume}
use Rattle.volume.proofs.Axes.{Axis, Z, on}
use Rattle.rules.specs.Faces.{Face, Places, corner}
use Rattle.rules.specs.Building.{hull}
use Rattle.rules.specs.Placing.{Lies, outside, on as on_face, inside, astray, lies}
use Rattle.rules.specs.Demands.{OnOrInside}
use Rattle.rules.specs.Plumb.{face_normal, facing, rest, Fraction, unbounded, bounds, Plumb, misses, touches, through, plumb}
use Rattle.rules.specs.Heights.{over, whole, Proper, AtMost, Below, Equal, OnOrInsideAt, Says, Way, up, down, Looks, bound, meets, NoneRefuses, Spans, Fits}
use Rattle.rules.proofs.PlaceLaws.{lies_within}
use Rattle.rules.proofs.FacingLaws.{normals_zero, looks_up, looks_down}
use Rattle.rules.proofs.HeightLaws.{whole_height, height_fits, facing_within, rest_within}
use Rattle.rules.proofs.BoundLaws.{none_refuses, all_have, bound_admits, tightest, each_admits}
use Rattle.rules.proofs.ReadingLaws.{three_readings, places_between, through_exact, touches_exact, misses_exact, spans_say}
use Rattle.rules.proofs.Theorems.{hull_surface}

module _ (p : Places) (n : ℕ) {h : List Face} (e : hull p n ≡ some h) where
  -- ---- the normals sum to zero, so a face looks up and a face looks down
  pub hull_normals : (i : Axis) → sum_z (λ f. on (face_normal p f) i) h ≡ pos 0
  hull_normals i = normals_zero p (hull_surface p n e).closed i

  pub hull_up : (f : Face) × In f h × (pos 0 <ℤ facing p f)
  hull_up = looks_up (hull_surface p n e) Z

  pub hull_down : (f : Face) × In f h × (facing p f <ℤ pos 0)
  hull_down = looks_down (hull_surface p n e) Z

  module _ (x y : ℤ) where
    -- ---- so the height has a tightest bound both ways, and the line is on or inside exactly between them, if no upright face refuses it
    pub hull_spans : (l u : Fraction) × Spans p h x y l u
    hull_spans =
        let l = tightest p x y h down hull_down.1 hull_down.2 in
        let u = tightest p x y h up hull_up.1 hull_up.2 in (
          l.0,
          u.0,
          record {
            lower = l.1;
            upper = u.1;
            admits = none_refuses p x y h;
            heights = λ t ht. both_ways (each_admits p x y h t ht) (bound_admits p x y h down l.1.is t ht) (bound_admits p x y h up u.1.is t ht);
          },
        )
      where
        both_ways : {D N A B : Type 0} {P : Way → Type 0} → D ↔ (N × ((w : Way) → P w)) → A ↔ P down → B ↔ P up → D ↔ (N × A × B)
        both_ways {P = P} d a b = ((λ i. let k = d.0 i in (k.0, a.1 (k.1 down), b.1 (k.1 up))), (λ c. d.1 (c.0, go (a.0 c.1) (b.0 c.2))))
          where
            go : P down → P up → (w : Way) → P w
            go i j down = i
            go i j up = j

    abbrev pub lowest : Fraction
    lowest = hull_spans.0

    abbrev pub highest : Fraction
    highest = hull_spans.1

    -- a place over x and y is on or inside exactly if no upright face refuses the line and its height is from the one bound to the other
    pub hull_places : (z : ℤ) → OnOrInside p h (over x y z) ↔ (NoneRefuses p h x y × AtMost lowest (whole z) × AtMost (whole z) highest)
    hull_places = places_between hull_spans.2

    -- ---- the bounds are the heights of the reading
    pub hull_reading : (plumb p h x y ≡ misses) ⊎ (plumb p h x y ≡ touches highest) ⊎ (plumb p h x y ≡ through highest lowest)
    hull_reading = three_readings hull_spans.2

    -- the line goes through exactly if the bound above is the greater, touches exactly if they are equal, and else misses
    pub line_through : (plumb p h x y ≡ through highest lowest) ↔ (NoneRefuses p h x y × Below lowest highest)
    line_through = through_exact hull_spans.2

    pub line_touches : (plumb p h x y ≡ touches highest) ↔ (NoneRefuses p h x y × Equal lowest highest)
    line_touches = touches_exact hull_spans.2

    pub line_misses : (plumb p h x y ≡ misses) ↔ ((NoneRefuses p h x y → ⊥) ⊎ Below highest lowest)
    line_misses = misses_exact hull_spans.2

    -- ---- what the reading says of every height
    pub hull_says : Says p h x y (plumb p h x y)
    hull_says = spans_say hull_spans.2

    -- it misses exactly if there is no height on or inside
    pub misses_nowhere : (plumb p h x y ≡ misses) ↔ ((t : Fraction) → Proper t → OnOrInsideAt p h x y t → ⊥)
    misses_nowhere = ((λ q. subst (Says p h x y) q hull_says), from (plumb p h x y) hull_says)
      where
        from : (r : Plumb) → Says p h x y r → ((t : Fraction) → Proper t → OnOrInsideAt p h x y t → ⊥) → r ≡ misses
        from misses s f = refl
        from (touches u) s f = absurd (f u s.upper ((s.heights u s.upper).1 (≤_refl (u.top *ℤ u.bottom), ≤_refl (u.top *ℤ u.bottom))))
        from (through u l) s f = absurd (f u s.1.upper ((s.1.heights u s.1.upper).1 (<→≤ s.0, ≤_refl (u.top *ℤ u.bottom))))

    -- then every place over x and y is outside
    pub misses_outside : plumb p h x y ≡ misses → (z : ℤ) → (i : ℕ) × (d : ℤ) × (lies p h (over x y z) ≡ outside i d)
    misses_outside q z = go (lies p h (over x y z)) refl
      where
        no_place : OnOrInside p h (over x y z) → ⊥
        no_place d = misses_nowhere.0 q (whole z) (record { lt = tt }) ((whole_height p h x y z).1 d)

        go : (a : Lies) → lies p h (over x y z) ≡ a → (i : ℕ) × (d : ℤ) × (a ≡ outside i d)
        go (outside i d) r = (i, d, refl)
        go (on_face i) r = absurd (no_place ((lies_within p h (over x y z)).0 (inr (inl (i, r)))))
        go inside r = absurd (no_place ((lies_within p h (over x y z)).0 (inl r)))
        go astray r = absurd (no_place ((lies_within p h (over x y z)).0 (inr (inr r))))

    -- ---- within range the parts of both bounds are whole numbers that doubles hold exactly
    module _ (near : (t : ℕ) → t < n → Near (p t)) (hx : Within reach x) (hy : Within reach y) where
      pub bound_fits : (w : Way) {s : Fraction} → bound w (bounds p x y unbounded h) ≡ some s → Fits s
      bound_fits w = all_have p x y h w Fits fits
        where
          fits : (f : Face) → In f h → Looks w (facing p f) → Fits (meets p x y f)
          fits f m l =
              let c = (hull_surface p n e).corners f m in
              let i = near (corner f 0) c.a in
              let j = near (corner f 1) c.b in
              let k = near (corner f 2) c.c in
              height_fits (facing p f) (rest p x y f) (facing_within p f i j k) (rest_within p f i j k hx hy)

-- so of every list that passes refusals 1 to 3
pub accepted_bounds : {cs : List ℤ} → Sound cs → {h : List Face} → hull (touch cs) (touch_count cs) ≡ some h → (x y : ℤ) → Within reach x → Within reach y → (w : Way) {s : Fraction} →
    bound w (bounds (touch cs) x y unbounded h) ≡ some s → Fits s
accepted_bounds {cs} c e x y = bound_fits (touch cs) (touch_count cs) e x y (λ t l. touch_near c t l)

pub fits_exact : {t : Fraction} → Fits t → Exact most_volume (of_int binary64 t.top) t.top × Exact most_normal (of_int binary64 t.bottom) t.bottom
fits_exact f = (e_int tt f.top, e_int tt f.bottom)
