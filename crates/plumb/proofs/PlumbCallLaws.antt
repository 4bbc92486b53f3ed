-- The plumb line's call on a list that is not flat, at x and y in range: it gives the hull's reading, and the placing call agrees.
use mathlib.Core.Path.{◌≡◌, sym, ap, ap₂, ◌∙◌}
use mathlib.Core.Logic.{◌↔◌, ◌⊎◌, inl, inr}
use mathlib.Core.Bool.{true, ◌&&◌}
use mathlib.Core.List.{List}
use mathlib.Core.Option.{some}
use Prim.Native.Nat.{ℕ}
use lib.IntN.{ℤ}
use Rattle.std.specs.Prelude.{Result, Ok}
use Rattle.touches.specs.declared.refusal.Refusal.{Refusal}
use Rattle.touches.specs.declared.FaceNo.{FaceNo}
use Rattle.touches.specs.Limits.{in_range}
use Rattle.touches.specs.Touches.{touch, touch_count, face_no, Sound}
use Rattle.rules.specs.Faces.{Face}
use Rattle.rules.specs.Placing.{lies}
use Rattle.rules.specs.Plumb.{Fraction, Plumb, misses, touches, through, plumb}
use Rattle.rules.specs.Heights.{over, Below, Equal, NoneRefuses}
use Rattle.rules.proofs.PlumbLaws.{lowest, highest, hull_reading, line_through, line_touches, line_misses, misses_outside}
use Rattle.table.specs.Table.{first_faces}
use Rattle.hull.specs.Build.{hull_of, built, table_after}
use Rattle.hull.specs.Place.{placed_by, placed}
use Rattle.hull.specs.declared.place.Placed.{Placed}
use Rattle.hull.specs.declared.place.Placed.TheVariants.{Outside}
use Rattle.hull.proofs.Inversion.{Inverted}
use Rattle.hull.proofs.CallLaws.{call_places}
use Rattle.plumb.specs.Plumb.{rounded, plumbed_by, plumbed}
use Rattle.plumb.specs.declared.Plumbed.{Plumbed}
use Rattle.plumb.specs.declared.Plumbed.TheVariants.{Misses, Touches, Through}
use Rattle.plumb.proofs.PlumbedLaws.{sound_plumbed, over_read}

-- the call's answer where the line's reading is l
abbrev given : Plumb → Result Plumbed Refusal
given l = Ok (plumbed_by l)

module _ {cs : List ℤ} (d : Sound cs) {h : List Face} (e : hull_of cs ≡ some h) (x y : ℤ) (w : in_range x && in_range y ≡ true) where
  abbrev line : Plumb
  line = plumb (touch cs) h x y

  pub call_plumbs : plumbed cs x y ≡ given line
  call_plumbs = sound_plumbed cs x y d ∙ sym (over_read cs x y e w)

  -- the tightest bounds
  abbrev pub lower : Fraction
  lower = lowest (touch cs) (touch_count cs) e x y

  abbrev pub upper : Fraction
  upper = highest (touch cs) (touch_count cs) e x y

  -- the call gives the answer of the reading r exactly where the line's reading is r
  answers : {r : Plumb} {E : Type 0} → (given line ≡ given r → line ≡ r) → (line ≡ r) ↔ E → (plumbed cs x y ≡ given r) ↔ E
  answers back is = ((λ k. is.0 (back (sym call_plumbs ∙ k))), (λ k. call_plumbs ∙ ap given (is.1 k)))

  three : (line ≡ misses) ⊎ (line ≡ touches upper) ⊎ (line ≡ through upper lower)
  three = hull_reading (touch cs) (touch_count cs) e x y

  -- the line goes through exactly if the upper bound is the greater as a fraction and no upright face refuses
  pub call_through : (plumbed cs x y ≡ Ok (Through (rounded upper) (rounded lower))) ↔ (NoneRefuses (touch cs) h x y × Below lower upper)
  call_through = answers {r = through upper lower} (λ k. go three k) (line_through (touch cs) (touch_count cs) e x y)
    where
      go : (line ≡ misses) ⊎ (line ≡ touches upper) ⊎ (line ≡ through upper lower) → given line ≡ given (through upper lower) → line ≡ through upper lower
      go (inl a) k = cc
      go (inr (inl a)) k = cc
      go (inr (inr a)) k = a

  -- it touches exactly if the two bounds are equal as fractions and no upright face refuses
  pub call_touches : (plumbed cs x y ≡ Ok (Touches (rounded upper))) ↔ (NoneRefuses (touch cs) h x y × Equal lower upper)
  call_touches = answers {r = touches upper} (λ k. go three k) (line_touches (touch cs) (touch_count cs) e x y)
    where
      go : (line ≡ misses) ⊎ (line ≡ touches upper) ⊎ (line ≡ through upper lower) → given line ≡ given (touches upper) → line ≡ touches upper
      go (inl a) k = cc
      go (inr (inl a)) k = a
      go (inr (inr a)) k = cc

  -- it misses exactly if an upright face refuses or the upper bound is the less
  pub call_misses : (plumbed cs x y ≡ Ok Misses) ↔ ((NoneRefuses (touch cs) h x y → ⊥) ⊎ Below upper lower)
  call_misses = answers {r = misses} (λ k. go three k) (line_misses (touch cs) (touch_count cs) e x y)
    where
      go : (line ≡ misses) ⊎ (line ≡ touches upper) ⊎ (line ≡ through upper lower) → given line ≡ given misses → line ≡ misses
      go (inl a) k = a
      go (inr (inl a)) k = cc
      go (inr (inr a)) k = cc

-- building was accepted too: what the placing call says, of the table that it left, of the place over x and y at height z
module _ {cs : List ℤ} {old : List ℕ} {n : ℕ} {v : ℤ} {h : List Face} (i : Inverted cs old n v h) (x y : ℤ) (w : in_range x && in_range y ≡ true) (z : ℤ) (in-range : in_range z ≡ true) where
  abbrev pub placed_at : Result Placed Refusal
  placed_at = placed cs (first_faces n (table_after (built cs old) (hull_of cs) old)) (over x y z)

  at : placed_at ≡ placed_by (lies (touch cs) h (over x y z))
  at = call_places i (over x y z) (ap₂ ◌&&◌ w in-range)

  -- where the line misses, every place over x and y is outside
  pub call_outside : plumbed cs x y ≡ Ok Misses → (f : FaceNo) × (d : ℤ) × (placed_at ≡ Ok (Outside f d))
  call_outside k =
      let m = (line_misses (touch cs) (touch_count cs) i.is x y).1 ((call_misses i.sound i.is x y w).0 k) in
      let o = misses_outside (touch cs) (touch_count cs) i.is x y m z in
      (face_no o.0, o.1, at ∙ ap placed_by o.2)
