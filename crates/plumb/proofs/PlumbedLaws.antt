-- The plumb line's answer: a height of zero, what the bounds say, and the call's refusals.
use mathlib.Core.Path.{◌≡◌, refl, sym, ap, ◌∙◌}
use mathlib.Core.Bool.{Bool, true, false, ◌&&◌}
use mathlib.Core.List.{List}
use mathlib.Core.Option.{some}
use lib.Dec.{lit≤}
use lib.IntN.{ℤ, pos}
use lib.Ieee.{binary64, div}
use Rattle.laws.proofs.Tests.{and_true}
use Rattle.laws.proofs.WithinLaws.{within_more}
use Rattle.laws.proofs.Doubles.{zero_quotient}
use Rattle.laws.specs.Doubles.{double}
use Rattle.laws.specs.Numbers.{Within}
use Rattle.std.specs.Prelude.{Result, Ok, Err}
use Rattle.touches.specs.declared.Point.{Point}
use Rattle.touches.specs.declared.refusal.Refusal.{Refusal}
use Rattle.touches.specs.declared.refusal.Refusal.TheVariants.{PlaceOutOfRange}
use Rattle.touches.specs.Limits.{in_range, place_in_range}
use Rattle.touches.specs.Touches.{touch, Sound}
use Rattle.touches.specs.Check.{pick, if_accepted, place_checked}
use Rattle.touches.proofs.SoundLaws.{sound_accepted}
use Rattle.volume.specs.Volume.{most_normal}
use Rattle.rules.specs.Faces.{Face}
use Rattle.rules.specs.Plumb.{Fraction as Ratio, Bounds as Limits, unbounded, bounds, reading_of, plumb}
use Rattle.rules.specs.Heights.{over, Proper}
use Rattle.hull.specs.Build.{hull_of}
use Rattle.plumb.specs.Bounds.{bounds_of}
use Rattle.plumb.specs.Plumb.{rounded, plumbed_by, plumbed_over, plumbed}
use Rattle.plumb.specs.declared.bounds.Bounds.{Bounds}
use Rattle.plumb.specs.declared.Plumbed.{Plumbed}

-- ---- a height of zero is plus zero
pub zero_height : (t : Ratio) → Proper t → Within most_normal t.bottom → t.top ≡ pos 0 → rounded t ≡ double (pos 0)
zero_height t h w e =
    ap (λ (z : ℤ). div binary64 (double z) (double t.bottom)) e
    ∙ zero_quotient binary64 t.bottom (within_more (lit≤ tt) w).within h.lt

-- ---- the answer
-- the line at x and y
pub column : (x y : ℤ) → place_in_range (over x y (pos 0)) ≡ in_range x && in_range y
unfolding in_range
column x y = and_true (in_range x && in_range y)

module _ (cs : List ℤ) (x y : ℤ) where
  -- a list that passed refusals 1 to 3
  pub sound_plumbed : Sound cs → plumbed cs x y ≡ plumbed_over cs x y (hull_of cs)
  sound_plumbed d = ap (λ (k : Result (List ℤ) Refusal). if_accepted k (plumbed_over cs x y (hull_of cs))) (sound_accepted cs d)

  -- the bounds are those of the hull's faces
  pub hull_read : {r : Plumbed} (b : Bounds) {l : List ℤ} {q : Point} {h g : List Face} → r ≡ plumbed_by (reading_of (bounds_of b)) → bounds_of b ≡ bounds (touch l) q.x q.y unbounded g → l ≡ cs → q ≡ over x y (pos 0) → g ≡ h → r ≡ plumbed_by (plumb (touch cs) h x y)
  unfolding plumb
  hull_read b e a l q g = e ∙ ap (λ (b : Limits). plumbed_by (reading_of b)) a ∙ (λ i. plumbed_by (reading_of (bounds (touch (l i)) (q i).x (q i).y unbounded (g i))))

  -- x and y in range, or refusal 7
  pub over_read : {h : List Face} → hull_of cs ≡ some h → in_range x && in_range y ≡ true → Ok (plumbed_by (plumb (touch cs) h x y)) ≡ plumbed_over cs x y (hull_of cs)
  over_read e t = simp (e, t)

  pub over_place : {h : List Face} → hull_of cs ≡ some h → {k : Result Point Refusal} → k ≡ place_checked (over x y (pos 0)) → if_accepted k (Ok (plumbed_by (plumb (touch cs) h x y))) ≡ plumbed_over cs x y (hull_of cs)
  over_place {h} e {k} f =
      let a = Ok (plumbed_by (plumb (touch cs) h x y)) in
      ap (λ (k : Result Point Refusal). if_accepted k a) (f ∙ ap (λ (b : Bool). pick b (Ok (over x y (pos 0))) (Err PlaceOutOfRange)) (column x y))
      ∙ go a (in_range x && in_range y) ∙ sym (ap (plumbed_over cs x y) e)
    where
      go : (a : Result Plumbed Refusal) (b : Bool) → if_accepted (pick b (Ok (over x y (pos 0))) (Err PlaceOutOfRange)) a ≡ pick b a (Err PlaceOutOfRange)
      go a true = refl
      go a false = refl
