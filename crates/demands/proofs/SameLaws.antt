-- 02 A12 of the calls: two lists over one set of positions.
use mathlib.Core.Path.{◌≡◌, sym, ap, ◌∙◌}
use mathlib.Core.Logic.{◌↔◌}
use mathlib.Core.Bool.{true}
use mathlib.Core.List.{List}
use mathlib.Core.Option.{some}
use Prim.Native.Nat.{ℕ}
use lib.IntN.{ℤ}
use Rattle.std.specs.Prelude.{Err}
use Rattle.touches.specs.declared.Point.{Point}
use Rattle.touches.specs.declared.refusal.Refusal.TheVariants.{AllTouchesOnOnePlane}
use Rattle.touches.specs.Limits.{place_in_range}
use Rattle.touches.specs.Touches.{touch, touch_count, Sound}
use Rattle.rules.specs.Faces.{Face}
use Rattle.cover.proofs.OrderLaws.{order_alike, order_flat}
use Rattle.hull.specs.Build.{built}
use Rattle.hull.proofs.Inversion.{Inverted}
use Rattle.demands.specs.Demands.{place, case_answered, SameTouches}
use Rattle.demands.proofs.BuiltLaws.{flat_is}
use Rattle.demands.proofs.PlacedLaws.{hull_case}

-- both were accepted
pub same_case : {L M : List ℤ} {old new : List ℕ} {n m : ℕ} {v w : ℤ} {h g : List Face} → Inverted L old n v h → Inverted M new m w g → SameTouches L M
    → (q : Point) → place_in_range q ≡ true → case_answered (place L old q) ≡ case_answered (place M new q)
same_case {L} {M} i j same q r = hull_case i q r ∙ ap some (order_alike (touch L) (touch M) (touch_count L) (touch_count M) i.is j.is same q) ∙ sym (hull_case j q r)

pub same_flat : (L M : List ℤ) (old new : List ℕ) → SameTouches L M → Sound L → Sound M → (built L old ≡ Err AllTouchesOnOnePlane) ↔ (built M new ≡ Err AllTouchesOnOnePlane)
same_flat L M old new same d e = let f = order_flat (touch L) (touch M) (touch_count L) (touch_count M) same in (
  (λ u. (flat_is M new).1 (e, f.0 ((flat_is L old).0 u).1)),
  (λ u. (flat_is L old).1 (d, f.1 ((flat_is M new).0 u).1)),
)
