-- 02 A3 of the calls: the plumb line's answer, over the hull that building wrote.
use mathlib.Core.Path.{◌≡◌, sym, subst, ap₂}
use mathlib.Core.Logic.Iff
use mathlib.Core.Bool.{true, ◌&&◌}
use mathlib.Core.List.{List}
use Prim.Native.Nat.{ℕ}
use lib.IntN.{ℤ}
use Rattle.laws.proofs.Exact.{e_exactly}
use Rattle.touches.specs.Limits.{in_range}
use Rattle.touches.specs.Touches.{touch, touch_count}
use Rattle.touches.proofs.SoundLaws.{within_range}
use Rattle.rules.specs.Faces.{Face}
use Rattle.rules.specs.Plumb.{Fraction}
use Rattle.rules.specs.Heights.{over, up, down, Spans, Fits}
use Rattle.rules.proofs.PlumbLaws.{hull_spans, hull_places, accepted_bounds}
use Rattle.plumb.specs.Plumb.{plumbed}
use Rattle.plumb.proofs.PlumbCallLaws.{call_misses, call_touches, call_through}
use Rattle.hull.proofs.Inversion.{Inverted}
use Rattle.demands.specs.Demands.{InRange, triangles, ExactHeight, PlumbLine}
use Rattle.demands.proofs.ReasonLaws.{column_tests}
use Rattle.demands.proofs.BuiltLaws.{triangles_are}
use Rattle.demands.proofs.PlacedLaws.{hull_within}

exact_height : {t : Fraction} → Fits t → ExactHeight t
exact_height f = record { top = e_exactly tt f.top; bottom = e_exactly tt f.bottom }

module _ {cs : List ℤ} {old : List ℕ} {n : ℕ} {v : ℤ} {h : List Face} (i : Inverted cs old n v h) (x y : ℤ) (hx : InRange x) (hy : InRange y) where
  column : in_range x && in_range y ≡ true
  column = (column_tests x y).holds (hx, hy)

  over_hull : PlumbLine cs old h x y (plumbed cs x y)
  over_hull = record {
    lower = lower;
    upper = upper;
    tightest = spans.2;
    exact_lower = exact_height (accepted_bounds i.sound i.is x y hx hy down spans.2.lower.is);
    exact_upper = exact_height (accepted_bounds i.sound i.is x y hx hy up spans.2.upper.is);
    misses = call_misses i.sound i.is x y column;
    touches = call_touches i.sound i.is x y column;
    through = call_through i.sound i.is x y column;
    between = λ z hz. Iff.trans (hull_within i (over x y z) (ap₂ ◌&&◌ column (within_range z hz))) (hull_places (touch cs) (touch_count cs) i.is x y z);
  }
    where
      spans : (l u : Fraction) × Spans (touch cs) h x y l u
      spans = hull_spans (touch cs) (touch_count cs) i.is x y

      lower : Fraction
      lower = spans.0

      upper : Fraction
      upper = spans.1

  pub plumb_line : PlumbLine cs old (triangles cs old) x y (plumbed cs x y)
  plumb_line = subst (λ (g : List Face). PlumbLine cs old g x y (plumbed cs x y)) (sym (triangles_are i)) over_hull
