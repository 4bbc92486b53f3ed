-- 02 A3, 'The plumb line': what the call gives.
use Rattle.std.specs.Prelude.{◌&&◌, List, ℤ, Float, Result, Ok, Err}
use Rattle.std.proofs.Math.Option.{Option, none, some}
use Rattle.std.specs.Float.{binary64}
use Rattle.std.specs.Float.Ieee.{div}
use Rattle.laws.specs.Doubles.{double, plus_zero}
use Rattle.touches.specs.declared.refusal.Refusal.{Refusal}
use Rattle.touches.specs.declared.refusal.Refusal.TheVariants.{AllTouchesOnOnePlane, PlaceOutOfRange}
use Rattle.touches.specs.Limits.{in_range}
use Rattle.touches.specs.Touches.{touch}
use Rattle.touches.specs.Check.{pick, checked, if_accepted}
use Rattle.rules.specs.Faces.{Face}
use Rattle.rules.specs.Plumb.{Fraction as Ratio, Plumb, misses, touches, through, plumb}
use Rattle.hull.specs.Build.{hull_of}
use Rattle.plumb.specs.declared.Plumbed.{Plumbed}
use Rattle.plumb.specs.declared.Plumbed.TheVariants.{Misses, Touches, Through}

-- both numbers held as doubles, divided once
abbrev pub rounded : Ratio → Float
rounded t = div binary64 (double t.top) (double t.bottom)

abbrev pub plumbed_by : Plumb → Plumbed
plumbed_by misses = Misses
plumbed_by (touches t) = Touches (rounded t)
plumbed_by (through u l) = Through (rounded u) (rounded l)

-- refusals 4 and 7, over the hull's face list
abbrev pub plumbed_over : List ℤ → ℤ → ℤ → Option (List Face) → Result Plumbed Refusal
plumbed_over cs x y none = Err AllTouchesOnOnePlane
plumbed_over cs x y (some h) = pick (in_range x && in_range y) (Ok (plumbed_by (plumb (touch cs) h x y))) (Err PlaceOutOfRange)

-- refusals 1, 2, 3, 4, 7; else how the line at x and y meets the hull
abbrev pub plumbed : List ℤ → ℤ → ℤ → Result Plumbed Refusal
plumbed cs x y = if_accepted (checked cs) (plumbed_over cs x y (hull_of cs))

-- the heights of entry and exit, plus zero where there are none
abbrev pub plumbed_entry : Result Plumbed Refusal → Float
plumbed_entry (Ok Misses) = plus_zero
plumbed_entry (Ok (Touches z)) = z
plumbed_entry (Ok (Through u l)) = u
plumbed_entry (Err r) = plus_zero

abbrev pub plumbed_exit : Result Plumbed Refusal → Float
plumbed_exit (Ok Misses) = plus_zero
plumbed_exit (Ok (Touches z)) = z
plumbed_exit (Ok (Through u l)) = l
plumbed_exit (Err r) = plus_zero
