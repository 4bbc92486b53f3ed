-- The bounds of a plumb line as the code holds them.
use Rattle.std.specs.Prelude.{ℤ, ◌-ℤ◌, ◌*ℤ◌, Option, Some, None}
use Rattle.std.proofs.Math.Option.{Option as MathOption, none, some}
use Rattle.rules.specs.Plumb.{Fraction as Ratio, Bounds as Limits}
use Rattle.points.specs.Whole.{Plane}
use Rattle.plumb.specs.declared.fractions.Fraction.{Fraction}
use Rattle.plumb.specs.declared.bounds.Bounds.{Bounds}
use Rattle.plumb.specs.Fractions.{ratio}

-- the rules' bounds
abbrev pub bound_of : Option Fraction → MathOption Ratio
bound_of None = none
bound_of (Some f) = some (ratio f)

abbrev pub bounds_of : Bounds → Limits
bounds_of b = record { admits = b.admits; above = bound_of b.above; below = bound_of b.below }

-- what is left of the offset of plane w at x and y for the height
abbrev pub rest_at : Plane → ℤ → ℤ → ℤ
rest_at w x y = w.offset -ℤ w.normal.x *ℤ x -ℤ w.normal.y *ℤ y
