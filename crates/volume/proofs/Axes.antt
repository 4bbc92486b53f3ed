-- A point by its axes, so that a law of coordinates is said once.
use mathlib.Core.Path.{◌≡◌}
use lib.IntN.{ℤ}
use Rattle.touches.specs.declared.Point.{Point}

pub data Axis : Type 0 where
  X Y Z : Axis

abbrev pub on : Point → Axis → ℤ
on p X = p.x
on p Y = p.y
on p Z = p.z

pub point_ext : {p q : Point} → ((i : Axis) → on p i ≡ on q i) → p ≡ q
point_ext {p} {q} e = λ i. record { x = e X i; y = e Y i; z = e Z i }
