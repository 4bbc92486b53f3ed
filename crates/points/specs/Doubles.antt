-- 01 'Volume and the four-corner rule': points and normals worked in doubles.
use Rattle.std.specs.Prelude.{◌≡◌, Float}
use Rattle.std.specs.Float.{binary64}
use Rattle.std.specs.Float.Ieee.{sub, mul}
use Rattle.laws.specs.Doubles.{double}
use Rattle.touches.specs.declared.Point.{Point}
use Rattle.touches.specs.Touches.{Near}
use Rattle.points.specs.declared.doubles.Spot.{Spot}

-- r is the point p, which is in range, in doubles
pub record InDoubles (p : Point) (r : Spot) : Type 0 where
  pub near : Near p
  pub x : r.x ≡ double p.x
  pub y : r.y ≡ double p.y
  pub z : r.z ≡ double p.z

abbrev pub minus : Float → Float → Float
minus x y = sub binary64 x y

abbrev pub det2 : Float → Float → Float → Float → Float
det2 a b c d = minus (mul binary64 a d) (mul binary64 b c)

-- (b − a) cross (c − a), as the machine works it out
abbrev pub spot_normal : Spot → Spot → Spot → Spot
spot_normal a b c = record {
  x = det2 (minus b.y a.y) (minus b.z a.z) (minus c.y a.y) (minus c.z a.z);
  y = det2 (minus b.z a.z) (minus b.x a.x) (minus c.z a.z) (minus c.x a.x);
  z = det2 (minus b.x a.x) (minus b.y a.y) (minus c.x a.x) (minus c.y a.y);
}
