-- The two tests of `in_range`, as the code reads the coordinate back from its bits (y), against `in_range` of the coordinate (z).
-- Assumes nothing.
use mathlib.Core.Path.{◌≡◌}
use mathlib.Core.Bool.{true, false}
use lib.IntN.{ℤ, pos, neg_ℤ}
use lib.Signed.{le_z}
use Rattle.touches.specs.Limits.{in_range, reach}

module _ {y z : ℤ} (e : y ≡ z) where
  pub range_second : le_z (neg_ℤ (pos reach)) y ≡ true → le_z y (pos reach) ≡ in_range z
  unfolding in_range
  range_second h = rw (← e, h)

  pub range_first : le_z (neg_ℤ (pos reach)) y ≡ false → le_z (neg_ℤ (pos reach)) y ≡ in_range z
  unfolding in_range
  range_first h = rw (← e, h)
