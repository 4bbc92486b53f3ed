-- The fractions that the code holds.
use Rattle.std.specs.Prelude.{ℕ, ◌+◌, ◌*◌}
use Rattle.laws.specs.Numbers.{Within}
use Rattle.touches.specs.Limits.{reach}
use Rattle.volume.specs.Volume.{most_normal, most_volume}
use Rattle.rules.specs.Plumb.{Fraction as Ratio}
use Rattle.rules.specs.Heights.{Proper}

-- what is left of a plane's offset at x and y in range is no larger
abbrev pub most_rest : ℕ
most_rest = most_volume + most_normal * reach + most_normal * reach

-- the bottom is above 0, and both numbers are of the size that a rest and a part of a normal have
pub record Held (t : Ratio) : Type 0 where
  pub proper : Proper t
  pub top : Within most_rest t.top
  pub bottom : Within most_normal t.bottom
