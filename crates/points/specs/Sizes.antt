-- What a step gives: the number or the vector that a definition names, and how large it is.
use Rattle.std.specs.Prelude.{ℕ, ◌≡◌, ℤ}
use Rattle.laws.specs.Numbers.{Within}
use Rattle.touches.specs.declared.Point.{Point}
use Rattle.touches.specs.Touches.{Small}

-- r is the whole number z, at most B in size
pub record Number (B : ℕ) (z r : ℤ) : Type 0 where
  pub is : r ≡ z
  pub small : Within B r

pub record Vector (B : ℕ) (v r : Point) : Type 0 where
  pub is : r ≡ v
  pub small : Small B r
