-- Fractions: which of three answers two of them get, by the products across; and what a whole part and a remainder are.
use Rattle.std.specs.Prelude.{◌≡◌, cond, ℤ, pos, ◌+ℤ◌, ◌*ℤ◌, ◌≤ℤ◌, ◌<ℤ◌}
use Rattle.std.specs.Int.Signed.{lt_z}

-- a/b against c/d, both bottoms above 0: x if it is less, y if equal, z if greater
abbrev pub compared : {A : Type 0} → ℤ → ℤ → ℤ → ℤ → A → A → A → A
compared a b c d x y z = cond (lt_z (a *ℤ d) (c *ℤ b)) x (cond (lt_z (c *ℤ b) (a *ℤ d)) z y)

-- a/b is the whole part q, rounded down, and the remainder r/b
pub record Parts (a b q r : ℤ) : Type 0 where
  pub sum : a ≡ q *ℤ b +ℤ r
  pub over : pos 0 ≤ℤ r
  pub under : r <ℤ b
