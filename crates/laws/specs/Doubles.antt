-- Whole numbers held as doubles.
use Rattle.std.specs.Prelude.{◌≡◌, Bool, true, false, ℕ, ℤ, pos, neg_ℤ, Float}
use Rattle.std.specs.Float.{binary64}
use Rattle.std.specs.Float.Ieee.{of_int, of_bits}
use Rattle.std.specs.Float.Ieee.Exact.{HasValue}

-- the double nearest to z: within 2^53 exactly z, and of zero plus zero
abbrev pub double : ℤ → Float
double z = of_int binary64 z

-- 0.0 as the code has it
abbrev pub plus_zero : Float
plus_zero = of_bits binary64 0

-- ±n
abbrev pub signed : Bool → ℕ → ℤ
signed false n = pos n
signed true n = neg_ℤ (pos n)

-- the finite x has exactly the value z; of zero, either sign
pub record Holds (x : Float) (z : ℤ) : Type 0 where
  pub sign : Bool
  pub size : ℕ
  pub value : HasValue x sign size 1
  pub is : signed sign size ≡ z

-- x has exactly the value z, and its zero is plus zero
pub record Exactly (x : Float) (z : ℤ) : Type 0 where
  pub value : Holds x z
  pub zero : z ≡ pos 0 → x ≡ plus_zero
