-- Whole numbers: how large one is, and the test whether two are equal.
use Rattle.std.specs.Prelude.{ℕ, ◌≤◌, Bool, false, eqb, ℤ, pos, negsuc, nat_abs}

-- z is at most B in size. A record, so that B and z are inferred from a hypothesis.
pub record Within (B : ℕ) (z : ℤ) : Type 0 where
  pub within : nat_abs z ≤ B

abbrev pub eq_z : ℤ → ℤ → Bool
eq_z (pos a) (pos b) = eqb a b
eq_z (pos a) (negsuc b) = false
eq_z (negsuc a) (pos b) = false
eq_z (negsuc a) (negsuc b) = eqb a b
