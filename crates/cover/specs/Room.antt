-- How much room the faces of n touches take at most.
use Rattle.std.specs.Prelude.{ℕ, ◌*◌, ◌-◌}

-- a table with room for so many faces is enough
abbrev pub enough : ℕ → ℕ
enough n = 2 * n - 4
