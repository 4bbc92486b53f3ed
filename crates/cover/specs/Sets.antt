-- 02 A12: the same touches, in any order and with any repeats.
use Rattle.std.specs.Prelude.{◌≡◌, ℕ, ◌<◌}
use Rattle.rules.specs.Faces.{Places}

-- each of the n touches at p is where one of the m touches at r is
abbrev pub Among : Places → ℕ → Places → ℕ → Type 0
Among p n r m = (t : ℕ) → t < n → (u : ℕ) × (u < m) × (p t ≡ r u)

-- and the other way round: one set of positions
pub record SamePlaces (p : Places) (n : ℕ) (r : Places) (m : ℕ) : Type 0 where
  pub to : Among p n r m
  pub back : Among r m p n
