-- The cone over the border, a side at a time.
use Rattle.std.specs.Prelude.{Bool, List, map, ℕ}
use Rattle.laws.specs.Lists.{only_if, keep}
use Rattle.rules.specs.Faces.{Face, Side, sides}
use Rattle.rules.specs.Building.{cone}

-- the cone from k over side s, if it passes the test t
abbrev pub cone_side : (Side → Bool) → ℕ → Side → List Face
cone_side t k s = only_if (t s) (cone k s)

-- the cone over those of the sides l that pass
unfoldable pub cone_over : (Side → Bool) → ℕ → List Side → List Face
cone_over t k l = map (cone k) (keep t l)

-- the cone over those sides of the faces w that pass
unfoldable pub cone_on : (Side → Bool) → ℕ → List Face → List Face
cone_on t k w = cone_over t k (sides w)
