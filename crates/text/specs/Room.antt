-- Text put into a lent table: all of it, or where there is no room for all, none.
use Rattle.std.specs.Prelude.{ℕ, ◌+◌, ◌≤◌, ◌≡◌, cond, List, [], leb, length, take}
use Rattle.laws.specs.Lists.{Laid}

abbrev pub if_room : ℕ → List ℕ → List ℕ → List ℕ
if_room at new old = cond (leb (at + length new) (length old)) new []

-- what a call did that put the text new into the table old from place at on: r is the next free place, and the table is now after
pub record Put (at : ℕ) (new old : List ℕ) (r : ℕ) (after : List ℕ) : Type 0 where
  pub laid : Laid at (if_room at new old) old r after

-- there are r bytes. The second part follows from the first; with both a caller's `&text[..r]` asks nothing more
abbrev pub Front : ℕ → List ℕ → Type 0
Front r text = (r ≤ length text) × (r ≡ length (take r text))
