-- The marks that touches leave on the sides of the faces they see, in a table that is never cleared.
use Rattle.std.specs.Prelude.{◌≡◌, Bool, not, List, [], ◌∷◌, ℕ, ◌+◌, ◌*◌, ◌≤◌, ◌<◌, eqb, length, get_or, set}
use Rattle.laws.specs.Lists.{In, has}
use Rattle.touches.specs.Limits.{most_touches}
use Rattle.rules.specs.Faces.{Face, Side, side, same_side, sides}
use Rattle.rules.specs.Demands.{CornersIn}

-- where the mark of side a→b stands in a table of w times w
abbrev pub mark_place : ℕ → ℕ → ℕ → ℕ
mark_place w a b = a * w + b

-- the mark that touch k leaves
abbrev pub stamp : ℕ → ℕ
stamp k = k + 2

-- a table for touches below w
pub record MarkTable (w : ℕ) (marks : List ℕ) : Type 0 where
  pub few : w ≤ most_touches
  pub room : w * w ≤ length marks

-- no mark is of touch k or a later one
pub record Fresh (k : ℕ) (marks : List ℕ) : Type 0 where
  pub old : (j : ℕ) → get_or marks j 0 ≤ k + 1

-- the faces v are over touches below w
abbrev pub FacesOver : ℕ → List Face → Type 0
FacesOver w v = (f : Face) → In f v → CornersIn (λ t. t < w) f

-- the sides marked by touch k are those of the faces v
pub record Marked (w k : ℕ) (v : List Face) (marks : List ℕ) : Type 0 where
  pub test : (a b : ℕ) → a < w → b < w → eqb (get_or marks (mark_place w a b) 0) (stamp k) ≡ has same_side (side a b) (sides v)

-- side s turned round has no mark of touch k
abbrev pub unmarked : List ℕ → ℕ → ℕ → Side → Bool
unmarked marks w k s = not (eqb (get_or marks (mark_place w s.to s.from) 0) (stamp k))

-- the table once touch k has marked side s
abbrev pub mark_side : ℕ → ℕ → Side → List ℕ → List ℕ
mark_side w k s marks = set marks (mark_place w s.from s.to) (stamp k)

-- once it has marked the sides l, one after another
abbrev pub mark_sides : ℕ → ℕ → List Side → List ℕ → List ℕ
mark_sides w k [] marks = marks
mark_sides w k (s ∷ l) marks = mark_sides w k l (mark_side w k s marks)
