-- What building depends on: V of every four touches, which two are at one position, and which three are in line.
use Rattle.std.specs.Prelude.{◌≡◌, ℕ, ◌<◌}
use Rattle.volume.specs.Volume.{Vol, in_line}
use Rattle.rules.specs.Faces.{Places}
use Rattle.rules.specs.Start.{same_place}

pub record Alike (p r : Places) (n : ℕ) : Type 0 where
  pub volumes : (a b c d : ℕ) → a < n → b < n → c < n → d < n → Vol (p a) (p b) (p c) (p d) ≡ Vol (r a) (r b) (r c) (r d)
  pub positions : (a b : ℕ) → a < n → b < n → same_place (p a) (p b) ≡ same_place (r a) (r b)
  pub lines : (a b c : ℕ) → a < n → b < n → c < n → in_line (p a) (p b) (p c) ≡ in_line (r a) (r b) (r c)
