-- The search for the start, as the inner steps' contracts cite it.
use Rattle.std.specs.Prelude.{Bool, not, ℕ, ◌<◌, Option, None, Some}
use Rattle.std.proofs.Math.Option.{Option as Maybe, none, some}
use Rattle.touches.specs.declared.TouchNo.{TouchNo}
use Rattle.touches.specs.Touches.{touch_no}
use Rattle.volume.specs.Volume.{Vol, in_line, is_zero}
use Rattle.rules.specs.Faces.{Places}
use Rattle.rules.specs.Start.{same_place, Start as Four}
use Rattle.hull.specs.declared.start.Start.{Start}

-- the tests of the rule for Q, R and S, P being touch 0
abbrev pub is_apart : Places → ℕ → Bool
is_apart p k = not (same_place (p 0) (p k))

abbrev pub is_off_line : Places → ℕ → ℕ → Bool
is_off_line p q k = not (in_line (p 0) (p q) (p k))

abbrev pub is_off_plane : Places → ℕ → ℕ → ℕ → Bool
is_off_plane p q r k = not (is_zero (Vol (p 0) (p q) (p r) (p k)))

-- the rule's answer as the code holds it
abbrev pub found_of : Maybe ℕ → Option TouchNo
found_of none = None
found_of (some k) = Some (touch_no k)

-- the rule's P, Q, R, S as the code holds them, and back
abbrev pub started_of : Maybe Four → Option Start
started_of none = None
started_of (some s) = Some (record { p = touch_no s.P; q = touch_no s.Q; r = touch_no s.R; s = touch_no s.S })

abbrev pub start_of : Start → Four
start_of s = record { P = s.p.0; Q = s.q.0; R = s.r.0; S = s.s.0 }

-- all four are below n
pub record KnownStart (n : ℕ) (f : Start) : Type 0 where
  pub p : f.p.0 < n
  pub q : f.q.0 < n
  pub r : f.r.0 < n
  pub s : f.s.0 < n
