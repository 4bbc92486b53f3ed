-- 01 'Numbers': the limits of the touch list, and which coordinates are in range.
use Rattle.std.specs.Prelude.{ℕ, Bool, ◌&&◌, ℤ, pos, neg_ℤ}
use Rattle.std.specs.Int.Signed.{le_z}
use Rattle.touches.specs.declared.Limits.{Limits}
use Rattle.touches.specs.declared.Point.{Point}

abbrev pub most_touches : ℕ
most_touches = 64

abbrev pub reach : ℕ
reach = 30000

abbrev pub most_faces : ℕ
most_faces = 1344

-- the same three as the code has them
abbrev pub limits_of : Limits
limits_of = record { touches = most_touches; reach = pos reach; faces = most_faces }

unfoldable pub in_range : ℤ → Bool
in_range x = le_z (neg_ℤ (pos reach)) x && le_z x (pos reach)

abbrev pub place_in_range : Point → Bool
place_in_range q = in_range q.x && in_range q.y && in_range q.z
