-- 01 'Volume and the four-corner rule': the plane of a face as four doubles, and the plane reading.
use Rattle.std.specs.Prelude.{Bool, not, ◌&&◌, List, ℕ, ltb, ℤ, neg_ℤ, Float, Result, Ok, Err}
use Rattle.touches.specs.declared.Point.{Point}
use Rattle.touches.specs.declared.refusal.Refusal.{Refusal}
use Rattle.touches.specs.declared.refusal.Refusal.TheVariants.{NoSuchFace, PlaceOutOfRange}
use Rattle.touches.specs.Limits.{place_in_range}
use Rattle.touches.specs.Touches.{touch, touch_count}
use Rattle.touches.specs.Check.{pick, checked, if_accepted}
use Rattle.volume.specs.Volume.{Vol, normal, offset, in_line}
use Rattle.laws.specs.Doubles.{double, plus_zero}
use Rattle.planes.specs.declared.Plane.{Plane}

-- the three parts of (b − a) cross (c − a), and its dot product with a
abbrev pub plane_of : Point → Point → Point → Plane
plane_of a b c = record { x = double (normal a b c).x; y = double (normal a b c).y; z = double (normal a b c).z; offset = double (offset a b c) }

-- a touch number is below the touch count
abbrev pub is_touch : List ℤ → ℕ → Bool
is_touch cs a = ltb a (touch_count cs)

-- refusal 6 for a single face: a number that is no touch's, or three corners in line
unfoldable pub good_corners : List ℤ → ℕ → ℕ → ℕ → Bool
good_corners cs a b c = is_touch cs a && (is_touch cs b && (is_touch cs c && not (in_line (touch cs a) (touch cs b) (touch cs c))))

abbrev pub face_plane : List ℤ → ℕ → ℕ → ℕ → Result Plane Refusal
face_plane cs a b c = pick (good_corners cs a b c) (Ok (plane_of (touch cs a) (touch cs b) (touch cs c))) (Err NoSuchFace)

-- refusals 1, 2, 3, 6
abbrev pub planed : List ℤ → ℕ → ℕ → ℕ → Result Plane Refusal
planed cs a b c = if_accepted (checked cs) (face_plane cs a b c)

-- refusals 1, 2, 3, 6, 7; else exactly −V(a, b, c, q)
abbrev pub plane_reading : List ℤ → ℕ → ℕ → ℕ → Point → Result Float Refusal
plane_reading cs a b c q =
    if_accepted (checked cs)
    (pick (good_corners cs a b c)
    (pick (place_in_range q) (Ok (double (neg_ℤ (Vol (touch cs a) (touch cs b) (touch cs c) q)))) (Err PlaceOutOfRange))
    (Err NoSuchFace))

-- the values of each answer, plus zero where it is refused
abbrev pub planed_plane : Result Plane Refusal → Plane
planed_plane (Ok p) = p
planed_plane (Err r) = record { x = plus_zero; y = plus_zero; z = plus_zero; offset = plus_zero }

abbrev pub reading_value : Result Float Refusal → Float
reading_value (Ok v) = v
reading_value (Err r) = plus_zero
