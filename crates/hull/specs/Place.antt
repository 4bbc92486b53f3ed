-- 01 'Where a place lies', 02 A5 and A7: what the call gives.
use Rattle.std.specs.Prelude.{Result, Ok, Err}
use Rattle.std.specs.Prelude.{List, ℕ, ℤ, pos}
use Rattle.touches.specs.declared.refusal.Refusal.TheVariants.{NoSuchFace, PlaceInNoTriangle, PlaceOutOfRange}
use Rattle.touches.specs.declared.FaceNo.{FaceNo}
use Rattle.touches.specs.declared.Point.{Point}
use Rattle.touches.specs.declared.refusal.Refusal.{Refusal}
use Rattle.touches.specs.Limits.{place_in_range}
use Rattle.touches.specs.Touches.{touch, touch_count, face_no}
use Rattle.touches.specs.Check.{pick, checked, if_accepted}
use Rattle.rules.specs.Placing.{Lies, outside, on, inside, astray, lies}
use Rattle.table.specs.Table.{faces_in, usable}
use Rattle.hull.specs.declared.place.Placed.{Placed}
use Rattle.hull.specs.declared.place.Placed.TheVariants.{Outside, On, Inside}

abbrev pub placed_by : Lies → Result Placed Refusal
placed_by (outside f d) = Ok (Outside (face_no f) d)
placed_by (on f) = Ok (On (face_no f))
placed_by inside = Ok Inside
placed_by astray = Err PlaceInNoTriangle

-- refusals 1, 2, 3, 6, 7; else where q lies against the faces of the table, 17 where it is astray
abbrev pub placed : List ℤ → List ℕ → Point → Result Placed Refusal
placed cs t q =
    if_accepted (checked cs)
    (pick (usable (touch_count cs) t)
    (pick (place_in_range q) (placed_by (lies (touch cs) (faces_in t) q)) (Err PlaceOutOfRange))
    (Err NoSuchFace))

-- the face that an answer names, 0 where it names none or is a refusal
abbrev pub placed_face : Result Placed Refusal → FaceNo
placed_face (Ok (Outside f d)) = f
placed_face (Ok (On f)) = f
placed_face (Ok Inside) = face_no 0
placed_face (Err r) = face_no 0

-- minus V of the face that it names, 0 unless outside
abbrev pub placed_minus_v : Result Placed Refusal → ℤ
placed_minus_v (Ok (Outside f d)) = d
placed_minus_v (Ok (On f)) = pos 0
placed_minus_v (Ok Inside) = pos 0
placed_minus_v (Err r) = pos 0
