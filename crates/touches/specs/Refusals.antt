-- 01 'Refusal numbers': the number of each refusal by its name, which texts/meanings.tsv has as its key, and the touch that it speaks of.
use Rattle.std.specs.Prelude.{ℕ, List, ◌∷◌, ◌++◌, Result, Ok, Err}
use Rattle.std.specs.Fmt.{decimal}
use Rattle.touches.specs.declared.TouchNo.{TouchNo}
use Rattle.touches.specs.declared.refusal.Refusal.{Refusal}
use Rattle.touches.specs.declared.refusal.Refusal.TheVariants.{CoordinatesNotInThrees, TooManyTouches, CoordinateOutOfRange, AllTouchesOnOnePlane, FaceTableTooSmall, NoSuchFace, PlaceOutOfRange, RecordLengthWrong, RecordVersionUnknown, RecordTouchCutShort, TouchRoomTooSmall, RecordRoomTooSmall, PlaceInNoTriangle}
use Rattle.touches.specs.Touches.{touch_no}

abbrev pub coordinates_not_in_threes : ℕ
coordinates_not_in_threes = 1

abbrev pub too_many_touches : ℕ
too_many_touches = 2

abbrev pub coordinate_out_of_range : ℕ
coordinate_out_of_range = 3

abbrev pub all_touches_on_one_plane : ℕ
all_touches_on_one_plane = 4

abbrev pub face_table_too_small : ℕ
face_table_too_small = 5

abbrev pub no_such_face : ℕ
no_such_face = 6

abbrev pub place_out_of_range : ℕ
place_out_of_range = 7

abbrev pub record_length_wrong : ℕ
record_length_wrong = 8

abbrev pub record_version_unknown : ℕ
record_version_unknown = 9

abbrev pub record_touch_cut_short : ℕ
record_touch_cut_short = 10

abbrev pub touch_room_too_small : ℕ
touch_room_too_small = 11

abbrev pub record_room_too_small : ℕ
record_room_too_small = 12

abbrev pub place_in_no_triangle : ℕ
place_in_no_triangle = 17

abbrev pub number : Refusal → ℕ
number CoordinatesNotInThrees = coordinates_not_in_threes
number TooManyTouches = too_many_touches
number (CoordinateOutOfRange k) = coordinate_out_of_range
number AllTouchesOnOnePlane = all_touches_on_one_plane
number FaceTableTooSmall = face_table_too_small
number NoSuchFace = no_such_face
number PlaceOutOfRange = place_out_of_range
number RecordLengthWrong = record_length_wrong
number RecordVersionUnknown = record_version_unknown
number RecordTouchCutShort = record_touch_cut_short
number TouchRoomTooSmall = touch_room_too_small
number RecordRoomTooSmall = record_room_too_small
number PlaceInNoTriangle = place_in_no_triangle

-- touch 0 where it speaks of no touch
abbrev pub place : Refusal → TouchNo
place CoordinatesNotInThrees = touch_no 0
place TooManyTouches = touch_no 0
place (CoordinateOutOfRange k) = k
place AllTouchesOnOnePlane = touch_no 0
place FaceTableTooSmall = touch_no 0
place NoSuchFace = touch_no 0
place PlaceOutOfRange = touch_no 0
place RecordLengthWrong = touch_no 0
place RecordVersionUnknown = touch_no 0
place RecordTouchCutShort = touch_no 0
place TouchRoomTooSmall = touch_no 0
place RecordRoomTooSmall = touch_no 0
place PlaceInNoTriangle = touch_no 0

-- the number and the place that a call gives, 0 where it succeeds
abbrev pub number_given : {A : Type 0} → Result A Refusal → ℕ
number_given (Ok a) = 0
number_given (Err r) = number r

abbrev pub place_given : {A : Type 0} → Result A Refusal → TouchNo
place_given (Ok a) = touch_no 0
place_given (Err r) = place r

-- as it is printed: `refused`, number and place
abbrev pub shown : Refusal → List ℕ
shown r = 114 ∷ 101 ∷ 102 ∷ 117 ∷ 115 ∷ 101 ∷ 100 ∷ 32 ∷ decimal (number r) ++ 32 ∷ decimal (place r).0
