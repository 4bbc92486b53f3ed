-- A refusal is told by its number and its place.
use mathlib.Core.Path.{◌≡◌, refl, sym, ap₂, ◌∙◌}
use mathlib.Core.List.{[], ◌∷◌}
use Prim.Native.Nat.{ℕ}
use lib.ListN.{get_or}
use Rattle.touches.specs.declared.refusal.Refusal.{Refusal}
use Rattle.touches.specs.declared.refusal.Refusal.TheVariants.{CoordinatesNotInThrees, TooManyTouches, CoordinateOutOfRange, AllTouchesOnOnePlane, FaceTableTooSmall, NoSuchFace, PlaceOutOfRange, RecordLengthWrong, RecordVersionUnknown, RecordTouchCutShort, TouchRoomTooSmall, RecordRoomTooSmall, PlaceInNoTriangle}
use Rattle.touches.specs.Touches.{touch_no}
use Rattle.touches.specs.Refusals.{number, place}

-- those with the numbers 1 to 12 in their order; any other number is taken for 17
abbrev named : ℕ → ℕ → Refusal
named n k = get_or
    (PlaceInNoTriangle ∷ CoordinatesNotInThrees ∷ TooManyTouches ∷ CoordinateOutOfRange (touch_no k) ∷ AllTouchesOnOnePlane ∷ FaceTableTooSmall ∷ NoSuchFace ∷ PlaceOutOfRange
    ∷ RecordLengthWrong ∷ RecordVersionUnknown ∷ RecordTouchCutShort ∷ TouchRoomTooSmall ∷ RecordRoomTooSmall ∷ [])
    n PlaceInNoTriangle

by_name : (r : Refusal) → named (number r) (place r).0 ≡ r
by_name CoordinatesNotInThrees = refl
by_name TooManyTouches = refl
by_name (CoordinateOutOfRange k) = refl
by_name AllTouchesOnOnePlane = refl
by_name FaceTableTooSmall = refl
by_name NoSuchFace = refl
by_name PlaceOutOfRange = refl
by_name RecordLengthWrong = refl
by_name RecordVersionUnknown = refl
by_name RecordTouchCutShort = refl
by_name TouchRoomTooSmall = refl
by_name RecordRoomTooSmall = refl
by_name PlaceInNoTriangle = refl

pub same_refusal : {r s : Refusal} → number r ≡ number s → (place r).0 ≡ (place s).0 → r ≡ s
same_refusal {r} {s} e f = sym (by_name r) ∙ ap₂ named e f ∙ by_name s
