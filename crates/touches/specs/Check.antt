-- 01 'Refusal numbers': 1, 2 and 3 of a lent coordinate list, in this order; the place of 3 is the first such touch.
use Rattle.std.specs.Prelude.{◌≡◌, ℕ, suc, ◌*◌, ◌/◌, ◌%◌, List, [], ◌∷◌, Bool, true, false, leb, eqb, ℤ, length, Option, None, Some, Result, Ok, Err}
use Rattle.touches.specs.Limits.{most_touches, in_range, place_in_range}
use Rattle.touches.specs.Touches.{touch_count, touch_no, Near}
use Rattle.touches.specs.declared.TouchNo.{TouchNo}
use Rattle.touches.specs.declared.refusal.Refusal.{Refusal}
use Rattle.touches.specs.declared.refusal.Refusal.TheVariants.{CoordinatesNotInThrees, TooManyTouches, CoordinateOutOfRange, PlaceOutOfRange}
use Rattle.touches.specs.declared.Point.{Point}
use Rattle.touches.specs.declared.list.TouchList.{TouchList}

abbrev pub pick : {A : Type 0} → Bool → A → A → A
pick true a b = a
pick false a b = b

-- the touch of the first coordinate out of range, the list's first being coordinate number i
unfoldable pub stray_from : ℕ → List ℤ → Option TouchNo
stray_from i [] = None
stray_from i (x ∷ cs) = pick (in_range x) (stray_from (suc i) cs) (Some (touch_no (i / 3)))

abbrev pub of_stray : List ℤ → Option TouchNo → Result (List ℤ) Refusal
of_stray cs None = Ok cs
of_stray cs (Some k) = Err (CoordinateOutOfRange k)

-- a list that passes is the answer itself
abbrev pub checked : List ℤ → Result (List ℤ) Refusal
checked cs =
    pick (eqb (length cs % 3) 0)
    (pick (leb (length cs) (most_touches * 3)) (of_stray cs (stray_from 0 cs)) (Err TooManyTouches))
    (Err CoordinatesNotInThrees)

-- its touch count, 0 where it is refused
abbrev pub checked_count : Result (List ℤ) Refusal → ℕ
checked_count (Ok l) = touch_count l
checked_count (Err r) = 0

-- the code answers with a touch list: the same answer, with the coordinates that it lends
abbrev pub coords_of : Result TouchList Refusal → Result (List ℤ) Refusal
coords_of (Ok l) = Ok l.lent.now
coords_of (Err r) = Err r

-- a refusal of the list is the call's answer; else the call goes on
abbrev pub if_accepted : {A B : Type 0} → Result B Refusal → Result A Refusal → Result A Refusal
if_accepted (Ok b) a = a
if_accepted (Err r) a = Err r

-- refusal 7 of a place
abbrev pub place_checked : Point → Result Point Refusal
place_checked q = pick (place_in_range q) (Ok q) (Err PlaceOutOfRange)

-- the point r is the place p, which is in range
pub record IsPlace (p r : Point) : Type 0 where
  pub is : r ≡ p
  pub near : Near r
