-- 01 'Refusal numbers': what reading, writing and copying answer, the first refusal of each call's order, and the lent tables afterwards.
use Rattle.std.specs.Prelude.{ℕ, ◌+◌, ◌-◌, ◌*◌, ◌%◌, ◌≡◌, Bool, true, false, ◌&&◌, List, leb, eqb, ℤ, length, Result, Ok, Err}
use Rattle.laws.specs.Lists.{lay}
use Rattle.touches.specs.declared.refusal.Refusal.{Refusal}
use Rattle.touches.specs.declared.refusal.Refusal.TheVariants.{RecordLengthWrong, RecordVersionUnknown, RecordTouchCutShort, TouchRoomTooSmall, RecordRoomTooSmall}
use Rattle.touches.specs.Touches.{touch_count}
use Rattle.touches.specs.Check.{pick, checked}
use Rattle.records.specs.Record.{record_of, count_in, version_in, touches_in}

-- ---- refusals 8, 9, 10, 2 and 3 of a record, for the one version that is taken
abbrev pub unless : Bool → Refusal → Result (List ℤ) Refusal → Result (List ℤ) Refusal
unless true x c = c
unless false x c = Err x

-- at least three bytes, and n is the count of bytes that follow
abbrev pub sized : List ℕ → Bool
sized r = leb 3 (length r) && eqb (count_in r) (length r - 2)

-- a record's touches come in threes of coordinates, so of 1, 2 and 3 only 2 and 3 apply; one that passes gives its touches
unfoldable pub checked_record : ℕ → List ℕ → Result (List ℤ) Refusal
checked_record version r =
    unless (sized r) RecordLengthWrong
    (unless (eqb (version_in r) version) RecordVersionUnknown
    (unless (eqb ((count_in r - 1) % 6) 0) RecordTouchCutShort
    (checked (touches_in r))))

-- ---- read 8, 9, 10, 2, 3, 11
abbrev pub into_list : ℕ → Result (List ℤ) Refusal → Result ℕ Refusal
into_list room (Ok l) = pick (leb (touch_count l * 3) room) (Ok (touch_count l)) (Err TouchRoomTooSmall)
into_list room (Err x) = Err x

abbrev pub read_of : ℕ → List ℕ → ℕ → Result ℕ Refusal
read_of version r room = into_list room (checked_record version r)

-- ---- write 1, 2, 3, 12; copy 8, 9, 10, 2, 3, 12
abbrev pub into_buffer : ℕ → Result (List ℤ) Refusal → Result ℕ Refusal
into_buffer room (Ok l) = pick (leb (3 + 6 * touch_count l) room) (Ok (3 + 6 * touch_count l)) (Err RecordRoomTooSmall)
into_buffer room (Err x) = Err x

abbrev pub write_of : List ℤ → ℕ → Result ℕ Refusal
write_of cs room = into_buffer room (checked cs)

abbrev pub copy_of : ℕ → List ℕ → ℕ → Result ℕ Refusal
copy_of version r room = into_buffer room (checked_record version r)

-- ---- a lent table afterwards: the new first part and the rest as it was, or on a refusal all as it was
abbrev pub after : {A B : Type 0} → Result B Refusal → List A → List A → List A
after (Ok n) new old = lay 0 new old
after (Err x) new old = old

abbrev pub list_after : Result ℕ Refusal → List ℤ → List ℤ → List ℤ
list_after a new old = after a new old

abbrev pub buffer_after : Result ℕ Refusal → List ℕ → List ℕ → List ℕ
buffer_after a new old = after a new old

-- ---- the count of touches or bytes, 0 for a refusal
abbrev pub count_given : Result ℕ Refusal → ℕ
count_given (Ok n) = n
count_given (Err x) = 0

-- ---- the promises: the answer r of a call, and its lent table, old before and after
pub record ReadGives (version : ℕ) (bytes : List ℕ) (old : List ℤ) (r : Result ℕ Refusal) (after : List ℤ) : Type 0 where
  pub answer : r ≡ read_of version bytes (length old)
  pub table : after ≡ list_after r (touches_in bytes) old

pub record WriteGives (version : ℕ) (coords : List ℤ) (old : List ℕ) (r : Result ℕ Refusal) (after : List ℕ) : Type 0 where
  pub answer : r ≡ write_of coords (length old)
  pub table : after ≡ buffer_after r (record_of version coords) old

-- the copied bytes are the record's own
pub record CopyGives (version : ℕ) (bytes : List ℕ) (old : List ℕ) (r : Result ℕ Refusal) (after : List ℕ) : Type 0 where
  pub answer : r ≡ copy_of version bytes (length old)
  pub table : after ≡ buffer_after r bytes old
