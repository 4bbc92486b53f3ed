-- The counts that the record calls give are small: at most 64 touches, so at most 387 bytes.
use mathlib.Core.Path.{◌≡◌, refl}
use mathlib.Core.Bool.{Bool, true, false}
use mathlib.Core.List.{List}
use Prim.Native.Nat.{ℕ, ◌+◌, ◌*◌, ◌≤◌}
use native.Mathlib.Omega.{arith}
use lib.Dec.{leb}
use lib.IntN.{ℤ}
use Rattle.std.specs.Prelude.{Result, Ok, Err}
use Rattle.touches.specs.declared.refusal.Refusal.{Refusal}
use Rattle.touches.specs.declared.refusal.Refusal.TheVariants.{TouchRoomTooSmall, RecordRoomTooSmall}
use Rattle.touches.specs.Limits.{most_touches}
use Rattle.touches.specs.Touches.{touch_count}
use Rattle.touches.specs.Check.{pick, checked}
use Rattle.touches.proofs.SoundLaws.{accepted_sound}
use Rattle.records.specs.Record.{touches_in}
use Rattle.records.specs.Answers.{checked_record, into_list, into_buffer, count_given}
use Rattle.records.proofs.CheckLaws.{passes}

pub lists_few : (cs l : List ℤ) → checked cs ≡ Ok l → touch_count l ≤ most_touches
lists_few cs l e = let p = accepted_sound cs l e in rw p.same (omega (arith, p.sound.few))

-- what holds of an accepted list's count holds of the answer's, 0 being small
module _ (c : Result (List ℤ) Refusal) (few : (l : List ℤ) → c ≡ Ok l → touch_count l ≤ most_touches) (room : ℕ) where
  pub read_few : count_given (into_list room c) ≤ 65535
  read_few = go c refl
    where
      by : (n : ℕ) → n ≤ most_touches → (b : Bool) → count_given (pick b (Ok n) (Err TouchRoomTooSmall)) ≤ 65535
      by n h true = omega arith
      by n h false = omega arith

      go : (d : Result (List ℤ) Refusal) → c ≡ d → count_given (into_list room d) ≤ 65535
      go (Ok l) e = by (touch_count l) (few l e) (leb (touch_count l * 3) room)
      go (Err x) e = omega arith

  pub write_few : count_given (into_buffer room c) ≤ 65535
  write_few = go c refl
    where
      by : (n : ℕ) → n ≤ most_touches → (b : Bool) → count_given (pick b (Ok (3 + 6 * n)) (Err RecordRoomTooSmall)) ≤ 65535
      by n h true = omega arith
      by n h false = omega arith

      go : (d : Result (List ℤ) Refusal) → c ≡ d → count_given (into_buffer room d) ≤ 65535
      go (Ok l) e = by (touch_count l) (few l e) (leb (3 + 6 * touch_count l) room)
      go (Err x) e = omega arith

pub records_few : (version : ℕ) (r : List ℕ) (l : List ℤ) → checked_record version r ≡ Ok l → touch_count l ≤ most_touches
records_few version r l e = lists_few (touches_in r) l (passes version r e).touches
