-- Demand 1 of the record calls: each is refused with the first number of its order that applies.
use mathlib.Core.Path.{◌≡◌, refl, ap, ◌∙◌}
use mathlib.Core.Logic.{◌↔◌, inl, inr, ◌≢◌}
use mathlib.Core.Bool.{true, false}
use mathlib.Core.List.{List}
use Prim.Native.Nat.{ℕ, ◌+◌, ◌-◌, ◌*◌, ◌%◌, ◌<◌}
use native.Mathlib.Decide.{ℕ_discrete}
use borrow.Author.Tests.{eq-eqb, ne_eqb, le-leb, lt-leb}
use lib.IntN.{ℤ}
use lib.ListN.{length, drop}
use Rattle.std.specs.Prelude.{Result, Ok, Err}
use Rattle.touches.specs.declared.refusal.Refusal.{Refusal}
use Rattle.touches.specs.declared.refusal.Refusal.TheVariants.{RecordLengthWrong, RecordVersionUnknown, RecordTouchCutShort, TouchRoomTooSmall, RecordRoomTooSmall}
use Rattle.touches.specs.Touches.{touch_count, FirstStray}
use Rattle.touches.specs.Refusals.{too_many_touches, coordinate_out_of_range, record_version_unknown, record_touch_cut_short, touch_room_too_small, record_room_too_small}
use Rattle.touches.specs.Check.{checked}
use Rattle.records.specs.Record.{plain_version, count_in, version_in, touches_in}
use Rattle.records.specs.Answers.{sized, checked_record, into_list, into_buffer}
use Rattle.records.proofs.BodyLaws.{touches_whole}
use Rattle.demands.specs.Demands.{first, never, at0, TooMany, Sized, list_order, record_order, read_order, write_order, copy_order, read, written, copied}
use Rattle.demands.proofs.FirstLaws.{decided, failed, given_never, unless_so, where_less}
use Rattle.demands.proofs.ReasonLaws.{sized_tests}
use Rattle.demands.proofs.ListLaws.{of_touches}

-- ---- a record's check, by its tests
module _ (b : List ℕ) where
  is_8 : sized b ≡ false → checked_record plain_version b ≡ Err RecordLengthWrong
  unfolding checked_record
  is_8 s = rw s

  module _ (s : sized b ≡ true) where
    is_9 : version_in b ≢ plain_version → checked_record plain_version b ≡ Err RecordVersionUnknown
    unfolding checked_record
    is_9 d = rw (s, ne_eqb (version_in b) plain_version d)

    module _ (v : version_in b ≡ plain_version) where
      is_10 : (count_in b - 1) % 6 ≢ 0 → checked_record plain_version b ≡ Err RecordTouchCutShort
      unfolding checked_record
      is_10 d = rw (s, eq-eqb (version_in b) plain_version v, ne_eqb ((count_in b - 1) % 6) 0 d)

      is_touches : (count_in b - 1) % 6 ≡ 0 → checked_record plain_version b ≡ checked (touches_in b)
      unfolding checked_record
      is_touches w = rw (s, eq-eqb (version_in b) plain_version v, eq-eqb ((count_in b - 1) % 6) 0 w)

-- ---- a call that checks a record, and then answers by the list
module _ {A : Type 0} (k : Result (List ℤ) Refusal → Result A Refusal) (told : (r : Refusal) → k (Err r) ≡ Err r)
    (b : List ℕ) (later : Refusal → Type 0) (h : (r : Refusal) → (k (Ok (touches_in b)) ≡ Err r) ↔ later r) where
  abbrev two : Refusal → Type 0
  two = first too_many_touches (at0 (TooMany (touches_in b))) (first coordinate_out_of_range (FirstStray (touches_in b)) later)

  abbrev ten : Refusal → Type 0
  ten = first record_touch_cut_short (at0 ((count_in b - 1) % 6 ≢ 0)) two

  abbrev nine : Refusal → Type 0
  nine = first record_version_unknown (at0 (version_in b ≢ plain_version)) ten

  -- 1 never applies to whole touches
  of_whole : length (touches_in b) % 3 ≡ 0 → (r : Refusal) → (k (checked (touches_in b)) ≡ Err r) ↔ two r
  of_whole w r = let f = of_touches k told (touches_in b) later h r in ((λ e. to (f.0 e)), (λ u. f.1 (inr ((λ i v. v.1 w), u))))
    where
      to : list_order (touches_in b) later r → two r
      to (inl u) = absurd (u.1.1 w)
      to (inr u) = u.1

  of_record : (r : Refusal) → (k (checked_record plain_version b) ≡ Err r) ↔ record_order b later r
  of_record =
      let x = k (checked_record plain_version b) in
      unless_so (Sized b) RecordLengthWrong x nine refl (decided (sized_tests b)) (λ d. ap k (is_8 b (failed (sized_tests b) d)) ∙ told RecordLengthWrong)
      (λ u. let s = (sized_tests b).holds u in
      unless_so (version_in b ≡ plain_version) RecordVersionUnknown x ten refl (ℕ_discrete (version_in b) plain_version) (λ c. ap k (is_9 b s c) ∙ told RecordVersionUnknown)
      (λ v. unless_so ((count_in b - 1) % 6 ≡ 0) RecordTouchCutShort x two refl (ℕ_discrete ((count_in b - 1) % 6) 0) (λ c. ap k (is_10 b s v c) ∙ told RecordTouchCutShort)
      (λ w. rw (is_touches b s v w) (of_whole (touches_whole (drop 3 b))))))

-- ---- 11 and 12
into_list_lem : (room : ℕ) (l : List ℤ) (r : Refusal) → (into_list room (Ok l) ≡ Err r) ↔ first touch_room_too_small (at0 (room < touch_count l * 3)) never r
into_list_lem room l = let n = touch_count l in where_less room (n * 3) TouchRoomTooSmall (into_list room (Ok l)) never refl (λ s. rw (lt-leb (n * 3) room s)) (λ s. rw (le-leb (n * 3) room s) (given_never n))

into_buffer_lem : (room : ℕ) (l : List ℤ) (r : Refusal) → (into_buffer room (Ok l) ≡ Err r) ↔ first record_room_too_small (at0 (room < 3 + 6 * touch_count l)) never r
into_buffer_lem room l = let n = 3 + 6 * touch_count l in where_less room n RecordRoomTooSmall (into_buffer room (Ok l)) never refl (λ s. rw (lt-leb n room s)) (λ s. rw (le-leb n room s) (given_never n))

-- ---- the calls
pub read_first : (b : List ℕ) (old : List ℤ) (r : Refusal) → (read b old ≡ Err r) ↔ read_order b old r
read_first b old = let l = touches_in b in of_record (into_list (length old)) (λ r. refl) b (first touch_room_too_small (at0 (length old < touch_count l * 3)) never) (into_list_lem (length old) l)

pub write_first : (cs : List ℤ) (old : List ℕ) (r : Refusal) → (written cs old ≡ Err r) ↔ write_order cs old r
write_first cs old = of_touches (into_buffer (length old)) (λ r. refl) cs (first record_room_too_small (at0 (length old < 3 + 6 * touch_count cs)) never) (into_buffer_lem (length old) cs)

pub copy_first : (b old : List ℕ) (r : Refusal) → (copied b old ≡ Err r) ↔ copy_order b old r
copy_first b old = let l = touches_in b in of_record (into_buffer (length old)) (λ r. refl) b (first record_room_too_small (at0 (length old < 3 + 6 * touch_count l)) never) (into_buffer_lem (length old) l)
