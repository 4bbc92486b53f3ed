-- Demand 2 of records: written and read back, read and written back, each from the first call's answer.
use mathlib.Core.Path.{◌≡◌, refl, sym, ap, subst, ◌∙◌}
use mathlib.Core.Bool.{Bool, true, false}
use mathlib.Core.List.{List}
use Prim.Native.Nat.{ℕ, ◌+◌, ◌*◌, ◌≤◌}
use borrow.Author.Tests.{leb-true}
use lib.Dec.{leb}
use lib.IntN.{ℤ}
use lib.ListN.{length, take}
use Rattle.std.specs.Prelude.{Result, Ok, Err}
use Rattle.laws.proofs.Tables.{lay_first}
use Rattle.touches.specs.declared.refusal.Refusal.{Refusal}
use Rattle.touches.specs.declared.refusal.Refusal.TheVariants.{RecordRoomTooSmall}
use Rattle.touches.specs.Touches.{touch_count}
use Rattle.touches.specs.Check.{pick, checked}
use Rattle.records.specs.Record.{plain_version, AreBytes}
use Rattle.records.specs.Answers.{into_buffer, count_given}
use Rattle.records.specs.RoundTrip.{IsRead, IsWritten}
use Rattle.records.proofs.RoundTrip.{round_trip}
use Rattle.records.proofs.CopyLaws.{has_read}
use Rattle.demands.specs.Demands.{read, written, after_read, after_write}

-- ---- what an answer that is no refusal says
wrote : (k : Result (List ℤ) Refusal) (room n : ℕ) → into_buffer room k ≡ Ok n → (l : List ℤ) × (k ≡ Ok l) × (3 + 6 * touch_count l ≤ room)
wrote (Err r) room n e = cc
wrote (Ok l) room n e = (l, refl, go (leb (3 + 6 * touch_count l) room) refl e)
  where
    go : (b : Bool) → leb (3 + 6 * touch_count l) room ≡ b → pick b (Ok (3 + 6 * touch_count l)) (Err RecordRoomTooSmall) ≡ Ok n → 3 + 6 * touch_count l ≤ room
    go true t f = leb-true (3 + 6 * touch_count l) room t
    go false t f = cc

-- ---- there and back
module _ (cs : List ℤ) (buffer : List ℕ) (old : List ℤ) where
  abbrev Back : ℕ → Type 0
  Back k = let b = take k (after_write cs buffer) in IsRead cs old (read b old) (after_read b old)

  pub trip_list : (n : ℕ) → written cs buffer ≡ Ok n → length cs ≤ length old → let b = take n (after_write cs buffer) in (read b old ≡ Ok (touch_count cs)) × (take (length cs) (after_read b old) ≡ cs)
  trip_list n e enough =
      let w = wrote (checked cs) (length buffer) n e in
      let b = take (count_given (written cs buffer)) (after_write cs buffer) in
      let back : Back (count_given (written cs buffer)) =
      (round_trip plain_version).write_read cs w.0 buffer (after_write cs buffer) old (after_read b old) (written cs buffer) (read b old) w.1 w.2 enough (record { answer = refl; table = refl }) (record { answer = refl; table = refl }) in
      let is = subst Back (ap count_given e) back in
      (is.answer, ap (take (length cs)) is.table ∙ lay_first cs old)

module _ (b : List ℕ) (list : List ℤ) (old : List ℕ) where
  abbrev Again : ℕ → Type 0
  Again k = let cs = take (k * 3) (after_read b list) in IsWritten b old (written cs old) (after_write cs old)

  pub trip_record : (m : ℕ) → AreBytes b → read b list ≡ Ok m → length b ≤ length old → let cs = take (m * 3) (after_read b list) in (written cs old ≡ Ok (length b)) × (take (length b) (after_write cs old) ≡ b)
  trip_record m bytes e enough =
      let w = has_read plain_version b (length list) m (sym e) in
      let cs = take (count_given (read b list) * 3) (after_read b list) in
      let again : Again (count_given (read b list)) =
      (round_trip plain_version).read_write b w.list list (after_read b list) old (after_write cs old) (read b list) (written cs old) bytes w.accepted w.enough enough (record { answer = refl; table = refl }) (record { answer = refl; table = refl }) in
      let is = subst Again (ap count_given e) again in
      (is.answer, ap (take (length b)) is.table ∙ lay_first b old)
