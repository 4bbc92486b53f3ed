-- Records round-trip both ways, for every version.
use mathlib.Core.Path.{◌≡◌, sym, ◌∙◌, ap}
use mathlib.Core.List.{List}
use Prim.Native.Nat.{ℕ, ◌+◌, ◌*◌, ◌≤◌}
use native.Mathlib.Omega.{arith}
use borrow.Author.Tests.{le-leb}
use lib.IntN.{ℤ}
use lib.ListN.{length, take}
use Rattle.std.specs.Prelude.{Result, Ok}
use Rattle.laws.specs.Lists.{lay}
use Rattle.laws.proofs.Tables.{lay_first}
use Rattle.touches.specs.declared.refusal.Refusal.{Refusal}
use Rattle.touches.specs.Touches.{touch_count}
use Rattle.touches.specs.Check.{checked}
use Rattle.records.specs.Record.{record_of, touches_in, AreBytes}
use Rattle.records.specs.Answers.{checked_record, into_buffer, list_after, buffer_after, count_given, ReadGives, WriteGives, CopyGives}
use Rattle.records.specs.RoundTrip.{IsRead, IsWritten, RoundTrips}
use Rattle.records.proofs.SoundLaws.{accepted_sound, accepted_count, accepted_threes}
use Rattle.records.proofs.CheckLaws.{passes}
use Rattle.records.proofs.RecordLaws.{length_record, touches_in_lem, checked_in, record_in}

-- ---- over the definitions
module _ (version : ℕ) (cs : List ℤ) {l : List ℤ} (passed : checked cs ≡ Ok l) where
  list_accepted : checked_record version (record_of version cs) ≡ Ok l
  list_accepted = checked_in version cs (accepted_sound cs passed) ∙ passed

  list_back : touches_in (record_of version cs) ≡ cs
  list_back = touches_in_lem version cs (accepted_sound cs passed)

  list_size : length (record_of version cs) ≡ 3 + 6 * touch_count l
  list_size = omega (arith, length_record version cs (accepted_sound cs passed), accepted_count cs passed)

module _ (version : ℕ) (r : List ℕ) {l : List ℤ} (accepted : checked_record version r ≡ Ok l) where
  record_passed : checked (touches_in r) ≡ Ok l
  record_passed = (passes version r accepted).touches

  record_size : AreBytes r → length r ≡ 3 + 6 * touch_count l
  record_size bytes = ap length (sym (record_in version r bytes accepted)) ∙ list_size version (touches_in r) record_passed

-- ---- what a call gives that is not refused
module _ {version : ℕ} {cs : List ℤ} {l : List ℤ} {old written : List ℕ} {a : Result ℕ Refusal}
    (passed : checked cs ≡ Ok l) (room : 3 + 6 * touch_count l ≤ length old) (w : WriteGives version cs old a written) where
  write_answer : a ≡ Ok (3 + 6 * touch_count l)
  write_answer = w.answer ∙ rw (passed, le-leb (3 + 6 * touch_count l) (length old) room)

  write_table : written ≡ lay 0 (record_of version cs) old
  write_table = w.table ∙ ap (λ (x : Result ℕ Refusal). buffer_after x (record_of version cs) old) write_answer

  pub write_front : take (3 + 6 * touch_count l) written ≡ record_of version cs
  write_front = rw (write_table, ← list_size version cs passed) (lay_first (record_of version cs) old)

  -- the bytes that it gave
  write_given : take (count_given a) written ≡ record_of version cs
  write_given = rw write_answer write_front

module _ {version : ℕ} {r : List ℕ} {l : List ℤ} {old read : List ℤ} {a : Result ℕ Refusal}
    (accepted : checked_record version r ≡ Ok l) (room : touch_count l * 3 ≤ length old) (g : ReadGives version r old a read) where
  read_answer : a ≡ Ok (touch_count l)
  read_answer = g.answer ∙ rw (accepted, le-leb (touch_count l * 3) (length old) room)

  read_table : read ≡ lay 0 (touches_in r) old
  read_table = g.table ∙ ap (λ (x : Result ℕ Refusal). list_after x (touches_in r) old) read_answer

  pub read_front : take (touch_count l * 3) read ≡ touches_in r
  read_front = rw (read_table, accepted_threes (touches_in r) (record_passed version r accepted)) (lay_first (touches_in r) old)

  -- the touches that it gave
  read_given : take (count_given a * 3) read ≡ touches_in r
  read_given = rw read_answer read_front

-- ---- one call after the other
write_read : (version : ℕ) (cs : List ℤ) {l : List ℤ} {buffer written : List ℕ} {old back : List ℤ} {a b : Result ℕ Refusal}
    → checked cs ≡ Ok l → 3 + 6 * touch_count l ≤ length buffer → length cs ≤ length old
    → WriteGives version cs buffer a written → ReadGives version (take (count_given a) written) old b back → IsRead cs old b back
write_read version cs {l} {old = old} passed room enough w g =
    let f = write_given passed room w in
    let e = ap (checked_record version) f ∙ list_accepted version cs passed in
    let k : touch_count l * 3 ≤ length old = omega (arith, accepted_threes cs passed) in
    record {
      answer = read_answer e k g ∙ ap Ok (accepted_count cs passed);
      table = read_table e k g ∙ ap (λ (ts : List ℤ). lay 0 ts old) (ap touches_in f ∙ list_back version cs passed);
    }

-- reading and then writing gives what copying gives
pub both_copy : (version : ℕ) (r : List ℕ) {l : List ℤ} {list read : List ℤ} {old back : List ℕ} {a b : Result ℕ Refusal}
    → AreBytes r → checked_record version r ≡ Ok l → touch_count l * 3 ≤ length list
    → ReadGives version r list a read → WriteGives version (take (count_given a * 3) read) old b back → CopyGives version r old b back
both_copy version r {old = old} {b = b} bytes accepted room g w =
    let f = read_given accepted room g in
    let e = ap checked f ∙ record_passed version r accepted ∙ sym accepted in
    record {
      answer = w.answer ∙ ap (into_buffer (length old)) e;
      table = w.table ∙ ap (λ (x : List ℕ). buffer_after b x old) (ap (record_of version) f ∙ record_in version r bytes accepted);
    }

copy_same : (version : ℕ) (r : List ℕ) {l : List ℤ} {old copied : List ℕ} {a : Result ℕ Refusal}
    → AreBytes r → checked_record version r ≡ Ok l → length r ≤ length old → CopyGives version r old a copied → IsWritten r old a copied
copy_same version r {l} {old} {copied} {a} bytes accepted room c =
    let n = record_size version r accepted bytes in
    let h : 3 + 6 * touch_count l ≤ length old = omega arith in
    let e : a ≡ Ok (length r) = c.answer ∙ rw (accepted, le-leb (3 + 6 * touch_count l) (length old) h, n) in
    record { answer = e; table = c.table ∙ ap (λ (x : Result ℕ Refusal). buffer_after x r old) e }

pub round_trip : (version : ℕ) → RoundTrips version
round_trip version = record {
  list_accepted = λ cs l passed. list_accepted version cs passed;
  list_back = λ cs l passed. list_back version cs passed;
  record_passed = λ r l bytes accepted. record_passed version r accepted;
  record_back = λ r l bytes accepted. record_in version r bytes accepted;
  write_read = λ cs l buffer written old back a b passed room enough w g. write_read version cs passed room enough w g;
  read_write = λ r l list read old back a b bytes accepted room enough g w. copy_same version r bytes accepted enough (both_copy version r bytes accepted room g w);
  copy_same = λ r l old copied a bytes accepted room c. copy_same version r bytes accepted room c;
}
