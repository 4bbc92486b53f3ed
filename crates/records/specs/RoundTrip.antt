-- Demand 2, of records: they round-trip both ways. First over the definitions, then for what the calls give, where the lent tables have room.
use Rattle.std.specs.Prelude.{Result, Ok, ℕ, ◌+◌, ◌*◌, ◌≤◌, ◌≡◌, List, ℤ, length, take}
use Rattle.laws.specs.Lists.{lay}
use Rattle.touches.specs.declared.refusal.Refusal.{Refusal}
use Rattle.touches.specs.Touches.{touch_count}
use Rattle.touches.specs.Check.{checked}
use Rattle.records.specs.Record.{record_of, touches_in, AreBytes}
use Rattle.records.specs.Answers.{checked_record, count_given, ReadGives, WriteGives, CopyGives}

-- the list cs was read: its count, and it stands at the front of the lent list
pub record IsRead (cs old : List ℤ) (a : Result ℕ Refusal) (after : List ℤ) : Type 0 where
  pub answer : a ≡ Ok (touch_count cs)
  pub table : after ≡ lay 0 cs old

-- the bytes r were written
pub record IsWritten (r old : List ℕ) (a : Result ℕ Refusal) (after : List ℕ) : Type 0 where
  pub answer : a ≡ Ok (length r)
  pub table : after ≡ lay 0 r old

pub record RoundTrips (version : ℕ) : Type 0 where
  -- a list that passes 1 to 3 has a record that is accepted and holds the same list
  pub list_accepted : (cs l : List ℤ) → checked cs ≡ Ok l → checked_record version (record_of version cs) ≡ Ok l
  pub list_back : (cs l : List ℤ) → checked cs ≡ Ok l → touches_in (record_of version cs) ≡ cs
  -- an accepted record holds a list that passes 1 to 3 and has the same bytes for its record
  pub record_passed : (r : List ℕ) (l : List ℤ) → AreBytes r → checked_record version r ≡ Ok l → checked (touches_in r) ≡ Ok l
  pub record_back : (r : List ℕ) (l : List ℤ) → AreBytes r → checked_record version r ≡ Ok l → record_of version (touches_in r) ≡ r
  -- what the writing call wrote, given to the reading call, gives the same list
  pub write_read : (cs l : List ℤ) (buffer written : List ℕ) (old back : List ℤ) (a b : Result ℕ Refusal)
      → checked cs ≡ Ok l → 3 + 6 * touch_count l ≤ length buffer → length cs ≤ length old
      → WriteGives version cs buffer a written → ReadGives version (take (count_given a) written) old b back → IsRead cs old b back
  -- what the reading call read, given to the writing call, gives the same bytes
  pub read_write : (r : List ℕ) (l list read : List ℤ) (old back : List ℕ) (a b : Result ℕ Refusal)
      → AreBytes r → checked_record version r ≡ Ok l → touch_count l * 3 ≤ length list → length r ≤ length old
      → ReadGives version r list a read → WriteGives version (take (count_given a * 3) read) old b back → IsWritten r old b back
  -- a copy equals its source
  pub copy_same : (r : List ℕ) (l : List ℤ) (old copied : List ℕ) (a : Result ℕ Refusal)
      → AreBytes r → checked_record version r ≡ Ok l → length r ≤ length old → CopyGives version r old a copied → IsWritten r old a copied
