-- A record's parts laid into a buffer one after another, and the writing call's promise.
use mathlib.Core.Path.{◌≡◌}
use mathlib.Core.List.{List, [], ◌∷◌, ◌++◌}
use Prim.Native.Nat.{ℕ, ◌+◌, ◌*◌, ◌/◌, ◌<◌, ◌≤◌}
use native.Mathlib.Omega.{arith}
use borrow.Author.Tests.{le-leb}
use lib.IntN.{ℤ}
use lib.ListN.{length, set}
use Rattle.std.specs.Prelude.{Ok}
use Rattle.laws.specs.Lists.{Laid}
use Rattle.laws.proofs.Tables.{laid_then, laid_one}
use Rattle.touches.specs.Touches.{touch_count, Sound}
use Rattle.touches.specs.Check.{checked}
use Rattle.records.specs.Record.{two_bytes, body_of, record_of}
use Rattle.records.specs.Answers.{WriteGives}
use Rattle.records.proofs.SoundLaws.{accepted_sound, accepted_same, accepted_count}
use Rattle.records.proofs.RecordLaws.{count_is, length_record}

record_parts : (version : ℕ) (cs : List ℤ) → Sound cs → record_of version cs ≡ two_bytes (1 + length cs / 3 * 6) ++ (version ∷ []) ++ body_of cs
unfolding record_of
record_parts version cs s = rw (count_is version cs s)

-- the count, the version, the body
pub laid_record : {old first after : List ℕ} {at r : ℕ} (version : ℕ) (cs : List ℤ) → Sound cs → at < length first
    → Laid 0 (two_bytes (1 + length cs / 3 * 6)) old at first → Laid (at + 1) (body_of cs) (set first at version) r after → Laid 0 (record_of version cs) old r after
laid_record {first = first} {at = at} version cs s h p q = rw (record_parts version cs s) (laid_then (laid_then p (omega arith) (laid_one at version first h)) (omega arith) q)

module _ (version : ℕ) (cs : List ℤ) {l : List ℤ} (e : checked cs ≡ Ok l) where
  pub gives_bytes : {old after : List ℕ} {n : ℕ} → 3 + 6 * touch_count l ≤ length old → Laid 0 (record_of version l) old n after → WriteGives version cs old (Ok n) after
  gives_bytes {old} {after} {n} h q =
      let p = rw (accepted_same cs e) at q in
      let k : n ≡ 3 + 6 * touch_count l = omega (arith, p.next, length_record version cs (accepted_sound cs e), accepted_count cs e) in
      record { answer = rw (e, le-leb (3 + 6 * touch_count l) (length old) h, k); table = p.table }
