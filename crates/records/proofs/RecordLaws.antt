-- The record of a list that passes 1 to 3, and the record that an accepted record's touches have.
use mathlib.Core.Path.{◌≡◌, refl, sym, ◌∙◌, ap}
use mathlib.Core.List.{List, [], ◌∷◌}
use Prim.Native.Nat.{ℕ, suc, ◌+◌, ◌*◌, ◌/◌, ◌%◌, ◌≤◌}
use native.Mathlib.Omega.{arith}
use lib.IntN.{ℤ}
use lib.ListN.{length, drop, get_or, length-drop}
use lib.Seq.{get_or-drop}
use Rattle.std.specs.Prelude.{Ok}
use Rattle.touches.specs.Touches.{Sound, touch_count}
use Rattle.touches.specs.Check.{checked}
use Rattle.records.specs.Record.{body_of, record_of, count_in, version_in, touches_in, AreBytes}
use Rattle.records.specs.Answers.{checked_record}
use Rattle.records.proofs.WordLaws.{two_back, high_of, low_of}
use Rattle.records.proofs.BodyLaws.{length_body, touches_back, body_back}
use Rattle.records.proofs.CheckLaws.{is_touches, passes}

-- ---- the record of a list
module _ (version : ℕ) (cs : List ℤ) (s : Sound cs) where
  -- n = 1 + 6 × touches
  pub count_is : length (version ∷ body_of cs) ≡ 1 + length cs / 3 * 6
  count_is = omega (arith, length_body cs, s.whole)

  pub length_record : length (record_of version cs) ≡ 3 + 6 * touch_count cs
  unfolding record_of
  length_record = omega (arith, count_is)

  pub touches_in_lem : touches_in (record_of version cs) ≡ cs
  unfolding record_of
  touches_in_lem = touches_back cs s

  count_in_lem : count_in (record_of version cs) ≡ length (version ∷ body_of cs)
  unfolding record_of
  count_in_lem = two_back (length (version ∷ body_of cs)) (omega (arith, count_is, s.few))

  version_in_lem : version_in (record_of version cs) ≡ version
  unfolding record_of
  version_in_lem = refl

  pub checked_in : checked_record version (record_of version cs) ≡ checked cs
  checked_in =
      let n = count_in_lem in
      let m = count_is in
      let k = length_record in
      is_touches version (record_of version cs) (omega arith) (omega arith) version_in_lem (omega arith) ∙ ap checked touches_in_lem

-- ---- the touches of a record
three : (r : List ℕ) → 3 ≤ length r → r ≡ get_or r 0 0 ∷ get_or r 1 0 ∷ get_or r 2 0 ∷ drop 3 r
three [] h = absurd (omega arith)
three (a ∷ []) h = absurd (omega arith)
three (a ∷ b ∷ []) h = absurd (omega arith)
three (a ∷ b ∷ c ∷ r) h = refl

pub record_in : (version : ℕ) (r : List ℕ) {l : List ℤ} → AreBytes r → checked_record version r ≡ Ok l → record_of version (touches_in r) ≡ r
unfolding record_of
record_in version r b e =
    let p = passes version r e in
    let n : length (drop 3 r) + 3 ≡ length r = omega (arith, length-drop 3 r, p.long) in
    let whole : length (drop 3 r) % 6 ≡ 0 = omega (arith, p.count, p.whole) in
    let small : AreBytes (drop 3 r) = record { small = λ i. rw (get_or-drop 3 r i 0) (b.small (3 + i)) } in
    let count : suc (length (drop 3 r)) ≡ count_in r = omega (arith, p.count) in
    let high = get_or r 0 0 in
    let low = get_or r 1 0 in
    rw (body_back (drop 3 r) whole small, count, high_of high low (b.small 0) (b.small 1), low_of high low (b.small 0) (b.small 1), ← p.same) (sym (three r p.long))
