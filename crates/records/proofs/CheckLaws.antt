-- Refusal 2 of a record, from the tests before it; and what an accepted record has.
use mathlib.Core.Path.{◌≡◌, refl, ◌∙◌}
use mathlib.Core.Bool.{Bool, true, false, ◌&&◌}
use mathlib.Core.List.{List}
use Prim.Native.Nat.{ℕ, ◌-◌, ◌*◌, ◌/◌, ◌%◌, ◌<◌, ◌≤◌}
use native.Mathlib.Omega.{arith}
use borrow.Author.Tests.{le-leb, lt-leb, leb-true, eq-eqb, eqb-true}
use lib.Dec.{leb, eqb}
use lib.IntN.{ℤ}
use lib.ListN.{length, drop, length-drop}
use Rattle.std.specs.Prelude.{Ok, Err}
use Rattle.touches.specs.declared.refusal.Refusal.TheVariants.{TooManyTouches, RecordLengthWrong, RecordVersionUnknown, RecordTouchCutShort}
use Rattle.touches.specs.Limits.{most_touches}
use Rattle.touches.specs.Check.{checked}
use Rattle.records.specs.Record.{count_in, version_in, touches_in}
use Rattle.records.specs.Answers.{unless, checked_record}
use Rattle.records.proofs.BodyLaws.{length_touches, touches_whole}

-- past the tests of 8, 9 and 10
module _ (version : ℕ) (r : List ℕ) (long : 3 ≤ length r) (count : count_in r ≡ length r - 2) (same : version_in r ≡ version) (whole : (count_in r - 1) % 6 ≡ 0) where
  pub is_touches : checked_record version r ≡ checked (touches_in r)
  unfolding checked_record
  is_touches = rw (le-leb 3 (length r) long, eq-eqb (count_in r) (length r - 2) count, eq-eqb (version_in r) version same, eq-eqb ((count_in r - 1) % 6) 0 whole)

  length_touches_in : length (touches_in r) ≡ (count_in r - 1) / 6 * 3
  length_touches_in = omega (arith, length_touches (drop 3 r), length-drop 3 r)

  pub is_many : most_touches < (count_in r - 1) / 6 → checked_record version r ≡ Err TooManyTouches
  is_many h =
      let n = length_touches_in in
      let t : length (touches_in r) % 3 ≡ 0 = touches_whole (drop 3 r) in
      let m : most_touches * 3 < length (touches_in r) = omega arith in
      is_touches ∙ rw (eq-eqb (length (touches_in r) % 3) 0 t, lt-leb (length (touches_in r)) (most_touches * 3) m)

-- what an accepted record has
pub record Passes (version : ℕ) (r : List ℕ) (l : List ℤ) : Type 0 where
  pub long : 3 ≤ length r
  pub count : count_in r ≡ length r - 2
  pub same : version_in r ≡ version
  pub whole : (count_in r - 1) % 6 ≡ 0
  pub touches : checked (touches_in r) ≡ Ok l

pub passes : (version : ℕ) (r : List ℕ) {l : List ℤ} → checked_record version r ≡ Ok l → Passes version r l
unfolding checked_record
passes version r {l} e = go (leb 3 (length r)) (eqb (count_in r) (length r - 2)) (eqb (version_in r) version) (eqb ((count_in r - 1) % 6) 0) refl refl refl refl e
  where
    go : (a b c d : Bool) → leb 3 (length r) ≡ a → eqb (count_in r) (length r - 2) ≡ b → eqb (version_in r) version ≡ c → eqb ((count_in r - 1) % 6) 0 ≡ d
        → unless (a && b) RecordLengthWrong (unless c RecordVersionUnknown (unless d RecordTouchCutShort (checked (touches_in r)))) ≡ Ok l → Passes version r l
    go true true true true ea eb ec ed e = record {
      long = leb-true 3 (length r) ea;
      count = eqb-true (count_in r) (length r - 2) eb;
      same = eqb-true (version_in r) version ec;
      whole = eqb-true ((count_in r - 1) % 6) 0 ed;
      touches = e;
    }
    go true true true false ea eb ec ed e = cc
    go true true false d ea eb ec ed e = cc
    go true false c d ea eb ec ed e = cc
    go false b c d ea eb ec ed e = cc
