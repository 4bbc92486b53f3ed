-- What a checked record gives the reading call, and the reading call its promise.
use mathlib.Core.Path.{◌≡◌, sym, ◌∙◌, ap}
use mathlib.Core.List.{List}
use Prim.Native.Nat.{ℕ, ◌*◌, ◌≤◌}
use native.Mathlib.Omega.{arith}
use borrow.Author.Tests.{le-leb}
use lib.IntN.{ℤ}
use lib.ListN.{length, take}
use Rattle.std.specs.Prelude.{Result, Ok}
use Rattle.laws.specs.Lists.{lay}
use Rattle.laws.proofs.Tables.{lay_first}
use Rattle.touches.specs.declared.refusal.Refusal.{Refusal}
use Rattle.touches.specs.Touches.{touch_count}
use Rattle.touches.specs.Check.{checked}
use Rattle.records.specs.Record.{touches_in}
use Rattle.records.specs.Answers.{checked_record, ReadGives}
use Rattle.records.proofs.SoundLaws.{accepted_same, accepted_threes}
use Rattle.records.proofs.CheckLaws.{passes}

module _ (version : ℕ) (bytes : List ℕ) where
  -- the touches were laid into the room, and their m numbers checked there
  pub is_checked : {r : Result (List ℤ) Refusal} {after : List ℤ} (m : ℕ) (old : List ℤ) → m ≡ length (touches_in bytes) → after ≡ lay 0 (touches_in bytes) old
      → r ≡ checked (take m after) → checked_record version bytes ≡ checked (touches_in bytes) → r ≡ checked_record version bytes
  is_checked {after = after} m old n e f g =
      let front : take m after ≡ touches_in bytes = rw (e, n) (lay_first (touches_in bytes) old) in
      f ∙ ap checked front ∙ sym g

  -- an accepted record's touches
  module _ {l : List ℤ} (e : checked_record version bytes ≡ Ok l) where
    list_is : l ≡ touches_in bytes
    list_is = accepted_same (touches_in bytes) (passes version bytes e).touches

    list_threes : touch_count l * 3 ≡ length l
    list_threes = omega (arith, accepted_threes (touches_in bytes) (passes version bytes e).touches, ap length list_is)

    pub gives_touches : {old new : List ℤ} {n : ℕ} → n ≡ touch_count l → length l ≤ length old → new ≡ lay 0 l old → ReadGives version bytes old (Ok n) new
    gives_touches {old} q h f =
        let k : touch_count l * 3 ≤ length old = omega (arith, list_threes) in
        record { answer = rw (e, le-leb (touch_count l * 3) (length old) k, q); table = f ∙ ap (λ (ts : List ℤ). lay 0 ts old) list_is }
