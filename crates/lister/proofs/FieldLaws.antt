-- Text put after what a room holds so far.
use mathlib.Core.Path.{◌≡◌, sym, ap, ◌∙◌}
use mathlib.Core.List.{List, [], ◌∷◌, ◌++◌}
use Prim.Native.Nat.{ℕ, ◌+◌, ◌^◌, ◌<◌, ◌≤◌}
use native.Mathlib.Omega.{arith}
use lib.ListN.{length, take, length-append}
use lib.Seq.{length-take-le}
use Rattle.laws.specs.Lists.{Laid}
use Rattle.laws.proofs.Tables.{laid_take}
use Rattle.text.specs.Decimal.{decimal}
use Rattle.text.specs.Room.{Put}
use Rattle.text.proofs.DecimalLaws.{length_decimal}
use Rattle.text.proofs.RoomLaws.{put_laid}

-- a 16-bit number has five digits at most
pub number_few : {n : ℕ} → n < 2 ^ 16 → length (decimal n) ≤ 5
number_few {n} h = length_decimal 4 n (omega arith)

-- the text so far is s, the first `at` bytes of the room
module _ {at r : ℕ} {s new old mid : List ℕ} (inside : at ≤ length old) (held : take at old ≡ s) (p : Put at new old r mid) (fits : length s + length new ≤ length old) where
  size : length s ≡ at
  size = ap length (sym held) ∙ length-take-le at old inside

  laid : Laid at new old r mid
  laid = put_laid (omega (arith, size)) p

  pub word_put : take r mid ≡ s ++ new
  word_put = laid_take laid inside ∙ ap (λ (l : List ℕ). l ++ new) held

-- a field of at most k bytes, and the byte x after it
module _ {at r : ℕ} {s new old mid : List ℕ} (inside : at ≤ length old) (held : take at old ≡ s) (p : Put at new old r mid) (k : ℕ) (few : length new ≤ k) (room : length s + (k + 1) ≤ length old) where
  put : take r mid ≡ s ++ new
  put = word_put inside held p (omega arith)

  pub field_room : length (take r mid) + 1 ≤ length s + (k + 1)
  field_room = omega (arith, ap length put, length-append s new)

  module _ (x : ℕ) {after : List ℕ} (e : after ≡ take r mid ++ x ∷ []) where
    pub field_put : after ≡ s ++ new ++ x ∷ []
    field_put = rw put at e

    pub field_short : length after ≤ length s + (k + 1)
    field_short = omega (arith, field_room, simp length-append at (ap length e))
