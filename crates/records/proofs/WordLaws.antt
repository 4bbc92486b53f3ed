-- Two bytes and the number from 0 to 65,535 that they hold; that number and the signed one that it stands for.
use mathlib.Core.Path.{◌≡◌, refl, ◌∙◌}
use mathlib.Core.Bool.{Bool, true, false}
use Prim.Native.Nat.{ℕ, suc, ◌-◌, ◌/◌, ◌%◌, ◌<◌, ◌≤◌}
use native.Mathlib.Omega.{arith}
use borrow.Author.Tests.{lt-ltb, le-ltb, ltb-true, ltb-false}
use lib.IntN.{ℤ, pos, negsuc}
use lib.Dec.{ltb}
use Rattle.laws.specs.Numbers.{Within}
use Rattle.touches.specs.Limits.{reach}
use Rattle.records.specs.Record.{of_two, bits16, signed16}

pub two_back : (n : ℕ) → n < 65536 → of_two (n / 256 % 256) (n % 256) ≡ n
two_back n h = omega arith

module _ (high low : ℕ) (h : high < 256) (k : low < 256) where
  pub high_of : of_two high low / 256 % 256 ≡ high
  high_of = omega arith

  pub low_of : of_two high low % 256 ≡ low
  low_of = omega arith

  pub of_two_below : of_two high low < 65536
  of_two_below = omega arith

-- ---- the two halves of the signed numbers
pub signed_low : (n : ℕ) → n < 32768 → signed16 n ≡ pos n
signed_low n h = rw (lt-ltb n 32768 h)

pub signed_high : (n : ℕ) → 32768 ≤ n → n < 65536 → signed16 n ≡ negsuc (65535 - n)
signed_high n h k =
    let e : 65536 - suc n ≡ 65535 - n = omega arith in
    rw (le-ltb n 32768 h, lt-ltb n 65536 k, e)

pub signed_back : (x : ℤ) → Within reach x → signed16 (bits16 x) ≡ x
signed_back (pos n) h = signed_low n (omega (arith, h.within))
signed_back (negsuc n) h =
    let e : 65535 - (65535 - n) ≡ n = omega (arith, h.within) in
    signed_high (65535 - n) (omega (arith, h.within)) (omega arith) ∙ rw e

pub bits_back : (n : ℕ) → n < 65536 → bits16 (signed16 n) ≡ n
bits_back n h = go (ltb n 32768) refl
  where
    go : (b : Bool) → ltb n 32768 ≡ b → bits16 (signed16 n) ≡ n
    go true e = rw (signed_low n (ltb-true n 32768 e))
    go false e =
        let g : 32768 ≤ n = ltb-false n 32768 e in
        let f : 65535 - (65535 - n) ≡ n = omega arith in
        rw (signed_high n g h, f)

pub bits_below : (x : ℤ) → Within reach x → bits16 x < 65536
bits_below (pos n) h = omega (arith, h.within)
bits_below (negsuc n) h = omega arith
