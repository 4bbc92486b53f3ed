-- A whole number's text: what std prints of it, and how long it is.
use mathlib.Core.Path.{◌≡◌, ap}
use mathlib.Core.List.{List, ◌∷◌}
use Prim.Native.Nat.{ℕ, suc, ◌≤◌}
use native.Mathlib.Omega.{arith}
use lib.IntN.{ℤ, pos, negsuc}
use lib.ListN.{length}
use mir.Syntax.{w64}
use mir.Val.{SFits}
use Rattle.std.specs.Fmt.{signed_decimal}
use Rattle.text.specs.Decimal.{minus, whole}
use Rattle.text.proofs.DecimalLaws.{decimal_is, length_decimal}

pub whole_is : (z : ℤ) → SFits w64 z → signed_decimal z ≡ whole z
whole_is (pos n) f = decimal_is n (omega (arith, f.sfits))
whole_is (negsuc n) f = ap (λ (l : List ℕ). minus ∷ l) (decimal_is (suc n) (omega (arith, f.sfits)))

-- a sign and nineteen digits at most
pub length_whole : (z : ℤ) → SFits w64 z → length (whole z) ≤ 20
length_whole (pos n) f = omega (arith, length_decimal 18 n (omega (arith, f.sfits)))
length_whole (negsuc n) f = omega (arith, length_decimal 18 (suc n) (omega (arith, f.sfits)))
