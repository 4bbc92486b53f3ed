-- A number that a call gave, once it is stored and read back.
use mathlib.Core.Path.{◌≡◌, ◌∙◌}
use Prim.Native.Nat.{ℕ, ◌^◌}
use lib.Dec.{T, ltb, ltb→lt, lit<, eqb}
use lib.IntN.{ℤ}
use mir.Syntax.{w64}
use mir.Val.{to_z, of_z}
use Rattle.laws.specs.Numbers.{Within}
use Rattle.laws.proofs.WithinLaws.{within_fits}
use Rattle.laws.proofs.Words.{r_int, stored, size, eq_test}
use Rattle.volume.specs.Volume.{is_zero}
use Rattle.points.specs.Sizes.{Number}

-- a number as the machine reads it back
abbrev pub rd : ℤ → ℤ
rd z = to_z w64 (of_z w64 z)

-- the number read back is the one that the contract names
pub back : {B : ℕ} {z r : ℤ} → T (ltb B (2 ^ 63)) → Number B z r → rd r ≡ z
back t n = (stored w64 (r_int n.small) t).is ∙ n.is

pub back_small : {B : ℕ} {z r : ℤ} → T (ltb B (2 ^ 63)) → Number B z r → Within B (rd r)
back_small t n = size (stored w64 (r_int n.small) t)

-- the same for a number that is passed on
pub passed : {B : ℕ} {z : ℤ} → T (ltb B (2 ^ 63)) → Within B z → rd z ≡ z
passed t h = (stored w64 (r_int h) t).is

-- the machine's test for 0
pub zero_test : {B : ℕ} {r : ℤ} → T (ltb B (2 ^ 63)) → Within B r → eqb (of_z w64 r) 0 ≡ is_zero r
zero_test {B} t h = eq_test w64 (within_fits w64 (ltb→lt B (2 ^ 63) t) h) (record { sfits = lit< tt })
