-- How the laws are used: one short example each.
use mathlib.Core.Path.{◌≡◌, refl, ◌∙◌}
use mathlib.Core.List.{List, [], ◌∷◌, ◌++◌}
use Prim.Native.Nat.{ℕ, ◌^◌}
use native.Mathlib.Omega.{arith}
use lib.IntN.{ℤ, pos, ◌+ℤ◌, ◌-ℤ◌, ◌*ℤ◌}
use lib.Signed.{◌≤ℤ◌, ◌<ℤ◌, lt_z}
use lib.Ieee.{Float, binary64, of_int, add, sub, mul, div, lt, fin, of_bits}
use mir.Syntax.{w32, w64}
use mir.Val.{SFits, to_z, of_z}
use mathlib.Core.Bool.{false}
use Rattle.laws.specs.Numbers.{Within}
use Rattle.laws.specs.Lists.{Laid}
use Rattle.laws.specs.Doubles.{Holds}
use Rattle.laws.specs.Fractions.{compared as compared_fractions}
use Rattle.laws.proofs.Integers.{sum_is}
use Rattle.laws.proofs.Order.{zs, mul_nonneg, sub_nonneg}
use Rattle.laws.proofs.Ring.{var, lit, ◌:+◌, ◌:-◌, ◌:*◌, ring}
use Rattle.laws.proofs.Certificates.{order, combine, le, lt as below}
use Rattle.laws.proofs.Words.{Reads, r_i32, r_sub, r_mul, fits, stored}
use Rattle.laws.proofs.Doubles.{lt_is, div_holds}
use Rattle.laws.proofs.Exact.{Exact, e_sub, e_mul, e_done}
use Rattle.laws.proofs.Tables.{laid_then}
use Rattle.laws.proofs.Fractions.{parts_nat, whole_less, whole_same, compared_turned}

-- a polynomial identity is one line
square : (a b : ℤ) → (a +ℤ b) *ℤ (a +ℤ b) ≡ a *ℤ a +ℤ pos 2 *ℤ a *ℤ b +ℤ b *ℤ b
square a b = ring (a ∷ b ∷ []) ((var 0 :+ var 1) :* (var 0 :+ var 1)) (var 0 :* var 0 :+ lit (pos 2) :* var 0 :* var 1 :+ var 1 :* var 1) tt

-- an equation from equations, each times an expression
shared : (a b c d : ℤ) → a ≡ b → c ≡ d → a *ℤ c ≡ b *ℤ d
shared a b c d = combine (a ∷ b ∷ c ∷ d ∷ []) (record { times = var 2; left = var 0; right = var 1 } ∷ record { times = var 1; left = var 2; right = var 3 } ∷ []) (var 0 :* var 2) (var 1 :* var 3) tt

-- an order from orders, by a certificate; and a linear one by omega
times_mono : (a b c : ℤ) → a ≤ℤ b → pos 0 ≤ℤ c → (a *ℤ c) ≤ℤ (b *ℤ c)
times_mono a b c h k = order (a ∷ b ∷ c ∷ []) (le 1 (lit (pos 0)) ((var 1 :- var 0) :* var 2) ∷ []) 0 (var 0 :* var 2) (var 1 :* var 2) tt (mul_nonneg (sub_nonneg h) k)

halves : (x y : ℤ) → (pos 2 *ℤ x) <ℤ (pos 2 *ℤ y +ℤ pos 1) → x ≤ℤ y
halves x y = order (x ∷ y ∷ []) (below 1 (lit (pos 2) :* var 0) (lit (pos 2) :* var 1 :+ lit (pos 1)) ∷ []) 1 (var 0) (var 1) tt

sum_mono : (a b c : ℤ) → a ≤ℤ b → (a +ℤ c) ≤ℤ (b +ℤ c)
sum_mono a b c h = omega (arith, zs, sum_is a c, sum_is b c)

-- machine arithmetic: a difference of two coordinates at 32 bits, and its square at 64
module _ {x y : ℤ} (h : Within 30000 x) (k : Within 30000 y) where
  gap : Reads 60000 (to_z w32 (of_z w32 x) -ℤ to_z w32 (of_z w32 y)) (x -ℤ y)
  gap = r_sub (r_i32 tt h) (r_i32 tt k)

  gap_fits : SFits w32 (to_z w32 (of_z w32 x) -ℤ to_z w32 (of_z w32 y))
  gap_fits = fits w32 gap tt

  gap_squared : Reads 3600000000 (to_z w64 (of_z w64 (to_z w32 (of_z w32 x) -ℤ to_z w32 (of_z w32 y))) *ℤ to_z w64 (of_z w64 (to_z w32 (of_z w32 x) -ℤ to_z w32 (of_z w32 y)))) ((x -ℤ y) *ℤ (x -ℤ y))
  gap_squared = r_mul (stored w64 gap tt) (stored w64 gap tt)

-- doubles: the same difference squared is exact, and + 0.0 makes it the whole number's own double
squared_exactly : {p q : Float} {x y : ℤ} → Exact 30000 p x → Exact 30000 q y → add binary64 (mul binary64 (sub binary64 p q) (sub binary64 p q)) (of_bits binary64 0) ≡ of_int binary64 ((x -ℤ y) *ℤ (x -ℤ y))
squared_exactly h k = e_done (e_mul tt (e_sub tt h k) (e_sub tt h k))

-- a comparison of doubles is that of the whole numbers, and a quotient is rounded once
compared : {p q : Float} {x y : ℤ} → Holds p x → Holds q y → lt p q ≡ lt_z x y
compared h k = lt_is h k

quotient : {p q : Float} {x y : ℤ} → Within (2 ^ 53) x → Within (2 ^ 53) y → pos 0 <ℤ y → Holds p x → Holds q y → div binary64 (add binary64 p (fin false 0 (pos 0))) q ≡ div binary64 (of_int binary64 x) (of_int binary64 y)
quotient wx wy l h k = div_holds binary64 wx.within wy.within l.lt h k

-- tables: two runs of writing, one after the other
both_laid : {a : List ℕ} {b old mid after : List ℕ} {r s : ℕ} → Laid 0 a old r mid → Laid r b mid s after → Laid 0 (a ++ b) old s after
both_laid x y = laid_then x (omega arith) y

-- fractions: 7/3 is less than 5/2, since 1/3 is less than 1/2, since 2/1 is less than 3/1
less_than : {A : Type 0} (x y z : A) → compared_fractions (pos 7) (pos 3) (pos 5) (pos 2) x y z ≡ x
less_than x y z =
    whole_same (parts_nat 7 3 (omega arith)) (parts_nat 5 2 (omega arith)) x y z refl ∙ compared_turned (pos 1) (pos 3) (pos 1) (pos 2) x y z
    ∙ whole_less (parts_nat 2 1 (omega arith)) (parts_nat 3 1 (omega arith)) x y z (record { lt = tt })
