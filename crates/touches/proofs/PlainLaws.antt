-- Touch numbers and the plain numbers that they hold.
use mathlib.Core.Path.{◌≡◌, refl}
use mathlib.Core.List.{List, [], ◌∷◌}
use Prim.Native.Nat.{ℕ, zero, suc}
use native.Mathlib.Omega.{arith}
use lib.ListN.{length, get_or}
use Rattle.touches.specs.declared.TouchNo.{TouchNo}
use Rattle.touches.specs.Touches.{touch_no, plain}

-- a touch number that the code reads is the plain number there
pub plain_at : (ks : List TouchNo) (i : ℕ) → get_or (plain ks) i 0 ≡ (get_or ks i (touch_no 0)).0
plain_at [] i = refl
plain_at (k ∷ ks) zero = refl
plain_at (k ∷ ks) (suc i) = plain_at ks i

-- a list of three numbers is what it has at 0, 1 and 2
pub by_three : (f : List ℕ) → length f ≡ 3 → get_or f 0 0 ∷ get_or f 1 0 ∷ get_or f 2 0 ∷ [] ≡ f
by_three [] e = absurd (omega arith)
by_three (a ∷ []) e = absurd (omega arith)
by_three (a ∷ b ∷ []) e = absurd (omega arith)
by_three (a ∷ b ∷ c ∷ []) e = refl
by_three (a ∷ b ∷ c ∷ d ∷ f) e = absurd (omega arith)
