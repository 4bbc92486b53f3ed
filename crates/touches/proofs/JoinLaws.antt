-- The touches of a list and of one put after it.
use mathlib.Core.Path.{◌≡◌, ◌∙◌, ap}
use mathlib.Core.List.{List, ◌++◌}
use Prim.Native.Nat.{ℕ, ◌+◌, ◌*◌, ◌/◌, ◌%◌, ◌<◌}
use native.Mathlib.Nat.{div-add-mod', mod-lt}
use native.Mathlib.Omega.{arith}
use lib.IntN.{ℤ, pos}
use lib.ListN.{length, get_or, length-append, get_or-append}
use lib.Seq.{get_or-append-add}
use Rattle.touches.specs.declared.Point.{Point}
use Rattle.touches.specs.Touches.{touch_count, touch}

by_axis : {p q : Point} → p.x ≡ q.x → p.y ≡ q.y → p.z ≡ q.z → p ≡ q
by_axis e f g = λ i. record { x = e i; y = f i; z = g i }

-- a list of whole touches has three coordinates to each
pub whole_length : (L : List ℤ) → length L % 3 ≡ 0 → length L ≡ touch_count L * 3
whole_length L h = omega (arith, div-add-mod' (length L) 3)

module _ (L M : List ℤ) (l : length L % 3 ≡ 0) (m : length M % 3 ≡ 0) where
  pub join_count : touch_count (L ++ M) ≡ touch_count L + touch_count M
  join_count = thirds (length (L ++ M)) (touch_count L + touch_count M) (length-append L M ∙ add_thirds (length L) (length M) (touch_count L) (touch_count M) (whole_length L l) (whole_length M m))
    where
      add_thirds : (a b c d : ℕ) → a ≡ c * 3 → b ≡ d * 3 → a + b ≡ (c + d) * 3
      add_thirds a b c d e f = omega arith

      thirds : (a b : ℕ) → a ≡ b * 3 → a / 3 ≡ b
      thirds a b e = omega (arith, div-add-mod' a 3, mod-lt a {m = 3} (omega arith))

  pub join_first : (k : ℕ) → k < touch_count L → touch (L ++ M) k ≡ touch L k
  join_first k h = by_axis
      (get_or-append L M (pos 0) (k * 3) (omega (arith, whole_length L l)))
      (get_or-append L M (pos 0) (k * 3 + 1) (omega (arith, whole_length L l)))
      (get_or-append L M (pos 0) (k * 3 + 2) (omega (arith, whole_length L l)))

  pub join_second : (k : ℕ) → touch (L ++ M) (touch_count L + k) ≡ touch M k
  join_second k = by_axis
      (at (k * 3) (omega (arith, whole_length L l)))
      (at (k * 3 + 1) (omega (arith, whole_length L l)))
      (at (k * 3 + 2) (omega (arith, whole_length L l)))
    where
      at : {j : ℕ} (i : ℕ) → j ≡ length L + i → get_or (L ++ M) j (pos 0) ≡ get_or M i (pos 0)
      at i e = ap (λ (j : ℕ). get_or (L ++ M) j (pos 0)) e ∙ get_or-append-add L M i (pos 0)
