-- The digits of a number: the last one apart, and how many there are.
use mathlib.Core.Path.{◌≡◌, refl, sym, ap, ◌∙◌}
use mathlib.Core.Bool.{Bool, true, false}
use mathlib.Core.List.{List, [], ◌∷◌, ◌++◌}
use Prim.Native.Nat.{ℕ, zero, suc, ◌/◌, ◌%◌, ◌^◌, ◌<◌, ◌≤◌}
use native.Mathlib.Nat.{pow-suc}
use native.Mathlib.Omega.{arith}
use borrow.Author.Tests.{ltb-true, ltb-false, lt-ltb, le-ltb}
use lib.Dec.{ltb}
use lib.ListN.{length, length-append}
use Rattle.std.specs.Fmt.{decimal as printed}
use Rattle.std.proofs.lemmas.Fmt.{decimal_by_steps}
use Rattle.text.specs.Decimal.{digit, last_digits, decimal}

module _ (k n : ℕ) where
  by : {b : Bool} → ltb n 10 ≡ b → last_digits (suc k) n ≡ (elim b as (λ c. List ℕ) [ true ↦ digit n ∷ [] | false ↦ last_digits k (n / 10) ++ (digit (n % 10) ∷ []) ])
  by t = ap (λ (b : Bool). elim b as (λ c. List ℕ) [ true ↦ digit n ∷ [] | false ↦ last_digits k (n / 10) ++ (digit (n % 10) ∷ []) ]) t

  digits_one : n < 10 → last_digits (suc k) n ≡ digit n ∷ []
  digits_one h = by (lt-ltb n 10 h)

  digits_more : 10 ≤ n → last_digits (suc k) n ≡ last_digits k (n / 10) ++ (digit (n % 10) ∷ [])
  digits_more h = by (le-ltb n 10 h)

-- more digits asked for than a number has are none more
digits_same : (k j n : ℕ) → n < k → n < j → last_digits k n ≡ last_digits j n
digits_same zero j n h g = absurd (omega arith)
digits_same (suc k) zero n h g = absurd (omega arith)
digits_same (suc k) (suc j) n h g = go (ltb n 10) refl (λ a b. digits_same k j (n / 10) a b)
  where
    go : (b : Bool) → ltb n 10 ≡ b → (n / 10 < k → n / 10 < j → last_digits k (n / 10) ≡ last_digits j (n / 10)) → last_digits (suc k) n ≡ last_digits (suc j) n
    go true t r = let m = ltb-true n 10 t in digits_one k n m ∙ sym (digits_one j n m)
    go false t r =
        let m = ltb-false n 10 t in
        digits_more k n m ∙ ap (λ (l : List ℕ). l ++ (digit (n % 10) ∷ [])) (r (omega arith) (omega arith)) ∙ sym (digits_more j n m)

module _ (n : ℕ) where
  pub decimal_one : n < 10 → decimal n ≡ digit n ∷ []
  unfolding decimal
  decimal_one h = digits_one n n h

  pub decimal_more : 10 ≤ n → decimal n ≡ decimal (n / 10) ++ (digit (n % 10) ∷ [])
  unfolding decimal
  decimal_more h = digits_more n n h ∙ ap (λ (l : List ℕ). l ++ (digit (n % 10) ∷ [])) (digits_same n (suc (n / 10)) (n / 10) (omega arith) (omega arith))

-- what std prints of a number
pub decimal_is : (n : ℕ) → n < 2 ^ 64 → printed n ≡ decimal n
decimal_is n h = decimal_by_steps (λ m ds. ds ≡ decimal m) (λ m l. sym (decimal_one m l)) (λ m ds l e. ap (λ (t : List ℕ). t ++ (digit (m % 10) ∷ [])) e ∙ sym (decimal_more m l)) n h

-- a number below a power of ten
pub length_decimal : (k n : ℕ) → n < 10 ^ suc k → length (decimal n) ≤ suc k
length_decimal zero n h = rw (decimal_one n h) (omega arith)
length_decimal (suc k) n h = go (ltb n 10) refl (λ g. length_decimal k (n / 10) g)
  where
    go : (b : Bool) → ltb n 10 ≡ b → (n / 10 < 10 ^ suc k → length (decimal (n / 10)) ≤ suc k) → length (decimal n) ≤ suc (suc k)
    go true t r = rw (decimal_one n (ltb-true n 10 t)) (omega arith)
    go false t r =
        let g : n / 10 < 10 ^ suc k = omega (arith, pow-suc 10 (suc k)) in
        rw (decimal_more n (ltb-false n 10 t)) (simp length-append (omega (arith, r g)))
