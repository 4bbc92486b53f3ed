-- What is left to a loop that has come to place k, and what one turn takes of it.
use mathlib.Core.Path.{◌≡◌, sym, ap, ◌∙◌}
use mathlib.Core.Bool.{Bool, true, false, ◌&&◌}
use mathlib.Core.List.{List, [], ◌∷◌}
use mathlib.Core.Option.{Option, none, some}
use Prim.Native.Nat.{ℕ, suc, ◌+◌, ◌-◌, ◌<◌, ◌≤◌}
use native.Mathlib.Numerals.{add-one}
use native.Mathlib.Omega.{arith}
use lib.ListN.{length, drop, get_or, drop_of_length-le}
use lib.Seq.{drop-cons}
use Rattle.laws.specs.Lists.{every, first, first_from, upward}

-- ---- numbers
pub upward_all : (n : ℕ) → upward 0 n ≡ upward 0 (n - 0)
upward_all n = let e : n - 0 ≡ n = omega arith in rw e

module _ (k n : ℕ) where
  pub upward_next : k < n → upward k (n - k) ≡ k ∷ upward (k + 1) (n - (k + 1))
  upward_next h = let e : n - k ≡ suc (n - (k + 1)) = omega arith in rw (e, add-one)

  pub upward_none : n ≤ k → upward k (n - k) ≡ []
  upward_none h = let e : n - k ≡ 0 = omega arith in rw e

  module _ (q : ℕ → Bool) where
    abbrev later : List ℕ
    later = upward (k + 1) (n - (k + 1))

    turn : k < n → {b : Bool} → q k ≡ b → first q (upward k (n - k)) ≡ (elim b as (λ z. Option ℕ) [ true ↦ some k | false ↦ first q later ])
    turn h e = ap (first q) (upward_next h) ∙ ap (λ (b : Bool). elim b as (λ z. Option ℕ) [ true ↦ some k | false ↦ first q later ]) e

    pub first_here : k < n → q k ≡ true → first q (upward k (n - k)) ≡ some k
    first_here h e = turn h e

    pub first_past : k < n → q k ≡ false → first q (upward k (n - k)) ≡ first q later
    first_past h e = turn h e

    pub first_end : n ≤ k → first q (upward k (n - k)) ≡ none
    first_end h = rw (upward_none h)

-- ---- the elements of a list
module _ {A : Type 0} (q : A → Bool) (l : List A) (d : A) (i : ℕ) where
  drop_next : i < length l → drop i l ≡ get_or l i d ∷ drop (i + 1) l
  drop_next h = rw (add-one, drop-cons l i d)

  pub every_turn : i < length l → {b : Bool} → q (get_or l i d) ≡ b → every q (drop i l) ≡ b && every q (drop (i + 1) l)
  every_turn h e = ap (every q) (drop_next h) ∙ ap (λ (b : Bool). b && every q (drop (i + 1) l)) e

  pub every_end : length l ≤ i → every q (drop i l) ≡ true
  every_end h = ap (every q) (drop_of_length-le l h)

  pub first_turn : i < length l → {b : Bool} → q (get_or l i d) ≡ b → first_from q i (drop i l) ≡ (elim b as (λ z. Option ℕ) [ true ↦ some i | false ↦ first_from q (i + 1) (drop (i + 1) l) ])
  first_turn h {b} e =
      ap (first_from q i) (drop_next h) ∙ ap (λ (b : Bool). elim b as (λ z. Option ℕ) [ true ↦ some i | false ↦ first_from q (suc i) (drop (i + 1) l) ]) e
      ∙ ap (λ (j : ℕ). elim b as (λ z. Option ℕ) [ true ↦ some i | false ↦ first_from q j (drop (i + 1) l) ]) (sym (add-one i))

  pub first_none_left : length l ≤ i → first_from q i (drop i l) ≡ none
  first_none_left h = ap (first_from q i) (drop_of_length-le l h)
