-- Lists: membership, the elements that pass a test, the first that does, the least, pairs, sums, and a list laid into a table.
use Rattle.std.specs.Prelude.{◌≡◌, ◌≢◌, Bool, true, false, not, ◌&&◌, ◌||◌, cond, ℕ, zero, suc, ◌+◌, ◌<◌, T, ℤ, pos, ◌+ℤ◌, ◌≤ℤ◌, ◌<ℤ◌, length, take, drop, get_or}
use mathlib.Core.List.{List, [], ◌∷◌, ◌++◌, Memᴰ}
use Rattle.std.proofs.Math.Option.{Option, none, some}
use Rattle.std.specs.Int.Signed.{lt_z}

abbrev pub In : {A : Type 0} → A → List A → Type 0
In x l = Memᴰ x l

-- x before l where b holds, else l
abbrev pub put : {A : Type 0} → Bool → A → List A → List A
put true x l = x ∷ l
put false x l = l

abbrev pub only_if : {A : Type 0} → Bool → A → List A
only_if b x = put b x []

-- the elements that pass, in their order
abbrev pub keep : {A : Type 0} → (A → Bool) → List A → List A
keep q [] = []
keep q (x ∷ l) = put (q x) x (keep q l)

-- the first element that passes
abbrev pub first : {A : Type 0} → (A → Bool) → List A → Option A
first q [] = none
first q (x ∷ l) = elim (q x) [ true ↦ some x | false ↦ first q l ]

-- its place, the list's first element being number i
abbrev pub first_from : {A : Type 0} → (A → Bool) → ℕ → List A → Option ℕ
first_from q i [] = none
first_from q i (x ∷ l) = elim (q x) [ true ↦ some i | false ↦ first_from q (suc i) l ]

-- what that says: element number i passes, and none before it
pub record FirstAt {A : Type 0} (q : A → Bool) (d : A) (l : List A) (i : ℕ) : Type 0 where
  pub within : i < length l
  pub here : T (q (get_or l i d))
  pub before : (j : ℕ) → j < i → T (not (q (get_or l j d)))

-- a place in a list, and a number of the element there
pub record Least : Type 0 where
  pub place : ℕ
  pub value : ℤ

-- of two the one with the less number, the first of equals
abbrev pub lesser : Least → Option Least → Least
lesser a none = a
lesser a (some b) = cond (lt_z b.value a.value) b a

-- the element with the least g, the first of equals, the list's first element being number i
abbrev pub least_from : {A : Type 0} → (A → ℤ) → ℕ → List A → Option Least
least_from g i [] = none
least_from g i (x ∷ l) = some (lesser (record { place = i; value = g x }) (least_from g (suc i) l))

-- what that says: element number i has g at v, at most that of every element, and less than that of every element before it
pub record LeastAt {A : Type 0} (g : A → ℤ) (d : A) (l : List A) (i : ℕ) (v : ℤ) : Type 0 where
  pub within : i < length l
  pub is : g (get_or l i d) ≡ v
  pub least : (j : ℕ) → j < length l → v ≤ℤ g (get_or l j d)
  pub first : (j : ℕ) → j < i → v <ℤ g (get_or l j d)

-- i, i + 1, .., n of them
abbrev pub upward : ℕ → ℕ → List ℕ
upward i zero = []
upward i (suc n) = i ∷ upward (suc i) n

-- do all of them pass
abbrev pub every : {A : Type 0} → (A → Bool) → List A → Bool
every q [] = true
every q (x ∷ l) = q x && every q l

-- is x among them, by a test of equality
abbrev pub has : {A : Type 0} → (A → A → Bool) → A → List A → Bool
has same x [] = false
has same x (y ∷ l) = same x y || has same x l

-- every later element stands in R to each earlier one
abbrev pub Pw : {A : Type 0} → (A → A → Type 0) → List A → Type 0
Pw R [] = Unit {0}
Pw {A} R (x ∷ l) = ((y : A) → In y l → R x y) × Pw R l

-- no element occurs twice
abbrev pub Nodup : {A : Type 0} → List A → Type 0
Nodup l = Pw (λ x y. x ≢ y) l

abbrev pub sum_z : {A : Type 0} → (A → ℤ) → List A → ℤ
sum_z g [] = pos 0
sum_z g (x ∷ l) = g x +ℤ sum_z g l

-- new written over old from place at on, the rest of old as it was
unfoldable pub lay : {A : Type 0} → ℕ → List A → List A → List A
lay at new old = take at old ++ new ++ drop (at + length new) old

-- what a call did that laid new into the table old from place at on: r is the next free place, and the table is now after
pub record Laid {A : Type 0} (at : ℕ) (new old : List A) (r : ℕ) (after : List A) : Type 0 where
  pub next : r ≡ at + length new
  pub table : after ≡ lay at new old
