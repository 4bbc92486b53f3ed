-- The first element that passes a test, and the numbers from i on.
use mathlib.Core.Path.{◌≡◌, refl, sym, ◌∙◌, ap, ap₂, subst}
use mathlib.Core.Logic.{◌≢◌, ◌⊎◌, inl, inr}
use mathlib.Core.Bool.{Bool, true, false, not}
use mathlib.Core.List.Memᴰ
use mathlib.Core.List.{List, [], ◌∷◌, ◌++◌}
use mathlib.Core.Option.{Option, none, some, some-injective}
use Prim.Native.Nat.{ℕ, zero, suc, ◌+◌, ◌≤◌, ◌<◌}
use native.Mathlib.Nat.{add-zero}
use native.Mathlib.Omega.{arith}
use lib.Dec.{T, T_not}
use lib.ListN.{get_or}
use Rattle.laws.specs.Lists.{In, first, first_from, FirstAt, upward}
use Rattle.laws.proofs.Members.{here, there}

pub in_upward : (i n : ℕ) {t : ℕ} → In t (upward i n) → (i ≤ t) × (t < i + n)
in_upward i zero m = absurd (Memᴰ.not-nil m)
in_upward i (suc n) {t} m = go (λ k. in_upward (suc i) n k) (Memᴰ.cases_cons m)
  where
    go : (In t (upward (suc i) n) → (suc i ≤ t) × (t < suc i + n)) → (t ≡ i) ⊎ In t (upward (suc i) n) → (i ≤ t) × (t < i + suc n)
    go r (inl e) = omega arith
    go r (inr k) = omega (arith, r k)

pub upward_in : (i n t : ℕ) → i ≤ t → t < i + n → In t (upward i n)
upward_in i zero t h k = absurd (omega arith)
upward_in i (suc n) t h k = go (λ u v. upward_in (suc i) n t u v) (native.Mathlib.Decide.ℕ_discrete t i)
  where
    go : (suc i ≤ t → t < suc i + n → In t (upward (suc i) n)) → Dec (t ≡ i) → In t (upward i (suc n))
    go r (yes e) = here e
    go r (no f) = there (r (omega (arith, f)) (omega arith))

pub upward_append : (i n m : ℕ) → upward i (n + m) ≡ upward i n ++ upward (i + n) m
upward_append i zero m = ap₂ (λ (j k : ℕ). upward j k) (sym (add-zero i)) (native.Mathlib.Nat.zero-add m)
upward_append i (suc n) m = ap (λ (k : ℕ). upward i k) (suc_out n m) ∙ ap (λ (l : List ℕ). i ∷ l) (upward_append (suc i) n m ∙ ap (λ (j : ℕ). upward (suc i) n ++ upward j m) (shift_suc i n))
  where
    suc_out : (n m : ℕ) → suc n + m ≡ suc (n + m)
    suc_out n m = omega arith

    shift_suc : (i n : ℕ) → suc i + n ≡ i + suc n
    shift_suc i n = omega arith

pub no_some : {A : Type 0} {x : A} → none ≡ some x → ⊥
no_some {A} {x} e = let z : ◌≡◌ {A = ℕ} 0 1 = cc in omega arith

pub first_some : {A : Type 0} (q : A → Bool) (l : List A) {y : A} → first q l ≡ some y → In y l × T (q y)
first_some q [] e = absurd (no_some e)
first_some {A} q (x ∷ l) {y} e = go (λ f. first_some q l f) (q x) refl e
  where
    go : (first q l ≡ some y → In y l × T (q y)) → (b : Bool) → q x ≡ b → (elim b as (λ z. Option A) [ true ↦ some x | false ↦ first q l ]) ≡ some y → In y (x ∷ l) × T (q y)
    go r true h e = let f : y ≡ x = sym (some-injective x y e) in (here f, subst T (sym (ap q f ∙ h)) tt)
    go r false h e = (there (r e).0, (r e).1)

pub first_none : {A : Type 0} (q : A → Bool) (l : List A) → first q l ≡ none → (y : A) → In y l → T (not (q y))
first_none q [] e y m = absurd (Memᴰ.not-nil m)
first_none {A} q (x ∷ l) e y m = go (λ f n. first_none q l f y n) (q x) refl e (Memᴰ.cases_cons m)
  where
    go : (first q l ≡ none → In y l → T (not (q y))) → (b : Bool) → q x ≡ b → ◌≡◌ {A = Option A} (elim b as (λ z. Option A) [ true ↦ some x | false ↦ first q l ]) none → (y ≡ x) ⊎ In y l → T (not (q y))
    go r true h e m = absurd (no_some (sym e))
    go r false h e (inl f) = subst T (sym (ap (λ (z : A). not (q z)) f ∙ ap not h)) tt
    go r false h e (inr n) = r e n

pub first_append : {A : Type 0} (q : A → Bool) (l m : List A) {y : A} → first q l ≡ some y → first q (l ++ m) ≡ some y
first_append q [] m e = absurd (no_some e)
first_append {A} q (x ∷ l) m {y} e = go (λ f. first_append q l m f) (q x) e
  where
    go : (first q l ≡ some y → first q (l ++ m) ≡ some y) → (b : Bool) → (elim b as (λ z. Option A) [ true ↦ some x | false ↦ first q l ]) ≡ some y → (elim b as (λ z. Option A) [ true ↦ some x | false ↦ first q (l ++ m) ]) ≡ some y
    go r true e = e
    go r false e = r e

-- only the answers on the members count
pub first_ext : {A : Type 0} (q r : A → Bool) (l : List A) → ((y : A) → In y l → q y ≡ r y) → first q l ≡ first r l
first_ext q r [] h = refl
first_ext {A} q r (x ∷ l) h = ap₂ (λ (b : Bool) m. (elim b as (λ z. Option A) [ true ↦ some x | false ↦ m ])) (h x (here refl)) (first_ext q r l (λ y m. h y (there m)))

-- no number before the first that passes does
pub first_before : (q : ℕ → Bool) (i n : ℕ) {y : ℕ} → first q (upward i n) ≡ some y → (t : ℕ) → i ≤ t → t < y → T (not (q t))
first_before q i zero e t h k = absurd (no_some e)
first_before q i (suc n) {y} e t h k = go (λ f u. first_before q (suc i) n f t u k) (q i) refl e
  where
    later : t ≢ i → suc i ≤ t
    later d = omega arith

    go : (first q (upward (suc i) n) ≡ some y → suc i ≤ t → T (not (q t))) → (b : Bool) → q i ≡ b → (elim b as (λ z. Option ℕ) [ true ↦ some i | false ↦ first q (upward (suc i) n) ]) ≡ some y → T (not (q t))
    go r true f e = let g : i ≡ y = some-injective i y e in absurd (omega arith)
    go r false f e = last (native.Mathlib.Decide.ℕ_discrete t i)
      where
        last : Dec (t ≡ i) → T (not (q t))
        last (yes g) = subst T (sym (ap (λ (z : ℕ). not (q z)) g ∙ ap not f)) tt
        last (no g) = r e (later g)

-- ---- the place of the first that passes: there is none exactly if no member passes
pub from_none : {A : Type 0} (q : A → Bool) (i : ℕ) (l : List A) → first_from q i l ≡ none → (y : A) → In y l → T (not (q y))
from_none q i [] e y m = absurd (Memᴰ.not-nil m)
from_none {A} q i (x ∷ l) e y m = go (λ f n. from_none q (suc i) l f y n) (q x) refl e (Memᴰ.cases_cons m)
  where
    go : (first_from q (suc i) l ≡ none → In y l → T (not (q y))) → (b : Bool) → q x ≡ b → ◌≡◌ {A = Option ℕ} (elim b as (λ z. Option ℕ) [ true ↦ some i | false ↦ first_from q (suc i) l ]) none → (y ≡ x) ⊎ In y l → T (not (q y))
    go r true h e m = absurd (no_some (sym e))
    go r false h e (inl f) = subst T (sym (ap (λ (z : A). not (q z)) f ∙ ap not h)) tt
    go r false h e (inr n) = r e n

pub from_some : {A : Type 0} (q : A → Bool) (i : ℕ) (l : List A) {j : ℕ} → first_from q i l ≡ some j → (y : A) × In y l × T (q y)
from_some q i [] e = absurd (no_some e)
from_some {A} q i (x ∷ l) {j} e = go (λ f. from_some q (suc i) l f) (q x) refl e
  where
    go : (first_from q (suc i) l ≡ some j → (y : A) × In y l × T (q y)) → (b : Bool) → q x ≡ b → (elim b as (λ z. Option ℕ) [ true ↦ some i | false ↦ first_from q (suc i) l ]) ≡ some j → (y : A) × In y (x ∷ l) × T (q y)
    go r true h e = (x, here refl, subst T (sym h) tt)
    go r false h e = let t = r e in (t.0, there t.1, t.2)

-- ---- by its place
-- S holds of a place in a list whose first element is number k, and i is the number there
pub record From (S : ℕ → Type 0) (k i : ℕ) : Type 0 where
  pub at : ℕ
  pub place : i ≡ k + at
  pub so : S at

pub from_0 : {S : ℕ → Type 0} {i : ℕ} → From S 0 i → S i
from_0 {S} {i} s = let p : s.at ≡ i = omega (arith, s.place) in rw (sym p) s.so

-- nothing before it passes
module _ {A : Type 0} (q : A → Bool) (d : A) where
  first_from_lem : (l : List A) (k : ℕ) {i : ℕ} → first_from q k l ≡ some i → From (FirstAt q d l) k i
  first_from_lem [] k e = absurd (no_some e)
  first_from_lem (x ∷ l) k {i} e = go (λ f. first_from_lem l (suc k) f) (q x) refl e
    where
      go : (first_from q (suc k) l ≡ some i → From (FirstAt q d l) (suc k) i) → (b : Bool) → q x ≡ b → (elim b as (λ z. Option ℕ) [ true ↦ some k | false ↦ first_from q (suc k) l ]) ≡ some i → From (FirstAt q d (x ∷ l)) k i
      go r true h e = record { at = 0; place = sym (some-injective k i e) ∙ sym (add-zero k); so = record { within = omega arith; here = subst T (sym h) tt; before = λ j u. absurd (omega arith) } }
      go r false h e = let s = r e in record { at = suc s.at; place = omega (arith, s.place); so = record { within = omega (arith, s.so.within); here = s.so.here; before = before s } }
        where
          before : (s : From (FirstAt q d l) (suc k) i) (j : ℕ) → j < suc s.at → T (not (q (get_or (x ∷ l) j d)))
          before s zero u = subst (λ (b : Bool). T (not b)) (sym h) tt
          before s (suc j) u = s.so.before j (omega arith)

  pub first_at : (l : List A) {i : ℕ} → first_from q 0 l ≡ some i → FirstAt q d l i
  first_at l e = from_0 (first_from_lem l 0 e)

  -- no two places are the first
  pub first_one : (l : List A) {i j : ℕ} → FirstAt q d l i → FirstAt q d l j → i ≡ j
  first_one l {i} {j} a b =
      let f : i < j → ⊥ = λ h. T_not (q (get_or l i d)) (b.before i h) a.here in
      let h : j < i → ⊥ = λ h. T_not (q (get_or l j d)) (a.before j h) b.here in
      omega (arith, f, h)
