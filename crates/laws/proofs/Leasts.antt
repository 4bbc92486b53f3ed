-- The element with the least number: what `least_from` gives is at most every other and less than all before it, and there is one such.
use mathlib.Core.Path.{◌≡◌, refl, sym}
use mathlib.Core.Bool.{Bool, true, false, cond}
use mathlib.Core.List.{List, [], ◌∷◌}
use mathlib.Core.Option.{Option, none, some, some-injective}
use Prim.Native.Nat.{ℕ, zero, suc, ◌<◌}
use native.Mathlib.Omega.{arith}
use lib.IntN.{ℤ, neg_ℤ}
use lib.Signed.{◌≤ℤ◌, ◌<ℤ◌, lt_z}
use lib.ListN.{length, get_or}
use Rattle.laws.specs.Lists.{In, Least, lesser, least_from, LeastAt}
use Rattle.laws.proofs.Order.{≤_refl, ≤_trans, <→≤, ≡→≤, antisymm, not_lt, neg_back, lt_true, lt_false}
use Rattle.laws.proofs.Members.{get_or_in, in_get_or}
use Rattle.laws.proofs.Firsts.{no_some, From, from_0}

module _ {A : Type 0} (g : A → ℤ) (d : A) where
  -- what the least of l says where l's first element is number k
  abbrev LeastFrom : List A → ℕ → Least → Type 0
  LeastFrom l k m = From (λ i. LeastAt g d l i m.value) k m.place

  -- the first element is no more than the least of the others, or it is
  module _ (x : A) (l : List A) (k : ℕ) {b : Least} (r : LeastFrom l (suc k) b) where
    stays : g x ≤ℤ b.value → LeastFrom (x ∷ l) k (record { place = k; value = g x })
    stays h = record { at = 0; place = omega arith; so = record { within = omega arith; is = refl; least = least; first = λ j u. absurd (omega arith) } }
      where
        least : (j : ℕ) → j < length (x ∷ l) → g x ≤ℤ g (get_or (x ∷ l) j d)
        least zero u = ≤_refl (g x)
        least (suc j) u = ≤_trans h (r.so.least j (omega arith))

    yields : b.value <ℤ g x → LeastFrom (x ∷ l) k b
    yields h = record { at = suc r.at; place = omega (arith, r.place); so = record { within = omega (arith, r.so.within); is = r.so.is; least = least; first = first } }
      where
        least : (j : ℕ) → j < length (x ∷ l) → b.value ≤ℤ g (get_or (x ∷ l) j d)
        least zero u = <→≤ h
        least (suc j) u = r.so.least j (omega arith)

        first : (j : ℕ) → j < suc r.at → b.value <ℤ g (get_or (x ∷ l) j d)
        first zero u = h
        first (suc j) u = r.so.first j (omega arith)

    less : LeastFrom (x ∷ l) k (lesser (record { place = k; value = g x }) (some b))
    less = go (lt_z b.value (g x)) refl
      where
        go : (t : Bool) → lt_z b.value (g x) ≡ t → LeastFrom (x ∷ l) k (cond t b (record { place = k; value = g x }))
        go true e = yields (lt_true e)
        go false e = stays (lt_false e)

  least_from_lem : (l : List A) (k : ℕ) {m : Least} → least_from g k l ≡ some m → LeastFrom l k m
  least_from_lem [] k e = absurd (no_some e)
  least_from_lem (x ∷ l) k {m} e = rw (sym (some-injective _ m e)) (go l (least_from g (suc k) l) refl (λ b h. least_from_lem l (suc k) h))
    where
      go : (l : List A) (o : Option Least) → least_from g (suc k) l ≡ o → ((b : Least) → least_from g (suc k) l ≡ some b → LeastFrom l (suc k) b) → LeastFrom (x ∷ l) k (lesser (record { place = k; value = g x }) o)
      go [] none e r = record { at = 0; place = omega arith; so = record { within = omega arith; is = refl; least = one; first = λ j u. absurd (omega arith) } }
        where
          one : (j : ℕ) → j < length (x ∷ []) → g x ≤ℤ g (get_or (x ∷ []) j d)
          one zero u = ≤_refl (g x)
          one (suc j) u = absurd (omega arith)
      go (y ∷ l) none e r = absurd (no_some (sym e))
      go l (some b) e r = less x l k (r b e)

  -- ---- of a whole list
  pub least_some : (l : List A) {m : Least} → least_from g 0 l ≡ some m → LeastAt g d l m.place m.value
  least_some l {m} e = from_0 {S = λ i. LeastAt g d l i m.value} (least_from_lem l 0 e)

  pub least_none : (l : List A) → least_from g 0 l ≡ none → length l ≡ 0
  least_none [] e = refl
  least_none (x ∷ l) e = absurd (no_some (sym e))

  -- no two places have it
  pub least_one : (l : List A) {i j : ℕ} {v w : ℤ} → LeastAt g d l i v → LeastAt g d l j w → (i ≡ j) × (v ≡ w)
  least_one l {i} {j} {v} {w} a b =
      let e : v ≡ w = antisymm (rw b.is at (a.least j b.within)) (rw a.is at (b.least i a.within)) in
      let f : i < j → ⊥ = λ h. not_lt (≡→≤ e) (rw a.is at (b.first i h)) in
      let h : j < i → ⊥ = λ h. not_lt (≡→≤ (sym e)) (rw b.is at (a.first j h)) in
      (omega (arith, f, h), e)

-- ---- a member with the least number, and one with the greatest
module _ {A : Type 0} where
  pub least_member : (g : A → ℤ) (l : List A) {x : A} → In x l → (y : A) × In y l × ((z : A) → In z l → g y ≤ℤ g z)
  least_member g l {x} i = go (least_from g 0 l) refl
    where
      go : (o : Option Least) → least_from g 0 l ≡ o → (y : A) × In y l × ((z : A) → In z l → g y ≤ℤ g z)
      go none e = absurd (omega (arith, least_none g x l e, (in_get_or l x i).1))
      go (some m) e = let a = least_some g x l e in
          (get_or l m.place x, get_or_in l m.place x a.within, (λ z j. let k = in_get_or l x j in ≤_trans (≡→≤ a.is) (rw k.2 at (a.least k.0 k.1))))

  pub greatest_member : (g : A → ℤ) (l : List A) {x : A} → In x l → (y : A) × In y l × ((z : A) → In z l → g z ≤ℤ g y)
  greatest_member g l i = let m = least_member (λ z. neg_ℤ (g z)) l i in (m.0, m.1, (λ z j. neg_back (m.2 z j)))
