-- Labels: where each element of a list has a number by P or one by Q, and no two have the same by P or the same by Q, the list is as long as two
-- repeat-free lists of such numbers together.
use mathlib.Core.Path.{◌≡◌, refl, subst}
use mathlib.Core.Logic.{◌≢◌, ◌⊎◌, inl, inr}
use mathlib.Core.List.Memᴰ
use mathlib.Core.List.{List, [], ◌∷◌}
use Prim.Native.Nat.{ℕ, ◌+◌}
use native.Mathlib.Omega.{arith}
use lib.ListN.{length}
use Rattle.laws.specs.Lists.{In, Pw, Nodup}
use Rattle.laws.proofs.Members.{here, there, cons_each}

-- no two elements have one number by P
abbrev pub Single : {A : Type 0} → (A → ℕ → Type 0) → List A → Type 0
Single P l = Pw (λ x y. (v : ℕ) → P x v → P y v → ⊥) l

-- numbers that elements of l have by P, each once
pub record Labels {A : Type 0} (P : A → ℕ → Type 0) (l : List A) : Type 0 where
  pub all : List ℕ
  pub of : (v : ℕ) → In v all → (x : A) × In x l × P x v
  pub once : Nodup all

-- all elements told apart, each by a number of one kind
pub record Told {A : Type 0} (P Q : A → ℕ → Type 0) (l : List A) : Type 0 where
  pub one : Labels P l
  pub two : Labels Q l
  pub count : length l ≡ length one.all + length two.all

module _ {A : Type 0} (P : A → ℕ → Type 0) (x : A) (l : List A) (L : Labels P l) where
  abbrev later : (v : ℕ) → In v L.all → (y : A) × In y (x ∷ l) × P y v
  later v m = let t = L.of v m in (t.0, there t.1, t.2)

  abbrev pass : Labels P (x ∷ l)
  pass = record { all = L.all; of = later; once = L.once }

  abbrev add : (v : ℕ) → P x v → ((y : A) → In y l → (v : ℕ) → P x v → P y v → ⊥) → Labels P (x ∷ l)
  add v k new = record { all = v ∷ L.all; of = cons_each (λ u. (y : A) × In y (x ∷ l) × P y u) (x, here refl, k) later; once = (fresh, L.once) }
    where
      fresh : (u : ℕ) → In u L.all → v ≢ u
      fresh u m e = let t = L.of u m in new t.0 t.1 u (subst (P x) e k) t.2

pub tell : {A : Type 0} (P Q : A → ℕ → Type 0) (l : List A) → Single P l → Single Q l → ((x : A) → In x l → ((v : ℕ) × P x v) ⊎ ((v : ℕ) × Q x v)) → Told P Q l
tell P Q [] s r k = record { one = none P; two = none Q; count = refl }
  where
    none : {A : Type 0} (P : A → ℕ → Type 0) → Labels P []
    none P = record { all = []; of = λ v m. absurd (Memᴰ.not-nil m); once = tt }
tell {A} P Q (x ∷ l) s r k = go (tell P Q l s.1 r.1 (λ y m. k y (there m))) (k x (here refl))
  where
    go : Told P Q l → ((v : ℕ) × P x v) ⊎ ((v : ℕ) × Q x v) → Told P Q (x ∷ l)
    go t (inl v) = record { one = add P x l t.one v.0 v.1 s.0; two = pass Q x l t.two; count = omega (arith, t.count) }
    go t (inr v) = record { one = pass P x l t.one; two = add Q x l t.two v.0 v.1 r.0; count = omega (arith, t.count) }
