-- What a computed test says of each member, and of each pair, of a list that is written out.
use mathlib.Core.Bool.{Bool, true, ◌&&◌}
use mathlib.Core.List.{List, [], ◌∷◌}
use lib.Dec.{T}
use Rattle.laws.specs.Lists.{In, Pw}
use Rattle.laws.proofs.Tests.{and_both}
use Rattle.laws.proofs.Members.{All, all→}

abbrev pub every : {A : Type 0} → (A → Bool) → List A → Bool
every q [] = true
every q (x ∷ l) = q x && every q l

abbrev pub every_pair : {A : Type 0} → (A → A → Bool) → List A → Bool
every_pair q [] = true
every_pair q (x ∷ l) = every (q x) l && every_pair q l

all_pass : {A : Type 0} (q : A → Bool) (l : List A) → T (every q l) → All (λ x. T (q x)) l
all_pass q [] t = tt
all_pass q (x ∷ l) t = let b = and_both (q x) (every q l) t in (b.0, all_pass q l b.1)

pub every→ : {A : Type 0} (q : A → Bool) (l : List A) → T (every q l) → (x : A) → In x l → T (q x)
every→ q l t = all→ (λ x. T (q x)) l (all_pass q l t)

pub pairs→ : {A : Type 0} (R : A → A → Type 0) (q : A → A → Bool) → ((x y : A) → T (q x y) → R x y) → (l : List A) → T (every_pair q l) → Pw R l
pairs→ R q f [] t = tt
pairs→ R q f (x ∷ l) t = let b = and_both (every (q x) l) (every_pair q l) t in ((λ y m. f x y (every→ (q x) l b.0 y m)), pairs→ R q f l b.1)
