-- Membership, filtered lists, pairwise relations and repeat-free lists.
use mathlib.Core.Path.{◌≡◌, refl, sym, ◌∙◌, ap, ap₂, subst}
use mathlib.Core.Logic.{◌≢◌, ◌⊎◌, inl, inr}
use mathlib.Core.Bool.{Bool, true, false, not, ◌||◌, or_assoc}
use mathlib.Core.List.Memᴰ
use mathlib.Core.List.{List, [], ◌∷◌, ◌++◌, map, flat_map}
use Prim.Native.Nat.{ℕ, zero, suc, ◌<◌, ◌≤◌}
use native.Mathlib.Omega.{arith}
use lib.Dec.{T, T_not, not_T}
use lib.ListN.{length, get_or}
use Rattle.laws.specs.Lists.{In, put, keep, every, has, Pw, Nodup}
use Rattle.laws.proofs.Tests.{T-or, and_both, both_and, or_left, or_right}

pub here : {A : Type 0} {x y : A} {l : List A} → x ≡ y → In x (y ∷ l)
here e = Memᴰ.head e

pub there : {A : Type 0} {x y : A} {l : List A} → In x l → In x (y ∷ l)
there m = Memᴰ.tail m

-- ---- membership in a filtered list
in_put : {A : Type 0} (b : Bool) {x y : A} {l : List A} → In y (put b x l) → ((y ≡ x) × T b) ⊎ In y l
in_put true m = go (Memᴰ.cases_cons m)
  where
    go : {A : Type 0} {x y : A} {l : List A} → (y ≡ x) ⊎ In y l → ((y ≡ x) × Unit {0}) ⊎ In y l
    go (inl e) = inl (e, tt)
    go (inr m) = inr m
in_put false m = inr m

put_in : {A : Type 0} (b : Bool) (x : A) {y : A} {l : List A} → In y l → In y (put b x l)
put_in true x m = there m
put_in false x m = m

put_here : {A : Type 0} (b : Bool) {x y : A} (l : List A) → y ≡ x → T b → In y (put b x l)
put_here true l e t = here e
put_here false l e t = absurd t

pub in_keep : {A : Type 0} (q : A → Bool) (l : List A) {y : A} → In y (keep q l) → In y l × T (q y)
in_keep q [] m = absurd (Memᴰ.not-nil m)
in_keep {A} q (x ∷ l) {y} m = go (λ n. in_keep q l n) (in_put (q x) m)
  where
    go : (In y (keep q l) → In y l × T (q y)) → ((y ≡ x) × T (q x)) ⊎ In y (keep q l) → In y (x ∷ l) × T (q y)
    go r (inl e) = (here e.0, subst (λ (z : A). T (q z)) (sym e.0) e.1)
    go r (inr n) = (there (r n).0, (r n).1)

pub keep_in : {A : Type 0} (q : A → Bool) (l : List A) {y : A} → In y l → T (q y) → In y (keep q l)
keep_in q [] m t = absurd (Memᴰ.not-nil m)
keep_in {A} q (x ∷ l) {y} m t = go (λ n. keep_in q l n t) (Memᴰ.cases_cons m)
  where
    go : (In y l → In y (keep q l)) → (y ≡ x) ⊎ In y l → In y (put (q x) x (keep q l))
    go r (inl e) = put_here (q x) (keep q l) e (subst (λ (z : A). T (q z)) e t)
    go r (inr n) = put_in (q x) x (r n)

-- ---- membership in a mapped list
pub in_map : {A B : Type 0} (f : A → B) (l : List A) {y : B} → In y (map f l) → (x : A) × In x l × (y ≡ f x)
in_map f [] m = absurd (Memᴰ.not-nil m)
in_map {A} {B} f (a ∷ l) {y} m = go (λ n. in_map f l n) (Memᴰ.cases_cons m)
  where
    go : (In y (map f l) → (x : A) × In x l × (y ≡ f x)) → (y ≡ f a) ⊎ In y (map f l) → (x : A) × In x (a ∷ l) × (y ≡ f x)
    go r (inl e) = (a, here refl, e)
    go r (inr n) = let t = r n in (t.0, there t.1, t.2)

pub map_in : {A B : Type 0} (f : A → B) (l : List A) {x : A} → In x l → In (f x) (map f l)
map_in f [] m = absurd (Memᴰ.not-nil m)
map_in f (a ∷ l) {x} m = go (λ n. map_in f l n) (Memᴰ.cases_cons m)
  where
    go : (In x l → In (f x) (map f l)) → (x ≡ a) ⊎ In x l → In (f x) (map f (a ∷ l))
    go r (inl e) = here (ap f e)
    go r (inr n) = there (r n)

-- ---- pairwise
pub Pw-keep : {A : Type 0} (R : A → A → Type 0) (q : A → Bool) (l : List A) → Pw R l → Pw R (keep q l)
Pw-keep R q [] h = tt
Pw-keep {A} R q (x ∷ l) h = go (q x) (λ y m. h.0 y (in_keep q l m).0) (Pw-keep R q l h.1)
  where
    go : (b : Bool) → ((y : A) → In y (keep q l) → R x y) → Pw R (keep q l) → Pw R (put b x (keep q l))
    go true f g = (f, g)
    go false f g = g

pub Pw-append : {A : Type 0} {R : A → A → Type 0} (l m : List A) → Pw R l → Pw R m → ((x y : A) → In x l → In y m → R x y) → Pw R (l ++ m)
Pw-append [] m h k c = k
Pw-append {A} {R} (x ∷ l) m h k c =
    ((λ y n. go y (mathlib.Core.List.Memᴰ.append_cases l n)), Pw-append l m h.1 k (λ a b i j. c a b (there i) j))
  where
    go : (y : A) → In y l ⊎ In y m → R x y
    go y (inl n) = h.0 y n
    go y (inr n) = c x y (here refl) n

pub in_append : {A : Type 0} (l : List A) {m : List A} {x : A} → In x (l ++ m) → In x l ⊎ In x m
in_append l n = mathlib.Core.List.Memᴰ.append_cases l n

pub append_l : {A : Type 0} {l : List A} (m : List A) {x : A} → In x l → In x (l ++ m)
append_l m n = mathlib.Core.List.Memᴰ.append_left m n

pub append_r : {A : Type 0} (l : List A) {m : List A} {x : A} → In x m → In x (l ++ m)
append_r l n = mathlib.Core.List.Memᴰ.append_right l n

pub Pw-split : {A : Type 0} (R : A → A → Type 0) (l m : List A) → Pw R (l ++ m) → Pw R l × Pw R m × ((x y : A) → In x l → In y m → R x y)
Pw-split R [] m h = (tt, h, (λ x y i j. absurd (Memᴰ.not-nil i)))
Pw-split {A} R (a ∷ l) m h = let r = Pw-split R l m h.1 in
    (((λ y n. h.0 y (append_l m n)), r.0), r.1, (λ x y i j. go x y (r.2 x y) (Memᴰ.cases_cons i) j))
  where
    go : (x y : A) → (In x l → In y m → R x y) → (x ≡ a) ⊎ In x l → In y m → R x y
    go x y r (inl e) j = subst (λ (z : A). R z y) (sym e) (h.0 y (append_r l j))
    go x y r (inr i) j = r i j

pub Pw-map : {A B : Type 0} (R : B → B → Type 0) (f : A → B) (l : List A) → Pw (λ x y. R (f x) (f y)) l → Pw R (map f l)
Pw-map R f [] h = tt
Pw-map {A} {B} R f (a ∷ l) h = ((λ y m. let t = in_map f l m in subst (λ (z : B). R (f a) z) (sym t.2) (h.0 t.0 t.1)), Pw-map R f l h.1)

-- a weaker relation, which may look at the members
pub Pw-weak : {A : Type 0} {R S : A → A → Type 0} (l : List A) → ((x y : A) → In x l → In y l → R x y → S x y) → Pw R l → Pw S l
Pw-weak [] f h = tt
Pw-weak (x ∷ l) f h = ((λ y m. f x y (here refl) (there m) (h.0 y m)), Pw-weak l (λ a b i j. f a b (there i) (there j)) h.1)

-- two members are one, or stand in R
pub Pw-get : {A : Type 0} {R : A → A → Type 0} → ((x y : A) → R x y → R y x) → (l : List A) → Pw R l → {x y : A} → In x l → In y l → (x ≡ y) ⊎ R x y
Pw-get s [] h m n = absurd (Memᴰ.not-nil m)
Pw-get {A} {R} s (a ∷ l) h {x} {y} m n = go (λ i j. Pw-get s l h.1 i j) (Memᴰ.cases_cons m) (Memᴰ.cases_cons n)
  where
    go : (In x l → In y l → (x ≡ y) ⊎ R x y) → (x ≡ a) ⊎ In x l → (y ≡ a) ⊎ In y l → (x ≡ y) ⊎ R x y
    go r (inl e) (inl f) = inl (e ∙ sym f)
    go r (inl e) (inr j) = inr (subst (λ (z : A). R z y) (sym e) (h.0 y j))
    go r (inr i) (inl f) = inr (subst (λ (z : A). R x z) (sym f) (s a x (h.0 x i)))
    go r (inr i) (inr j) = r i j

pub nodup_map : {A B : Type 0} (f : A → B) → ((x y : A) → f x ≡ f y → x ≡ y) → (l : List A) → Nodup l → Nodup (map f l)
nodup_map f inj l h = Pw-map (λ x y. x ≢ y) f l (Pw-weak l (λ x y i j n e. n (inj x y e)) h)

pub keep_all : {A : Type 0} (q : A → Bool) (l : List A) → ((y : A) → In y l → T (q y)) → keep q l ≡ l
keep_all q [] h = refl
keep_all {A} q (x ∷ l) h = go (q x) (h x (here refl)) (keep_all q l (λ y m. h y (there m)))
  where
    go : (b : Bool) → T b → keep q l ≡ l → put b x (keep q l) ≡ x ∷ l
    go true t e = ap (λ (z : List A). x ∷ z) e
    go false t e = absurd t

pub keep_none : {A : Type 0} (q : A → Bool) (l : List A) → ((y : A) → In y l → T (not (q y))) → keep q l ≡ []
keep_none q [] h = refl
keep_none {A} q (x ∷ l) h = go (q x) (h x (here refl)) (keep_none q l (λ y m. h y (there m)))
  where
    go : (b : Bool) → T (not b) → keep q l ≡ [] → put b x (keep q l) ≡ []
    go true t e = absurd t
    go false t e = e

-- only the answers on the members count
pub keep_ext : {A : Type 0} (q r : A → Bool) (l : List A) → ((y : A) → In y l → q y ≡ r y) → keep q l ≡ keep r l
keep_ext q r [] h = refl
keep_ext q r (x ∷ l) h = ap₂ (λ (b : Bool) m. put b x m) (h x (here refl)) (keep_ext q r l (λ y m. h y (there m)))

-- ---- what holds of the first and of each later one holds of each
pub cons_each : {A : Type 0} (P : A → Type 0) {x : A} {l : List A} → P x → ((y : A) → In y l → P y) → (y : A) → In y (x ∷ l) → P y
cons_each {A} P {x} {l} h r y m = go (Memᴰ.cases_cons m)
  where
    go : (y ≡ x) ⊎ In y l → P y
    go (inl e) = subst P (sym e) h
    go (inr n) = r y n

pub flat_map_in : {A B : Type 0} (g : A → List B) (l : List A) {x : A} {y : B} → In x l → In y (g x) → In y (flat_map g l)
unfolding flat_map
flat_map_in g [] m i = absurd (Memᴰ.not-nil m)
flat_map_in {A} g (a ∷ l) {x} {y} m i = cons_each (λ (z : A). In y (g z) → In y (flat_map g (a ∷ l))) (append_l (flat_map g l)) (λ z n j. append_r (g a) (flat_map_in g l n j)) x m i

-- ---- what holds of each of a list that is written out
abbrev pub All : {A : Type 0} → (A → Type 0) → List A → Type 0
All P [] = Unit {0}
All P (x ∷ l) = P x × All P l

pub all→ : {A : Type 0} (P : A → Type 0) (l : List A) → All P l → (x : A) → In x l → P x
all→ P [] h x m = absurd (Memᴰ.not-nil m)
all→ P (a ∷ l) h x m = cons_each P h.0 (all→ P l h.1) x m

-- ---- one member with a property, or none
pub find : {A : Type 0} (q : A → Bool) (l : List A) → ((x : A) × In x l × T (q x)) ⊎ ((x : A) → In x l → T (not (q x)))
find q [] = inr (λ x m. absurd (Memᴰ.not-nil m))
find {A} q (a ∷ l) = go (T-or (q a)) (find q l)
  where
    Found : List A → Type 0
    Found l = ((x : A) × In x l × T (q x)) ⊎ ((x : A) → In x l → T (not (q x)))

    go : T (q a) ⊎ T (not (q a)) → Found l → Found (a ∷ l)
    go (inl t) r = inl (a, here refl, t)
    go (inr t) (inl r) = inl (r.0, there r.1, r.2)
    go (inr t) (inr r) = inr (λ x m. last x (Memᴰ.cases_cons m))
      where
        last : (x : A) → (x ≡ a) ⊎ In x l → T (not (q x))
        last x (inl e) = subst (λ (z : A). T (not (q z))) (sym e) t
        last x (inr m) = r x m

pub keep_append : {A : Type 0} (q : A → Bool) (l m : List A) → keep q (l ++ m) ≡ keep q l ++ keep q m
keep_append q [] m = refl
keep_append {A} q (x ∷ l) m = go (q x) (keep_append q l m)
  where
    go : (b : Bool) → keep q (l ++ m) ≡ keep q l ++ keep q m → put b x (keep q (l ++ m)) ≡ put b x (keep q l) ++ keep q m
    go true e = ap (λ (z : List A). x ∷ z) e
    go false e = e

pub length_keep : {A : Type 0} (q : A → Bool) (l : List A) → length (keep q l) ≤ length l
length_keep q [] = omega arith
length_keep {A} q (x ∷ l) = go (q x) (length_keep q l)
  where
    go : (b : Bool) → length (keep q l) ≤ length l → length (put b x (keep q l)) ≤ suc (length l)
    go true h = omega arith
    go false h = omega arith

-- what stands at a place is a member
pub get_or_in : {A : Type 0} (l : List A) (i : ℕ) (d : A) → i < length l → In (get_or l i d) l
get_or_in [] i d h = absurd (omega arith)
get_or_in (x ∷ l) zero d h = here refl
get_or_in (x ∷ l) (suc i) d h = there (get_or_in l i d (omega arith))

-- and a member stands at some place
pub in_get_or : {A : Type 0} (l : List A) {y : A} (d : A) → In y l → (i : ℕ) × (i < length l) × (get_or l i d ≡ y)
in_get_or [] d m = absurd (Memᴰ.not-nil m)
in_get_or {A} (x ∷ l) {y} d m = go (λ n. in_get_or l d n) (Memᴰ.cases_cons m)
  where
    go : (In y l → (i : ℕ) × (i < length l) × (get_or l i d ≡ y)) → (y ≡ x) ⊎ In y l → (i : ℕ) × (i < length (x ∷ l)) × (get_or (x ∷ l) i d ≡ y)
    go r (inl e) = (0, omega arith, sym e)
    go r (inr n) = let u = r n in (suc u.0, omega (arith, u.1), u.2)

-- where all pass, each does
pub every_at : {A : Type 0} (q : A → Bool) (l : List A) (i : ℕ) (d : A) → i < length l → T (every q l) → T (q (get_or l i d))
every_at q [] i d h t = absurd (omega arith)
every_at q (x ∷ l) zero d h t = (and_both (q x) (every q l) t).0
every_at q (x ∷ l) (suc i) d h t = every_at q l i d (omega arith) (and_both (q x) (every q l) t).1

pub every_all : {A : Type 0} (q : A → Bool) (l : List A) → ((x : A) → In x l → T (q x)) → T (every q l)
every_all q [] h = tt
every_all q (x ∷ l) h = both_and (q x) (every q l) (h x (here refl)) (every_all q l (λ y m. h y (there m)))

pub has_append : {A : Type 0} (same : A → A → Bool) (x : A) (l m : List A) → has same x (l ++ m) ≡ has same x l || has same x m
has_append same x [] m = refl
has_append same x (y ∷ l) m = ap (λ (b : Bool). same x y || b) (has_append same x l m) ∙ sym (or_assoc (same x y) (has same x l) (has same x m))

-- ---- over a type whose equality a Boolean test decides
module _ {A : Type 0} (same : A → A → Bool) (sound : (x y : A) → T (same x y) → x ≡ y) (self : (x : A) → T (same x x)) where
  pub has→ : (x : A) (l : List A) → T (has same x l) → In x l
  has→ x [] t = absurd t
  has→ x (y ∷ l) t = go (same x y) (sound x y) (has→ x l) t
    where
      go : (b : Bool) → (T b → x ≡ y) → (T (has same x l) → In x l) → T (b || has same x l) → In x (y ∷ l)
      go true f r t = here (f tt)
      go false f r t = there (r t)

  pub →has : (x : A) (l : List A) → In x l → T (has same x l)
  →has x [] m = absurd (Memᴰ.not-nil m)
  →has x (y ∷ l) m = go (→has x l) (Memᴰ.cases_cons m)
    where
      go : (In x l → T (has same x l)) → (x ≡ y) ⊎ In x l → T (same x y || has same x l)
      go r (inl e) = or_left (same x y) (has same x l) (subst (λ (z : A). T (same x z)) e (self x))
      go r (inr n) = or_right (same x y) (has same x l) (r n)

  pub apart : (x y : A) → x ≢ y → T (not (same x y))
  apart x y n = not_T (same x y) (λ t. n (sound x y t))

  pub apart→ : (x y : A) → T (not (same x y)) → x ≢ y
  apart→ x y t e = T_not (same x y) t (subst (λ (z : A). T (same x z)) e (self x))
