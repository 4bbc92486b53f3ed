-- Sums over lists, and the sum lemma of a list that reversal maps to itself.
use mathlib.Core.Path.{◌≡◌, refl, sym, ◌∙◌, ap, ap₂, subst}
use mathlib.Core.Logic.{◌≢◌, ◌⊎◌, inl, inr}
use mathlib.Core.Bool.{Bool, true, false, not}
use mathlib.Core.List.Memᴰ
use mathlib.Core.List.{List, [], ◌∷◌, ◌++◌, map}
use native.Mathlib.Omega.{arith}
use lib.Dec.{T, T_not, not_T}
use lib.IntN.{ℤ, pos, neg_ℤ, ◌+ℤ◌, +ℤ_idr, +ℤ_idl, +ℤ_assoc, neg_ℤ-+ℤ}
use lib.Signed.{◌≤ℤ◌, ◌<ℤ◌, <ℤ_irrefl}
use Rattle.laws.specs.Lists.{In, put, keep, has, Pw, Nodup, sum_z}
use Rattle.laws.proofs.Tests.{not_not, →not_not}
use Rattle.laws.proofs.Integers.{up_neg, dn_neg, sum_is, +ℤ_left_comm, +ℤ_swap}
use Rattle.laws.proofs.Order.{zs, pos_is, ≤_refl, add_nonneg, add_pos, nonneg_add, below_or}
use Rattle.laws.proofs.Members.{here, there, in_keep, keep_in, keep_all, Pw-keep, in_map, map_in, nodup_map, has→, →has, apart, apart→}

pub sum_append : {A : Type 0} (g : A → ℤ) (l m : List A) → sum_z g (l ++ m) ≡ sum_z g l +ℤ sum_z g m
sum_append g [] m = sym (+ℤ_idl (sum_z g m))
sum_append g (x ∷ l) m = ap (λ (z : ℤ). g x +ℤ z) (sum_append g l m) ∙ sym (+ℤ_assoc (g x) (sum_z g l) (sum_z g m))

pub sum_ext : {A : Type 0} (g h : A → ℤ) (l : List A) → ((x : A) → In x l → g x ≡ h x) → sum_z g l ≡ sum_z h l
sum_ext g h [] e = refl
sum_ext g h (x ∷ l) e = ap₂ ◌+ℤ◌ (e x (here refl)) (sum_ext g h l (λ y m. e y (there m)))

pub sum_add : {A : Type 0} (g h : A → ℤ) (l : List A) → sum_z (λ x. g x +ℤ h x) l ≡ sum_z g l +ℤ sum_z h l
sum_add g h [] = refl
sum_add g h (x ∷ l) = ap (λ (z : ℤ). (g x +ℤ h x) +ℤ z) (sum_add g h l) ∙ +ℤ_swap (g x) (h x) (sum_z g l) (sum_z h l)

pub sum_nonneg : {A : Type 0} (g : A → ℤ) (l : List A) → ((x : A) → In x l → pos 0 ≤ℤ g x) → pos 0 ≤ℤ sum_z g l
sum_nonneg g [] h = ≤_refl (pos 0)
sum_nonneg g (x ∷ l) h = add_nonneg (h x (here refl)) (sum_nonneg g l (λ y m. h y (there m)))

pub sum_pos : {A : Type 0} (g : A → ℤ) (l : List A) → ((x : A) → In x l → pos 0 ≤ℤ g x) → {y : A} → In y l → pos 0 <ℤ g y → pos 0 <ℤ sum_z g l
sum_pos g [] h m k = absurd (Memᴰ.not-nil m)
sum_pos {A} g (x ∷ l) h {y} m k = go (λ n. sum_pos g l (λ z i. h z (there i)) n k) (Memᴰ.cases_cons m)
  where
    go : (In y l → pos 0 <ℤ sum_z g l) → (y ≡ x) ⊎ In y l → pos 0 <ℤ (g x +ℤ sum_z g l)
    go r (inl e) = add_pos (subst (λ (z : A). pos 0 <ℤ g z) e k) (sum_nonneg g l (λ z i. h z (there i)))
    go r (inr n) = nonneg_add (h x (here refl)) (r n)

-- a sum above 0 has a term above 0
pub some_pos : {A : Type 0} (g : A → ℤ) (l : List A) → pos 0 <ℤ sum_z g l → (x : A) × In x l × (pos 0 <ℤ g x)
some_pos g [] h = absurd (<ℤ_irrefl h)
some_pos {A} g (x ∷ l) h = go (some_pos g l) (below_or (g x) (pos 0))
  where
    rest : g x ≤ℤ pos 0 → pos 0 <ℤ sum_z g l
    rest k = omega (arith, zs, sum_is (g x) (sum_z g l), pos_is 0)

    go : (pos 0 <ℤ sum_z g l → (y : A) × In y l × (pos 0 <ℤ g y)) → (g x ≤ℤ pos 0) ⊎ (pos 0 <ℤ g x) → (y : A) × In y (x ∷ l) × (pos 0 <ℤ g y)
    go r (inl k) = let t = r (rest k) in (t.0, there t.1, t.2)
    go r (inr k) = (x, here refl, k)

-- of a family of sums, each at most 1 and with no term below 0: no two terms are above 0 at one x
pub one_pos : {A X : Type 0} (g : X → A → ℤ) (l : List A) → ((x : X) → sum_z (g x) l ≤ℤ pos 1) → ((x : X) (a : A) → In a l → pos 0 ≤ℤ g x a) → Pw (λ a b. (x : X) → pos 0 <ℤ g x a → pos 0 <ℤ g x b → ⊥) l
one_pos g [] most low = tt
one_pos {A} {X} g (a ∷ l) most low = ((λ b m x h k. two x h (sum_pos (g x) l (λ c i. low x c (there i)) m k)), one_pos g l (λ x. rest x (low x a (here refl))) (λ x c i. low x c (there i)))
  where
    two : (x : X) → pos 0 <ℤ g x a → pos 0 <ℤ sum_z (g x) l → ⊥
    two x h k = omega (arith, zs, most x, sum_is (g x a) (sum_z (g x) l), pos_is 0, pos_is 1)

    rest : (x : X) → pos 0 ≤ℤ g x a → sum_z (g x) l ≤ℤ pos 1
    rest x h = omega (arith, zs, most x, sum_is (g x a) (sum_z (g x) l), pos_is 0, pos_is 1)

pub sum_map : {A B : Type 0} (g : B → ℤ) (f : A → B) (l : List A) → sum_z g (map f l) ≡ sum_z (λ x. g (f x)) l
sum_map g f [] = refl
sum_map g f (x ∷ l) = ap (λ (z : ℤ). g (f x) +ℤ z) (sum_map g f l)

pub sum_neg : {A : Type 0} (g : A → ℤ) (l : List A) → sum_z (λ x. neg_ℤ (g x)) l ≡ neg_ℤ (sum_z g l)
sum_neg g [] = refl
sum_neg g (x ∷ l) = ap (λ (z : ℤ). neg_ℤ (g x) +ℤ z) (sum_neg g l) ∙ sym (neg_ℤ-+ℤ (g x) (sum_z g l))

put_yes : {A : Type 0} (g : A → ℤ) (b : Bool) (x : A) (l : List A) → T b → sum_z g (put b x l) ≡ g x +ℤ sum_z g l
put_yes g true x l t = refl
put_yes g false x l t = absurd t

put_no : {A : Type 0} (g : A → ℤ) (b : Bool) (x : A) (l : List A) → T (not b) → sum_z g (put b x l) ≡ sum_z g l
put_no g true x l t = absurd t
put_no g false x l t = refl

pub sum_split : {A : Type 0} (g : A → ℤ) (q : A → Bool) (l : List A) → sum_z g l ≡ sum_z g (keep q l) +ℤ sum_z g (keep (λ x. not (q x)) l)
sum_split g q [] = refl
sum_split {A} g q (x ∷ l) = go (q x) (sum_split g q l)
  where
    go : (b : Bool) → sum_z g l ≡ sum_z g (keep q l) +ℤ sum_z g (keep (λ x. not (q x)) l) → g x +ℤ sum_z g l ≡ sum_z g (put b x (keep q l)) +ℤ sum_z g (put (not b) x (keep (λ x. not (q x)) l))
    go true e = ap (λ (z : ℤ). g x +ℤ z) e ∙ sym (+ℤ_assoc (g x) (sum_z g (keep q l)) (sum_z g (keep (λ x. not (q x)) l)))
    go false e = ap (λ (z : ℤ). g x +ℤ z) e ∙ +ℤ_left_comm (g x) (sum_z g (keep q l)) (sum_z g (keep (λ x. not (q x)) l))

-- the elements whose reverse is no element
abbrev pub rim : {A : Type 0} → (A → A → Bool) → (A → A) → List A → List A
rim same rev l = keep (λ s. not (has same (rev s) l)) l

pub own_neg : (z : ℤ) → z ≡ neg_ℤ z → z ≡ pos 0
own_neg z e = omega (arith, zs, up_neg z, dn_neg z, pos_is 0)

module _ {A : Type 0} (same : A → A → Bool) (sound : (x y : A) → T (same x y) → x ≡ y) (self : (x : A) → T (same x x)) where
  without : A → List A → List A
  without x l = keep (λ y. not (same x y)) l

  sum_without : (g : A → ℤ) (x : A) (l : List A) → Nodup l → In x l → sum_z g l ≡ g x +ℤ sum_z g (without x l)
  unfolding without
  sum_without g x [] h m = absurd (Memᴰ.not-nil m)
  sum_without g x (y ∷ l) h m = go (λ n. sum_without g x l h.1 n) (Memᴰ.cases_cons m)
    where
      W : List A
      W = keep (λ y. not (same x y)) l

      go : (In x l → sum_z g l ≡ g x +ℤ sum_z g W) → (x ≡ y) ⊎ In x l → g y +ℤ sum_z g l ≡ g x +ℤ sum_z g (put (not (same x y)) y W)
      go r (inl e) = ap₂ (λ (u : A) (v : List A). g u +ℤ sum_z g v) (sym e) (sym (keep_all (λ y. not (same x y)) l (λ z n. apart same sound self x z (λ f. h.0 z n (sym e ∙ f)))))
          ∙ ap (λ (z : ℤ). g x +ℤ z) (sym (put_no g (not (same x y)) y W (→not_not (same x y) (subst (λ (z : A). T (same x z)) e (self x)))))
      go r (inr n) = ap (λ (z : ℤ). g y +ℤ z) (r n) ∙ +ℤ_left_comm (g y) (g x) (sum_z g W)
          ∙ ap (λ (z : ℤ). g x +ℤ z) (sym (put_yes g (not (same x y)) y W (apart same sound self x y (λ e. h.0 x n (sym e)))))

  -- two repeat-free lists with the same members have equal sums
  pub sum_same : (g : A → ℤ) (l m : List A) → Nodup l → Nodup m → ((x : A) → In x l → In x m) → ((x : A) → In x m → In x l) → sum_z g l ≡ sum_z g m
  unfolding without
  sum_same g [] [] h k f b = refl
  sum_same g [] (y ∷ m) h k f b = absurd (Memᴰ.not-nil (b y (here refl)))
  sum_same g (x ∷ l) m h k f b =
      ap (λ (z : ℤ). g x +ℤ z) (sum_same g l (without x m) h.1 (down_nodup x m k) to from) ∙ sym (sum_without g x m k (f x (here refl)))
    where
      down_nodup : (x : A) (m : List A) → Nodup m → Nodup (without x m)
      down_nodup x m k = Pw-keep (λ x y. x ≢ y) (λ y. not (same x y)) m k

      to : (z : A) → In z l → In z (without x m)
      to z n = keep_in (λ y. not (same x y)) m (f z (there n)) (apart same sound self x z (h.0 z n))

      from : (z : A) → In z (without x m) → In z l
      from z n = go (in_keep (λ y. not (same x y)) m n)
        where
          last : x ≢ z → (z ≡ x) ⊎ In z l → In z l
          last a (inl e) = absurd (a (sym e))
          last a (inr i) = i

          go : In z m × T (not (same x z)) → In z l
          go t = last (apart→ same sound self x z t.1) (Memᴰ.cases_cons (b z t.0))

  module _ (rev : A → A) (rev-rev : (x : A) → rev (rev x) ≡ x) where
    inner : List A → List A
    inner l = keep (λ s. not (not (has same (rev s) l))) l

    pub in_rim : (l : List A) {x : A} → In x (rim same rev l) → In x l × (In (rev x) l → ⊥)
    in_rim l {x} m = let t = in_keep (λ s. not (has same (rev s) l)) l m in (t.0, (λ n. T_not (has same (rev x) l) t.1 (→has same sound self (rev x) l n)))

    pub rim_in : (l : List A) {x : A} → In x l → (In (rev x) l → ⊥) → In x (rim same rev l)
    rim_in l {x} m f = keep_in (λ s. not (has same (rev s) l)) l m (not_T (has same (rev x) l) (λ t. f (has→ same sound self (rev x) l t)))

    in_inner : (l : List A) {x : A} → In x (inner l) → In x l × In (rev x) l
    unfolding inner
    in_inner l {x} m = let t = in_keep (λ s. not (not (has same (rev s) l))) l m in (t.0, has→ same sound self (rev x) l (not_not (has same (rev x) l) t.1))

    inner_in : (l : List A) {x : A} → In x l → In (rev x) l → In x (inner l)
    unfolding inner
    inner_in l {x} m n = keep_in (λ s. not (not (has same (rev s) l))) l m (→not_not (has same (rev x) l) (→has same sound self (rev x) l n))

    inner_nodup : (l : List A) → Nodup l → Nodup (inner l)
    unfolding inner
    inner_nodup l h = Pw-keep (λ x y. x ≢ y) (λ s. not (not (has same (rev s) l))) l h

    rev_inj : (x y : A) → rev x ≡ rev y → x ≡ y
    rev_inj x y e = sym (rev-rev x) ∙ ap rev e ∙ rev-rev y

    -- a list that reversal maps to itself has sum 0
    pub sum_closed : (g : A → ℤ) (l : List A) → Nodup l → ((x : A) → In x l → In (rev x) l) → ((x : A) → In x l → g (rev x) ≡ neg_ℤ (g x)) → sum_z g l ≡ pos 0
    sum_closed g l h c anti = own_neg (sum_z g l)
        (sum_same g l (map rev l) h (nodup_map rev rev_inj l h) (λ z n. Memᴰ.cast (sym (rev-rev z)) (map_in rev l (c z n))) (λ z n. let t = in_map rev l n in Memᴰ.cast t.2 (c t.0 t.1))
        ∙ sum_map g rev l ∙ sum_ext (λ x. g (rev x)) (λ x. neg_ℤ (g x)) l anti ∙ sum_neg g l)

    inner_zero : (g : A → ℤ) (l : List A) → ((x : A) → In x l → g (rev x) ≡ neg_ℤ (g x)) → Nodup l → sum_z g (inner l) ≡ pos 0
    inner_zero g l anti h = sum_closed g (inner l) (inner_nodup l h) flip (λ x m. anti x (in_inner l m).0)
      where
        flip : (z : A) → In z (inner l) → In (rev z) (inner l)
        flip z n = let t = in_inner l n in inner_in l t.1 (subst (λ (u : A). In u l) (sym (rev-rev z)) t.0)

    -- SUM
    pub sum_rim : (g : A → ℤ) (l : List A) → ((x : A) → In x l → g (rev x) ≡ neg_ℤ (g x)) → Nodup l → sum_z g l ≡ sum_z g (rim same rev l)
    unfolding inner
    sum_rim g l anti h = sum_split g (λ s. not (has same (rev s) l)) l ∙ ap (λ (z : ℤ). sum_z g (rim same rev l) +ℤ z) (inner_zero g l anti h) ∙ +ℤ_idr (sum_z g (rim same rev l))
