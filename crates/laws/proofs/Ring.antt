-- A ring normaliser for ℤ. An expression's normal form is a sorted list of terms; a monomial is one number, whose digit i in base 32
-- is the exponent of variable i. So two monomials are multiplied by a sum and compared by one native comparison. That no digit
-- overflows is checked once, by the expression's degree, which must be below 32.
use mathlib.Core.Path.{◌≡◌, refl, sym, ◌∙◌, ap, ap₂}
use mathlib.Core.Bool.{Bool, true, false}
use mathlib.Core.List.{List, [], ◌∷◌}
use Prim.Native.Nat.{ℕ, zero, suc, ◌+◌, ◌/◌, ◌%◌, ◌^◌, ◌≤◌, ◌<◌, max, compare, Ordering}
use native.Mathlib.Nat.{pow-suc, le_trans, zero-add, suc-add}
use native.Mathlib.Omega.{arith}
use lib.Dec.{T, ltb, ltb→lt, compare_is_eq, eqb→eq}
use lib.IntN.{ℤ, pos, negsuc, neg_ℤ, ◌+ℤ◌, ◌-ℤ◌, ◌*ℤ◌, *ℤ_comm, +ℤ_assoc, +ℤ_idl, +ℤ_idr, zero-*ℤ, *ℤ-zero}
use Rattle.laws.proofs.Integers.{*ℤ-+ℤ, +ℤ-*ℤ, *ℤ_assoc, neg-*ℤ, one-*ℤ, +ℤ_left_comm, +ℤ_swap, *ℤ_swap, -ℤ-zero}

-- ---- expressions, over a list of values. A variable past the list's end is 1
infixl 6 ◌:+◌ ◌:-◌
infixl 7 ◌:*◌
pub data Ex : Type 0 where
  var : ℕ → Ex
  lit : ℤ → Ex
  ◌:+◌ ◌:-◌ ◌:*◌ : Ex → Ex → Ex
  neg : Ex → Ex

abbrev pub o : Ex
o = lit (pos 0)

abbrev pub one : Ex
one = lit (pos 1)

abbrev pub at : List ℤ → ℕ → ℤ
at [] i = pos 1
at (x ∷ ρ) zero = x
at (x ∷ ρ) (suc i) = at ρ i

abbrev pub den : Ex → List ℤ → ℤ
den (var i) ρ = at ρ i
den (lit k) ρ = k
den (a :+ b) ρ = den a ρ +ℤ den b ρ
den (a :- b) ρ = den a ρ -ℤ den b ρ
den (a :* b) ρ = den a ρ *ℤ den b ρ
den (neg a) ρ = neg_ℤ (den a ρ)

abbrev pub deg : Ex → ℕ
deg (var i) = 1
deg (lit k) = 0
deg (a :+ b) = max (deg a) (deg b)
deg (a :- b) = max (deg a) (deg b)
deg (a :* b) = deg a + deg b
deg (neg a) = deg a

-- ---- the normaliser
pub data Poly : Type 0 where
  nil : Poly
  term : ℤ → ℕ → Poly → Poly

-- a term that may be zero
abbrev pub tcons : ℤ → ℕ → Poly → Poly
tcons (pos zero) m p = p
tcons (pos (suc k)) m p = term (pos (suc k)) m p
tcons (negsuc k) m p = term (negsuc k) m p

-- the sum of c·m + p and q; f adds p. The cases of an `elim` wait, and the arguments of a call would not
abbrev pub add_t : ℤ → ℕ → Poly → (Poly → Poly) → Poly → Poly
add_t c m p f nil = term c m p
add_t c m p f (term d n q) = elim (compare m n) [ Ordering.lt ↦ term c m (f (term d n q)) | Ordering.eq ↦ tcons (c +ℤ d) m (f q) | Ordering.gt ↦ term d n (add_t c m p f q) ]

abbrev pub add : Poly → Poly → Poly
add nil q = q
add (term c m p) q = add_t c m p (add p) q

abbrev pub smul : ℤ → ℕ → Poly → Poly
smul c m nil = nil
smul c m (term d n p) = term (c *ℤ d) (m + n) (smul c m p)

-- the product: a row for each term of the shorter factor, and the rows are added pair by pair
abbrev pub rows : Poly → Poly → List Poly
rows nil q = []
rows (term c m p) q = smul c m q ∷ rows p q

abbrev pub pairs : List Poly → List Poly
pairs [] = []
pairs (p ∷ []) = p ∷ []
pairs (p ∷ q ∷ ps) = add p q ∷ pairs ps

abbrev pub fold : List Poly → Poly
fold [] = nil
fold (p ∷ ps) = add p (fold ps)

abbrev pub sum_all : ℕ → List Poly → Poly
sum_all zero ps = fold ps
sum_all (suc k) ps = sum_all k (pairs ps)

abbrev pub shorter : Poly → Poly → Bool
shorter nil q = true
shorter (term c m p) nil = false
shorter (term c m p) (term d n q) = shorter p q

abbrev pub mul : Poly → Poly → Poly
mul p q = elim (shorter p q) [ true ↦ sum_all 8 (rows p q) | false ↦ sum_all 8 (rows q p) ]

abbrev pub norm : Ex → Poly
norm (var i) = term (pos 1) (32 ^ i) nil
norm (lit k) = tcons k 0 nil
norm (a :+ b) = add (norm a) (norm b)
norm (a :- b) = add (norm a) (smul (negsuc 0) 0 (norm b))
norm (a :* b) = mul (norm a) (norm b)
norm (neg a) = smul (negsuc 0) 0 (norm a)

-- ---- a monomial's value, and its degree
pw : ℤ → ℕ → ℤ
pw x zero = pos 1
pw x (suc n) = x *ℤ pw x n

pub mev : List ℤ → ℕ → ℤ
mev [] c = pos 1
mev (x ∷ ρ) c = pw x (c % 32) *ℤ mev ρ (c / 32)

pub dg : List ℤ → ℕ → ℕ
dg [] c = 0
dg (x ∷ ρ) c = c % 32 + dg ρ (c / 32)

pw_add : (x : ℤ) (a b : ℕ) → pw x (a + b) ≡ pw x a *ℤ pw x b
unfolding pw
pw_add x zero b = ap (pw x) (zero-add b) ∙ sym (one-*ℤ (pw x b))
pw_add x (suc a) b = ap (pw x) (suc-add a b) ∙ ap (λ (t : ℤ). x *ℤ t) (pw_add x a b) ∙ sym (*ℤ_assoc x (pw x a) (pw x b))

low : (c d k l : ℕ) → c % 32 + k + (d % 32 + l) < 32 → (c + d) % 32 ≡ c % 32 + d % 32
low c d k l h = omega arith

high : (c d k l : ℕ) → c % 32 + k + (d % 32 + l) < 32 → (c + d) / 32 ≡ c / 32 + d / 32
high c d k l h = omega arith

mev_add : (ρ : List ℤ) (c d : ℕ) → dg ρ c + dg ρ d < 32 → mev ρ (c + d) ≡ mev ρ c *ℤ mev ρ d
unfolding mev dg
mev_add [] c d h = refl
mev_add (x ∷ ρ) c d h =
    ap₂ ◌*ℤ◌ (ap (pw x) (low c d (dg ρ (c / 32)) (dg ρ (d / 32)) h) ∙ pw_add x (c % 32) (d % 32)) (ap (mev ρ) (high c d (dg ρ (c / 32)) (dg ρ (d / 32)) h) ∙ mev_add ρ (c / 32) (d / 32) (omega arith))
    ∙ *ℤ_swap (pw x (c % 32)) (pw x (d % 32)) (mev ρ (c / 32)) (mev ρ (d / 32))

dg_add : (ρ : List ℤ) (c d : ℕ) → dg ρ c + dg ρ d < 32 → dg ρ (c + d) ≡ dg ρ c + dg ρ d
unfolding dg
dg_add [] c d h = refl
dg_add (x ∷ ρ) c d h = omega (arith, low c d (dg ρ (c / 32)) (dg ρ (d / 32)) h, ap (dg ρ) (high c d (dg ρ (c / 32)) (dg ρ (d / 32)) h), dg_add ρ (c / 32) (d / 32) (omega arith))

pub mev_zero : (ρ : List ℤ) → mev ρ 0 ≡ pos 1
unfolding mev pw
mev_zero [] = refl
mev_zero (x ∷ ρ) = one-*ℤ (mev ρ 0) ∙ mev_zero ρ

dg_zero : (ρ : List ℤ) → dg ρ 0 ≡ 0
unfolding dg
dg_zero [] = refl
dg_zero (x ∷ ρ) = omega (arith, dg_zero ρ)

no_digit : (i : ℕ) → 32 ^ suc i % 32 ≡ 0
no_digit i = omega (arith, pow-suc 32 i)

next_digit : (i : ℕ) → 32 ^ suc i / 32 ≡ 32 ^ i
next_digit i = omega (arith, pow-suc 32 i)

mev_var : (ρ : List ℤ) (i : ℕ) → mev ρ (32 ^ i) ≡ at ρ i
unfolding mev pw
mev_var [] i = refl
mev_var (x ∷ ρ) zero = ap₂ ◌*ℤ◌ (*ℤ_comm x (pos 1) ∙ one-*ℤ x) (mev_zero ρ) ∙ *ℤ_comm x (pos 1) ∙ one-*ℤ x
mev_var (x ∷ ρ) (suc i) = ap₂ ◌*ℤ◌ (ap (pw x) (no_digit i)) (ap (mev ρ) (next_digit i) ∙ mev_var ρ i) ∙ one-*ℤ (at ρ i)

dg_var : (ρ : List ℤ) (i : ℕ) → dg ρ (32 ^ i) ≤ 1
unfolding dg
dg_var [] i = omega arith
dg_var (x ∷ ρ) zero = omega (arith, dg_zero ρ)
dg_var (x ∷ ρ) (suc i) = omega (arith, no_digit i, ap (dg ρ) (next_digit i), dg_var ρ i)

-- ---- a polynomial's value, and a bound on its degree
unfoldable pub pev : Poly → List ℤ → ℤ
pev nil ρ = pos 0
pev (term c m p) ρ = c *ℤ mev ρ m +ℤ pev p ρ

abbrev Bd : List ℤ → ℕ → Poly → Type 0
Bd ρ k nil = Unit {0}
Bd ρ k (term c m p) = (dg ρ m ≤ k) × Bd ρ k p

cases : {A : Type 0} (P : A → Type 0) (o : Ordering) (x y z : A) → P x → (T (compare_is_eq o) → P y) → P z → P (elim o [ Ordering.lt ↦ x | Ordering.eq ↦ y | Ordering.gt ↦ z ])
cases P Ordering.lt x y z f g h = f
cases P Ordering.eq x y z f g h = g tt
cases P Ordering.gt x y z f g h = h

either : {A : Type 0} (P : A → Type 0) (b : Bool) (x y : A) → P x → P y → P (elim b [ true ↦ x | false ↦ y ])
either P true x y f g = f
either P false x y f g = g

pev_tcons : (ρ : List ℤ) (c : ℤ) (m : ℕ) (p : Poly) → pev (tcons c m p) ρ ≡ c *ℤ mev ρ m +ℤ pev p ρ
unfolding pev
pev_tcons ρ (pos zero) m p = sym (+ℤ_idl (pev p ρ)) ∙ ap (λ (t : ℤ). t +ℤ pev p ρ) (sym (zero-*ℤ (mev ρ m)))
pev_tcons ρ (pos (suc k)) m p = refl
pev_tcons ρ (negsuc k) m p = refl

bd_tcons : (ρ : List ℤ) (k : ℕ) (c : ℤ) (m : ℕ) (p : Poly) → dg ρ m ≤ k → Bd ρ k p → Bd ρ k (tcons c m p)
bd_tcons ρ k (pos zero) m p h b = b
bd_tcons ρ k (pos (suc n)) m p h b = (h, b)
bd_tcons ρ k (negsuc n) m p h b = (h, b)

pev_add_t : (ρ : List ℤ) (c : ℤ) (m : ℕ) (p : Poly) (f : Poly → Poly) → ((q : Poly) → pev (f q) ρ ≡ pev p ρ +ℤ pev q ρ) → (q : Poly) → pev (add_t c m p f q) ρ ≡ (c *ℤ mev ρ m +ℤ pev p ρ) +ℤ pev q ρ
unfolding pev
pev_add_t ρ c m p f h nil = sym (+ℤ_idr (c *ℤ mev ρ m +ℤ pev p ρ))
pev_add_t ρ c m p f h (term d n q) =
    cases (λ r. pev r ρ ≡ (C +ℤ P) +ℤ (D +ℤ Q)) (compare m n) (term c m (f (term d n q))) (tcons (c +ℤ d) m (f q)) (term d n (add_t c m p f q))
    (ap (λ (t : ℤ). C +ℤ t) (h (term d n q)) ∙ sym (+ℤ_assoc C P (D +ℤ Q)))
    (λ e. pev_tcons ρ (c +ℤ d) m (f q) ∙ ap₂ ◌+ℤ◌ (+ℤ-*ℤ c d (mev ρ m) ∙ ap (λ (k : ℕ). C +ℤ d *ℤ mev ρ k) (eqb→eq m n e)) (h q) ∙ +ℤ_swap C D P Q)
    (ap (λ (t : ℤ). D +ℤ t) (pev_add_t ρ c m p f h q) ∙ +ℤ_left_comm D (C +ℤ P) Q)
  where
    C : ℤ
    C = c *ℤ mev ρ m

    D : ℤ
    D = d *ℤ mev ρ n

    P : ℤ
    P = pev p ρ

    Q : ℤ
    Q = pev q ρ

bd_add_t : (ρ : List ℤ) (k : ℕ) (c : ℤ) (m : ℕ) (p : Poly) (f : Poly → Poly) → dg ρ m ≤ k → Bd ρ k p → ((q : Poly) → Bd ρ k q → Bd ρ k (f q)) → (q : Poly) → Bd ρ k q → Bd ρ k (add_t c m p f q)
bd_add_t ρ k c m p f i bp h nil b = (i, bp)
bd_add_t ρ k c m p f i bp h (term d n q) b =
    cases (λ r. Bd ρ k r) (compare m n) (term c m (f (term d n q))) (tcons (c +ℤ d) m (f q)) (term d n (add_t c m p f q))
    (i, h (term d n q) b) (λ e. bd_tcons ρ k (c +ℤ d) m (f q) i (h q b.1)) (b.0, bd_add_t ρ k c m p f i bp h q b.1)

pev_add : (ρ : List ℤ) (p q : Poly) → pev (add p q) ρ ≡ pev p ρ +ℤ pev q ρ
unfolding pev
pev_add ρ nil q = sym (+ℤ_idl (pev q ρ))
pev_add ρ (term c m p) q = pev_add_t ρ c m p (add p) (pev_add ρ p) q

bd_add : (ρ : List ℤ) (k : ℕ) (p q : Poly) → Bd ρ k p → Bd ρ k q → Bd ρ k (add p q)
bd_add ρ k nil q b b' = b'
bd_add ρ k (term c m p) q b b' = bd_add_t ρ k c m p (add p) b.0 b.1 (λ r. bd_add ρ k p r b.1) q b'

bd_mono : (ρ : List ℤ) {k l : ℕ} → k ≤ l → (p : Poly) → Bd ρ k p → Bd ρ l p
bd_mono ρ h nil b = tt
bd_mono ρ h (term c m p) b = (le_trans b.0 h, bd_mono ρ h p b.1)

pev_smul : (ρ : List ℤ) (j k : ℕ) → j + k < 32 → (c : ℤ) (m : ℕ) → dg ρ m ≤ j → (p : Poly) → Bd ρ k p → pev (smul c m p) ρ ≡ (c *ℤ mev ρ m) *ℤ pev p ρ
unfolding pev
pev_smul ρ j k h c m i nil b = sym (*ℤ-zero (c *ℤ mev ρ m))
pev_smul ρ j k h c m i (term d n p) b =
    ap₂ ◌+ℤ◌ (ap (λ (t : ℤ). (c *ℤ d) *ℤ t) (mev_add ρ m n (fits b.0)) ∙ *ℤ_swap c d (mev ρ m) (mev ρ n)) (pev_smul ρ j k h c m i p b.1) ∙ sym (*ℤ-+ℤ (c *ℤ mev ρ m) (d *ℤ mev ρ n) (pev p ρ))
  where
    fits : dg ρ n ≤ k → dg ρ m + dg ρ n < 32
    fits g = omega arith

bd_smul : (ρ : List ℤ) (j k : ℕ) → j + k < 32 → (c : ℤ) (m : ℕ) → dg ρ m ≤ j → (p : Poly) → Bd ρ k p → Bd ρ (j + k) (smul c m p)
bd_smul ρ j k h c m i nil b = tt
bd_smul ρ j k h c m i (term d n p) b = (fits b.0, bd_smul ρ j k h c m i p b.1)
  where
    fits : dg ρ n ≤ k → dg ρ (m + n) ≤ j + k
    fits g = omega (arith, dg_add ρ m n (omega arith))

-- ---- lists of rows
lev : List Poly → List ℤ → ℤ
lev [] ρ = pos 0
lev (p ∷ ps) ρ = pev p ρ +ℤ lev ps ρ

abbrev LBd : List ℤ → ℕ → List Poly → Type 0
LBd ρ k [] = Unit {0}
LBd ρ k (p ∷ ps) = Bd ρ k p × LBd ρ k ps

lev_pairs : (ρ : List ℤ) (ps : List Poly) → lev (pairs ps) ρ ≡ lev ps ρ
unfolding lev
lev_pairs ρ [] = refl
lev_pairs ρ (p ∷ []) = refl
lev_pairs ρ (p ∷ q ∷ ps) = ap₂ ◌+ℤ◌ (pev_add ρ p q) (lev_pairs ρ ps) ∙ +ℤ_assoc (pev p ρ) (pev q ρ) (lev ps ρ)

bd_pairs : (ρ : List ℤ) (k : ℕ) (ps : List Poly) → LBd ρ k ps → LBd ρ k (pairs ps)
bd_pairs ρ k [] b = tt
bd_pairs ρ k (p ∷ []) b = b
bd_pairs ρ k (p ∷ q ∷ ps) b = (bd_add ρ k p q b.0 b.1.0, bd_pairs ρ k ps b.1.1)

pev_sum : (ρ : List ℤ) (i : ℕ) (ps : List Poly) → pev (sum_all i ps) ρ ≡ lev ps ρ
unfolding lev pev
pev_sum ρ zero ps = go ps
  where
    go : (ps : List Poly) → pev (fold ps) ρ ≡ lev ps ρ
    go [] = refl
    go (p ∷ ps) = pev_add ρ p (fold ps) ∙ ap (λ (t : ℤ). pev p ρ +ℤ t) (go ps)
pev_sum ρ (suc i) ps = pev_sum ρ i (pairs ps) ∙ lev_pairs ρ ps

bd_fold : (ρ : List ℤ) (k : ℕ) (ps : List Poly) → LBd ρ k ps → Bd ρ k (fold ps)
bd_fold ρ k [] b = tt
bd_fold ρ k (p ∷ ps) b = bd_add ρ k p (fold ps) b.0 (bd_fold ρ k ps b.1)

bd_sum : (ρ : List ℤ) (k i : ℕ) (ps : List Poly) → LBd ρ k ps → Bd ρ k (sum_all i ps)
bd_sum ρ k zero ps b = bd_fold ρ k ps b
bd_sum ρ k (suc i) ps b = bd_sum ρ k i (pairs ps) (bd_pairs ρ k ps b)

lev_rows : (ρ : List ℤ) (j k : ℕ) → j + k < 32 → (p q : Poly) → Bd ρ j p → Bd ρ k q → lev (rows p q) ρ ≡ pev p ρ *ℤ pev q ρ
unfolding lev pev
lev_rows ρ j k h nil q b b' = sym (zero-*ℤ (pev q ρ))
lev_rows ρ j k h (term c m p) q b b' = ap₂ ◌+ℤ◌ (pev_smul ρ j k h c m b.0 q b') (lev_rows ρ j k h p q b.1 b') ∙ sym (+ℤ-*ℤ (c *ℤ mev ρ m) (pev p ρ) (pev q ρ))

bd_rows : (ρ : List ℤ) (j k : ℕ) → j + k < 32 → (p q : Poly) → Bd ρ j p → Bd ρ k q → LBd ρ (j + k) (rows p q)
bd_rows ρ j k h nil q b b' = tt
bd_rows ρ j k h (term c m p) q b b' = (bd_smul ρ j k h c m b.0 q b', bd_rows ρ j k h p q b.1 b')

pev_mul : (ρ : List ℤ) (j k : ℕ) → j + k < 32 → (p q : Poly) → Bd ρ j p → Bd ρ k q → pev (mul p q) ρ ≡ pev p ρ *ℤ pev q ρ
pev_mul ρ j k h p q b b' =
    either (λ r. pev r ρ ≡ pev p ρ *ℤ pev q ρ) (shorter p q) (sum_all 8 (rows p q)) (sum_all 8 (rows q p))
    (pev_sum ρ 8 (rows p q) ∙ lev_rows ρ j k h p q b b')
    (pev_sum ρ 8 (rows q p) ∙ lev_rows ρ k j (omega arith) q p b' b ∙ *ℤ_comm (pev q ρ) (pev p ρ))

bd_mul : (ρ : List ℤ) (j k : ℕ) → j + k < 32 → (p q : Poly) → Bd ρ j p → Bd ρ k q → Bd ρ (j + k) (mul p q)
bd_mul ρ j k h p q b b' =
    either (λ r. Bd ρ (j + k) r) (shorter p q) (sum_all 8 (rows p q)) (sum_all 8 (rows q p))
    (bd_sum ρ (j + k) 8 (rows p q) (bd_rows ρ j k h p q b b'))
    (bd_mono ρ (omega arith) (sum_all 8 (rows q p)) (bd_sum ρ (k + j) 8 (rows q p) (bd_rows ρ k j (omega arith) q p b' b)))

-- ---- soundness
pev_neg : (ρ : List ℤ) (k : ℕ) → k < 32 → (p : Poly) → Bd ρ k p → pev (smul (negsuc 0) 0 p) ρ ≡ neg_ℤ (pev p ρ)
pev_neg ρ k h p b = pev_smul ρ 0 k (omega arith) (negsuc 0) 0 (omega (arith, dg_zero ρ)) p b ∙ ap (λ (t : ℤ). (negsuc 0 *ℤ t) *ℤ pev p ρ) (mev_zero ρ) ∙ neg-*ℤ (pos 1) (pev p ρ) ∙ ap neg_ℤ (one-*ℤ (pev p ρ))

bd_neg : (ρ : List ℤ) (k : ℕ) → k < 32 → (p : Poly) → Bd ρ k p → Bd ρ k (smul (negsuc 0) 0 p)
bd_neg ρ k h p b = bd_mono ρ (omega arith) (smul (negsuc 0) 0 p) (bd_smul ρ 0 k (omega arith) (negsuc 0) 0 (omega (arith, dg_zero ρ)) p b)

bd_norm : (e : Ex) (ρ : List ℤ) → deg e < 32 → Bd ρ (deg e) (norm e)
bd_norm (var i) ρ h = (dg_var ρ i, tt)
bd_norm (lit k) ρ h = bd_tcons ρ 0 k 0 nil (omega (arith, dg_zero ρ)) tt
bd_norm (a :+ b) ρ h = bd_add ρ (max (deg a) (deg b)) (norm a) (norm b) (bd_mono ρ (omega arith) (norm a) (bd_norm a ρ (omega arith))) (bd_mono ρ (omega arith) (norm b) (bd_norm b ρ (omega arith)))
bd_norm (a :- b) ρ h = bd_add ρ (max (deg a) (deg b)) (norm a) (smul (negsuc 0) 0 (norm b)) (bd_mono ρ (omega arith) (norm a) (bd_norm a ρ (omega arith))) (bd_mono ρ (omega arith) (smul (negsuc 0) 0 (norm b)) (bd_neg ρ (deg b) (omega arith) (norm b) (bd_norm b ρ (omega arith))))
bd_norm (a :* b) ρ h = bd_mul ρ (deg a) (deg b) h (norm a) (norm b) (bd_norm a ρ (omega arith)) (bd_norm b ρ (omega arith))
bd_norm (neg a) ρ h = bd_neg ρ (deg a) h (norm a) (bd_norm a ρ h)

pub norm_sound : (e : Ex) (ρ : List ℤ) → deg e < 32 → pev (norm e) ρ ≡ den e ρ
unfolding pev
norm_sound (var i) ρ h = +ℤ_idr (pos 1 *ℤ mev ρ (32 ^ i)) ∙ one-*ℤ (mev ρ (32 ^ i)) ∙ mev_var ρ i
norm_sound (lit k) ρ h = pev_tcons ρ k 0 nil ∙ +ℤ_idr (k *ℤ mev ρ 0) ∙ ap (λ (t : ℤ). k *ℤ t) (mev_zero ρ) ∙ *ℤ_comm k (pos 1) ∙ one-*ℤ k
norm_sound (a :+ b) ρ h = pev_add ρ (norm a) (norm b) ∙ ap₂ ◌+ℤ◌ (norm_sound a ρ (omega arith)) (norm_sound b ρ (omega arith))
norm_sound (a :- b) ρ h = pev_add ρ (norm a) (smul (negsuc 0) 0 (norm b)) ∙ ap₂ ◌+ℤ◌ (norm_sound a ρ (omega arith)) (pev_neg ρ (deg b) (omega arith) (norm b) (bd_norm b ρ (omega arith)) ∙ ap neg_ℤ (norm_sound b ρ (omega arith)))
norm_sound (a :* b) ρ h = pev_mul ρ (deg a) (deg b) h (norm a) (norm b) (bd_norm a ρ (omega arith)) (bd_norm b ρ (omega arith)) ∙ ap₂ ◌*ℤ◌ (norm_sound a ρ (omega arith)) (norm_sound b ρ (omega arith))
norm_sound (neg a) ρ h = pev_neg ρ (deg a) h (norm a) (bd_norm a ρ h) ∙ ap neg_ℤ (norm_sound a ρ h)

-- ---- the test: the degree is below 32, and no term is left
abbrev pub is_nil : Poly → Bool
is_nil nil = true
is_nil (term c m p) = false

abbrev pub is_zero : Ex → Bool
is_zero e = elim (ltb (deg e) 32) [ true ↦ is_nil (norm e) | false ↦ false ]

pub both : (b c : Bool) → T (elim b [ true ↦ c | false ↦ false ]) → T b × T c
both true c t = (tt, t)
both false c t = absurd t

nil_zero : (p : Poly) (ρ : List ℤ) → T (is_nil p) → pev p ρ ≡ pos 0
unfolding pev
nil_zero nil ρ t = refl
nil_zero (term c m p) ρ t = absurd t

pub zero_sound : (ρ : List ℤ) (e : Ex) → T (is_zero e) → den e ρ ≡ pos 0
zero_sound ρ e t = let s = both (ltb (deg e) 32) (is_nil (norm e)) t in sym (norm_sound e ρ (ltb→lt (deg e) 32 s.0)) ∙ nil_zero (norm e) ρ s.1

-- ---- THE THEOREM
pub ring : (ρ : List ℤ) (l r : Ex) → T (is_zero (l :- r)) → den l ρ ≡ den r ρ
ring ρ l r t = -ℤ-zero (den l ρ) (den r ρ) (zero_sound ρ (l :- r) t)
