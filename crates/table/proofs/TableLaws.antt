-- The faces of a lent table, and a face list as a table holds it, a face a turn.
use mathlib.Core.Path.{◌≡◌, refl, sym, ap, ◌∙◌}
use mathlib.Core.Bool.{Bool, true, false}
use mathlib.Core.List.{List, [], ◌∷◌, ◌++◌, map}
use Prim.Native.Nat.{ℕ, zero, suc, ◌+◌, ◌-◌, ◌*◌, ◌<◌, ◌≤◌}
use native.Mathlib.Numerals.{add-one}
use native.Mathlib.Omega.{arith}
use lib.ListN.{length, take, drop, get_or, length-map}
use lib.Seq.{take-suc}
use Rattle.std.proofs.lemmas.List.{drop-drop, get_or-drop, length-drop}
use Rattle.std.specs.Bool.{MatchBool}
use Rattle.std.specs.Simd.{first_chunks}
use Rattle.std.specs.List.{AllWithin, HoldsAt}
use Rattle.std.proofs.Math.Bool.{and-false}
use Rattle.laws.specs.Lists.{every, upward}
use Rattle.rules.specs.Faces.{Face}
use Rattle.table.specs.Table.{stride, room, numbers, lent, face_at, faces_in}

-- ---- reading
length_upward : (i n : ℕ) → length (upward i n) ≡ n
length_upward i zero = refl
length_upward i (suc n) = ap suc (length_upward (suc i) n)

at_upward : {A : Type 0} (g : ℕ → A) (d : A) (i n k : ℕ) → k < n → get_or (map g (upward i n)) k d ≡ g (i + k)
at_upward g d i zero k h = absurd (omega arith)
at_upward g d i (suc n) zero h = let e : i ≡ i + 0 = omega arith in ap g e
at_upward g d i (suc n) (suc k) h = let e : suc i + k ≡ i + suc k = omega arith in at_upward g d (suc i) n k (omega arith) ∙ ap g e

pub length_faces : (t : List ℕ) → length (faces_in t) ≡ room t
unfolding faces_in
length_faces t = length-map (upward 0 (room t)) (face_at t) ∙ length_upward 0 (room t)

pub face_at_lem : (t : List ℕ) (i : ℕ) → i < room t → get_or (faces_in t) i [] ≡ face_at t i
unfolding faces_in
face_at_lem t i h = let e : 0 + i ≡ i = omega arith in at_upward (face_at t) [] 0 (room t) i h ∙ ap (face_at t) e

-- the table cut in threes is its faces
three_first : (l : List ℕ) → 3 ≤ length l → take 3 l ≡ get_or l 0 0 ∷ get_or l 1 0 ∷ get_or l 2 0 ∷ []
three_first [] h = absurd (omega arith)
three_first (a ∷ []) h = absurd (omega arith)
three_first (a ∷ b ∷ []) h = absurd (omega arith)
three_first (a ∷ b ∷ c ∷ l) h = refl

pub chunks_faces : (t : List ℕ) → first_chunks stride (room t) t ≡ faces_in t
unfolding faces_in
chunks_faces t = go (room t) 0 (omega arith)
  where
    here : (i : ℕ) → i * 3 + 3 ≤ length t → take 3 (drop (i * 3) t) ≡ face_at t i
    here i h =
        let e : length (drop (i * 3) t) ≡ length t - i * 3 = length-drop (i * 3) t in
        let z : i * 3 + 0 ≡ i * 3 = omega arith in
        three_first (drop (i * 3) t) (omega arith) ∙ simp get_or-drop (ap (λ (j : ℕ). get_or t j 0 ∷ get_or t (i * 3 + 1) 0 ∷ get_or t (i * 3 + 2) 0 ∷ []) z)

    go : (k i : ℕ) → (i + k) * 3 ≤ length t → first_chunks 3 k (drop (i * 3) t) ≡ map (face_at t) (upward i k)
    go zero i h = refl
    go (suc k) i h =
        let e : i * 3 + 3 ≡ suc i * 3 = omega arith in
        let n : first_chunks 3 k (drop 3 (drop (i * 3) t)) ≡ map (face_at t) (upward (suc i) k) = rw (drop-drop, e) (go k (suc i) (omega arith)) in
        λ j. here i (omega arith) j ∷ n j

-- ---- the test of all faces
every_yes : {A : Type 0} (q : A → Bool) (l : List A) → AllWithin (λ x. q x ≡ true) l 0 (length l) → every q l ≡ true
every_yes q [] h = refl
every_yes q (x ∷ l) h = rw (h 0 x (omega arith) (omega arith)) (every_yes q l (λ k d a b. h (suc k) d (omega arith) (omega arith)))

every_no : {A : Type 0} (q : A → Bool) (l : List A) (k : ℕ) → k < length l → HoldsAt (λ x. q x ≡ false) l k → every q l ≡ false
every_no q [] k h e = absurd (omega arith)
every_no q (x ∷ l) zero h e = rw (e x) refl
every_no q (x ∷ l) (suc k) h e = rw (every_no q l k (omega arith) e) (and-false (q x))

-- what `all` answered over a list
pub every_all : {A : Type 0} (q : A → Bool) (l : List A) (b : Bool) → MatchBool b (AllWithin (λ x. q x ≡ true) l 0 (length l)) ((k : ℕ) × (k < length l) × HoldsAt (λ x. q x ≡ false) l k) → b ≡ every q l
every_all q l true h = sym (every_yes q l h)
every_all q l false h = sym (every_no q l h.0 h.1 h.2)

-- ---- writing
lent_append : (l m : List Face) → lent (l ++ m) ≡ lent l ++ lent m
lent_append [] m = refl
lent_append (f ∷ l) m = ap (λ (t : List ℕ). numbers f ++ t) (lent_append l m)

pub lent_more : (l : List Face) (i : ℕ) → i < length l → lent (take (i + 1) l) ≡ lent (take i l) ++ numbers (get_or l i [])
lent_more l i h = rw (add-one, take-suc l i [], lent_append (take i l) (get_or l i [] ∷ []))
