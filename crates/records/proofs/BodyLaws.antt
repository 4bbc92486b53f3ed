-- The body of a record: its length and its bytes, the coordinates of its touches, and the way there and back.
use mathlib.Core.Path.{◌≡◌, refl, sym, ◌∙◌, ap, ap₂}
use mathlib.Core.Bool.{Bool, true, false}
use mathlib.Core.List.{List, [], ◌∷◌, ◌++◌}
use Prim.Native.Nat.{ℕ, zero, suc, ◌+◌, ◌*◌, ◌/◌, ◌%◌, ◌<◌, ◌≤◌}
use native.Mathlib.Numerals.{add-one}
use native.Mathlib.Omega.{arith}
use borrow.Author.Tests.{eqb-true, eqb-false}
use lib.Dec.{eqb}
use lib.IntN.{ℤ, pos}
use lib.ListN.{length, take, drop, get_or, length-append, length-drop, get_or-append}
use lib.Seq.{take-suc, get_or-drop, drop_at, drop-drop, ext_get_or}
use Rattle.touches.specs.Touches.{Sound}
use Rattle.records.specs.Record.{two_bytes, of_two, bits16, signed16, body_of, coordinate_at, first_touches, touches_of, AreBytes}
use Rattle.records.proofs.WordLaws.{two_back, high_of, low_of, of_two_below, signed_back, bits_back, bits_below}

-- ---- the body of a list
pub length_body : (cs : List ℤ) → length (body_of cs) ≡ length cs * 2
unfolding body_of
length_body [] = refl
length_body (x ∷ cs) = omega (arith, length_body cs)

body_append : (a b : List ℤ) → body_of (a ++ b) ≡ body_of a ++ body_of b
unfolding body_of
body_append [] b = refl
body_append (x ∷ a) b = ap (λ (l : List ℕ). two_bytes (bits16 x) ++ l) (body_append a b)

pub body_none : body_of [] ≡ []
unfolding body_of
body_none = refl

pub body_more : (cs : List ℤ) (i : ℕ) → i < length cs → body_of (take (i + 1) cs) ≡ body_of (take i cs) ++ two_bytes (bits16 (get_or cs i (pos 0)))
unfolding body_of
body_more cs i h = rw (add-one, take-suc cs i (pos 0), body_append (take i cs) (get_or cs i (pos 0) ∷ []))

-- the two bytes of coordinate i
pub record TwoAt (i n : ℕ) (body : List ℕ) : Type 0 where
  pub high : get_or body (i * 2) 0 ≡ n / 256 % 256
  pub low : get_or body (i * 2 + 1) 0 ≡ n % 256

pub body_at : (cs : List ℤ) (i : ℕ) → i < length cs → TwoAt i (bits16 (get_or cs i (pos 0))) (body_of cs)
unfolding body_of
body_at [] i h = absurd (omega arith)
body_at (x ∷ cs) zero h = record { high = refl; low = refl }
body_at (x ∷ cs) (suc i) h =
    let t = body_at cs i (omega arith) in
    let e : suc i * 2 ≡ suc (suc (i * 2)) = omega arith in
    let f : suc (suc (i * 2)) + 1 ≡ suc (suc (i * 2 + 1)) = omega arith in
    record { high = rw e t.high; low = rw (e, f) t.low }

-- ---- the touches of a body
length_first : (k : ℕ) (body : List ℕ) → length (first_touches k body) ≡ k * 3
length_first zero body = refl
length_first (suc k) body = omega (arith, length_first k (drop 6 body))

pub length_touches : (body : List ℕ) → length (touches_of body) ≡ length body / 6 * 3
unfolding touches_of
length_touches body = length_first (length body / 6) body

-- a record's touches come in threes of coordinates
pub touches_whole : (body : List ℕ) → length (touches_of body) % 3 ≡ 0
touches_whole body = omega (arith, length_touches body)

first_at : (k : ℕ) (body : List ℕ) (i : ℕ) → i < k * 3 → get_or (first_touches k body) i (pos 0) ≡ coordinate_at (i * 2) body
first_at zero body i h = absurd (omega arith)
first_at (suc k) body zero h = refl
first_at (suc k) body (suc zero) h = refl
first_at (suc k) body (suc (suc zero)) h = refl
first_at (suc k) body (suc (suc (suc i))) h =
    let e : 6 + i * 2 ≡ suc (suc (suc i)) * 2 = omega arith in
    let f : 6 + (i * 2 + 1) ≡ suc (suc (suc i)) * 2 + 1 = omega arith in
    first_at k (drop 6 body) i (omega arith) ∙ rw (get_or-drop 6 body (i * 2) 0, get_or-drop 6 body (i * 2 + 1) 0, e, f)

pub touch_at : (body : List ℕ) (i : ℕ) → i < length body / 6 * 3 → get_or (touches_of body) i (pos 0) ≡ coordinate_at (i * 2) body
unfolding touches_of
touch_at body i h = first_at (length body / 6) body i h

-- a pair of bytes that begins at the place of coordinate i, and what is left after it
module _ (body pair rest : List ℕ) (i : ℕ) (cut : drop (i * 2) body ≡ pair ++ rest) (two : length pair ≡ 2) where
  pub pair_inside : i * 2 + 2 ≤ length body
  pair_inside = omega (arith, two, simp (length-drop, length-append) at (ap length cut))

  pair_at : (j : ℕ) → j < 2 → get_or pair j 0 ≡ get_or body (i * 2 + j) 0
  pair_at j h = sym (get_or-append pair rest 0 j (omega (arith, two))) ∙ ap (λ (l : List ℕ). get_or l j 0) (sym cut) ∙ get_or-drop (i * 2) body j 0

  pub pair_is : signed16 (of_two (get_or pair 0 0) (get_or pair 1 0)) ≡ coordinate_at (i * 2) body
  pair_is =
      let z : i * 2 + 0 ≡ i * 2 = omega arith in
      ap₂ (λ (h l : ℕ). signed16 (of_two h l)) (rw z at (pair_at 0 (omega arith))) (pair_at 1 (omega arith))

  pub pair_rest : rest ≡ drop ((i + 1) * 2) body
  pair_rest =
      let e : i * 2 + 2 ≡ (i + 1) * 2 = omega arith in
      sym (drop_at pair rest 2 two) ∙ ap (drop 2) (sym cut) ∙ drop-drop 2 (i * 2) body ∙ ap (λ (k : ℕ). drop k body) e

-- ---- there and back
pub touches_back : (cs : List ℤ) → Sound cs → touches_of (body_of cs) ≡ cs
touches_back cs s = ext_get_or (pos 0) (touches_of (body_of cs)) cs long (λ i h. same i (omega (arith, long)))
  where
    long : length (touches_of (body_of cs)) ≡ length cs
    long = omega (arith, length_touches (body_of cs), length_body cs, s.whole)

    same : (i : ℕ) → i < length cs → get_or (touches_of (body_of cs)) i (pos 0) ≡ get_or cs i (pos 0)
    same i h =
        let x = get_or cs i (pos 0) in
        let t = body_at cs i h in
        touch_at (body_of cs) i (omega (arith, long, length_touches (body_of cs))) ∙ rw (t.high, t.low, two_back (bits16 x) (bits_below x (s.near i h)), signed_back x (s.near i h))

module _ (body : List ℕ) (whole : length body % 6 ≡ 0) (bytes : AreBytes body) where
  pub body_back : body_of (touches_of body) ≡ body
  body_back = ext_get_or 0 (body_of (touches_of body)) body long same
    where
      long : length (body_of (touches_of body)) ≡ length body
      long = omega (arith, length_body (touches_of body), length_touches body)

      -- the two bytes of coordinate i
      pair : (i : ℕ) → i < length (touches_of body) → (get_or (body_of (touches_of body)) (i * 2) 0 ≡ get_or body (i * 2) 0) × (get_or (body_of (touches_of body)) (i * 2 + 1) 0 ≡ get_or body (i * 2 + 1) 0)
      pair i h =
          let high = get_or body (i * 2) 0 in
          let low = get_or body (i * 2 + 1) 0 in
          let h8 = bytes.small (i * 2) in
          let l8 = bytes.small (i * 2 + 1) in
          let t = body_at (touches_of body) i h in
          let e : bits16 (get_or (touches_of body) i (pos 0)) ≡ of_two high low = ap bits16 (touch_at body i (omega (arith, length_touches body))) ∙ bits_back (of_two high low) (of_two_below high low h8 l8) in
          (t.high ∙ rw e (high_of high low h8 l8), t.low ∙ rw e (low_of high low h8 l8))

      same : (j : ℕ) → j < length (body_of (touches_of body)) → get_or (body_of (touches_of body)) j 0 ≡ get_or body j 0
      same j h = go (eqb (j % 2) 0) refl
        where
          i : ℕ
          i = j / 2

          inside : j / 2 < length (touches_of body)
          inside = omega (arith, length_body (touches_of body))

          go : (b : Bool) → eqb (j % 2) 0 ≡ b → get_or (body_of (touches_of body)) j 0 ≡ get_or body j 0
          go true t =
              let e : j / 2 * 2 ≡ j = omega (arith, eqb-true (j % 2) 0 t) in
              rw e at (pair (j / 2) inside).0
          go false t =
              let n : j % 2 ≡ 0 → ⊥ = eqb-false (j % 2) 0 t in
              let e : j / 2 * 2 + 1 ≡ j = omega (arith, n) in
              rw e at (pair (j / 2) inside).1
