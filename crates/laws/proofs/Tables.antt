-- A list laid into a table, and the elements that pass a test laid there one after another.
use mathlib.Core.Path.{◌≡◌, refl, sym, ap, ap₂, ◌∙◌}
use mathlib.Core.Bool.{Bool, true, false}
use mathlib.Core.List.{List, [], ◌∷◌, ◌++◌, append_assoc, append-nil}
use Prim.Native.Nat.{ℕ, zero, suc, ◌+◌, ◌-◌, ◌<◌, ◌≤◌}
use native.Mathlib.Numerals.{add-one}
use native.Mathlib.Omega.{arith}
use lib.ListN.{get_or-append, length, take, drop, get_or, set, length-append, length-take, length-drop, take-append-drop}
use lib.Seq.{sets, sets-eq, take-suc, set_split, append_snoc, length-take-le, take_at, drop_at, get_or-drop, get_or-append-add, get_or-take, take-append_seam, drop-drop}
use Rattle.laws.specs.Lists.{only_if, keep, lay, Laid}
use Rattle.laws.proofs.Members.{keep_append, length_keep}

-- ---- lay
module _ {A : Type 0} where
  pub length_lay : (at : ℕ) (new old : List A) → at + length new ≤ length old → length (lay at new old) ≡ length old
  unfolding lay
  length_lay at new old h =
      let t : length (take at old) ≡ at = length-take-le at old (omega arith) in
      simp (length-append, length-drop) (omega arith)

  pub lay_none : (at : ℕ) (old : List A) → lay at [] old ≡ old
  unfolding lay
  lay_none at old = let e : at + 0 ≡ at = omega arith in rw (e, append-nil, take-append-drop)

  pub lay_one : (at : ℕ) (a : A) (old : List A) → at < length old → lay at (a ∷ []) old ≡ set old at a
  unfolding lay
  lay_one at a old h = rw (add-one, append_snoc, set_split old at a)

  pub lay_lay : (at : ℕ) (l m old : List A) → at ≤ length old → lay (at + length l) m (lay at l old) ≡ lay at (l ++ m) old
  unfolding lay
  lay_lay at l m old h =
      let n = at + length l in
      let p = take at old ++ l in
      let e : length (take at old ++ l) ≡ at + length l = simp length-append (omega (arith, length-take-le at old h)) in
      let s : at + length (l ++ m) ≡ at + length l + length m = simp length-append (omega arith) in
      rw (take_at p (drop n old) n e, ← drop-drop (length m) n (p ++ drop n old), drop_at p (drop n old) n e, drop-drop, s, append_assoc (take at old) l m)

  -- past what was laid from the start, the table is as it was
  pub lay_past : (new old : List A) (i : ℕ) (d : A) → length new ≤ i → get_or (lay 0 new old) i d ≡ get_or old i d
  unfolding lay
  lay_past new old i d h =
      let k : ℕ = i - length new in
      let e : i ≡ length new + (i - length new) = omega arith in
      let z : 0 + length new ≡ length new = omega arith in
      rw (z) (ap (λ (j : ℕ). get_or (new ++ drop (length new) old) j d) e ∙ get_or-append-add new (drop (length new) old) (i - length new) d ∙ get_or-drop (length new) old (i - length new) d ∙ ap (λ (j : ℕ). get_or old j d) (sym e))

  pub lay_first : (new old : List A) → take (length new) (lay 0 new old) ≡ new
  unfolding lay
  lay_first new old = take-append_seam new _

  pub lay_rest : (new old : List A) → drop (length new) (lay 0 new old) ≡ drop (length new) old
  unfolding lay
  lay_rest new old = let z : 0 + length new ≡ length new = omega arith in rw (z, drop_at new (drop (length new) old) (length new) refl)

-- ---- Laid
module _ {A : Type 0} {at r : ℕ} {new old after : List A} (h : Laid at new old r after) where
  pub length_laid : at + length new ≤ length old → length after ≡ length old
  length_laid b = rw h.table (length_lay at new old b)

  pub laid_then : {s : ℕ} {more last : List A} → at ≤ length old → Laid r more after s last → Laid at (new ++ more) old s last
  laid_then {s} {more} {last} b g = record {
    next = simp length-append (omega (arith, h.next, g.next));
    table = g.table ∙ rw (h.next, h.table, lay_lay at new more old b);
  }

  -- the table up to the next free place
  pub laid_take : at ≤ length old → take r after ≡ take at old ++ new
  unfolding lay
  laid_take b =
      let e : length (take at old ++ new) ≡ at + length new = simp length-append (omega (arith, length-take-le at old b)) in
      rw (h.table, h.next, take_at (take at old ++ new) (drop (at + length new) old) (at + length new) e)

  -- before the place the table is as it was
  pub laid_before : at ≤ length old → (i : ℕ) (d : A) → i < at → get_or after i d ≡ get_or old i d
  laid_before b i d l =
      let e : length (take at old) ≡ at = length-take-le at old b in
      sym (get_or-take r after i d (omega (arith, h.next))) ∙ ap (λ (t : List A). get_or t i d) (laid_take b) ∙ get_or-append (take at old) new d i (omega (arith, e)) ∙ get_or-take at old i d l

pub laid_none : {A : Type 0} (at : ℕ) (old : List A) → Laid at [] old at old
laid_none at old = record { next = omega arith; table = sym (lay_none at old) }

-- the first elements of a table are laid in it
pub laid_prefix : {A : Type 0} (i : ℕ) (l : List A) → i ≤ length l → Laid 0 (take i l) l i l
unfolding lay
laid_prefix i l h =
    let e : length (take i l) ≡ i = length-take-le i l h in
    let z : 0 + i ≡ i = omega arith in
    record { next = omega (arith, e); table = rw (e, z) (sym (take-append-drop i l)) }

pub laid_one : {A : Type 0} (at : ℕ) (a : A) (old : List A) → at < length old → Laid at (a ∷ []) old (at + 1) (set old at a)
laid_one at a old h = record { next = refl; table = sym (lay_one at a old h) }

-- a run of stores
pub laid_sets : {A : Type 0} (at : ℕ) (new old : List A) → at + length new ≤ length old → Laid at new old (at + length new) (sets old at new)
unfolding lay
laid_sets at new old h = record { next = refl; table = sets-eq new old at h }

pub laid_three : {A : Type 0} (at : ℕ) (a b c : A) (old : List A) → at + 3 ≤ length old
    → Laid at (a ∷ b ∷ c ∷ []) old (at + 3) (set (set (set old at a) (at + 1) b) (at + 2) c)
laid_three at a b c old h =
    let e : at + 1 ≡ suc at = omega arith in
    let g : at + 2 ≡ suc (suc at) = omega arith in
    rw (e, g) (laid_sets at (a ∷ b ∷ c ∷ []) old h)

module _ {A : Type 0} {r : ℕ} {new old after : List A} (h : Laid 0 new old r after) where
  pub laid_past : (i : ℕ) (d : A) → r ≤ i → get_or after i d ≡ get_or old i d
  laid_past i d b = rw h.table (lay_past new old i d (omega (arith, h.next)))

  pub laid_first : take r after ≡ new
  laid_first = let e : r ≡ length new = omega (arith, h.next) in rw (h.table, e) (lay_first new old)

-- ---- the elements that pass, an element a turn
module _ {A : Type 0} (t : A → Bool) where
  -- those of the first i + 1 elements
  pub keep_more : (l : List A) (i : ℕ) (d : A) → i < length l → keep t (take (i + 1) l) ≡ keep t (take i l) ++ only_if (t (get_or l i d)) (get_or l i d)
  keep_more l i d h = rw (add-one, take-suc l i d, keep_append t (take i l) (get_or l i d ∷ []))

  module _ (l : List A) (d : A) where
    -- the first i elements, where all of them pass, and where none does
    pub keep_first : (i : ℕ) → i ≤ length l → ((j : ℕ) → j < i → t (get_or l j d) ≡ true) → keep t (take i l) ≡ take i l
    keep_first zero h g = refl
    keep_first (suc i) h g =
        let e : suc i ≡ i + 1 = omega arith in
        rw e (keep_more l i d (omega arith) ∙ ap₂ (λ (k : List A) (b : Bool). k ++ only_if b (get_or l i d)) (keep_first i (omega arith) (λ j k. g j (omega arith))) (g i (omega arith)) ∙ sym (rw (add-one) (take-suc l i d (omega arith))))

    pub keep_no_first : (i : ℕ) → i ≤ length l → ((j : ℕ) → j < i → t (get_or l j d) ≡ false) → keep t (take i l) ≡ []
    keep_no_first zero h g = refl
    keep_no_first (suc i) h g =
        let e : suc i ≡ i + 1 = omega arith in
        rw e (keep_more l i d (omega arith) ∙ ap₂ (λ (k : List A) (b : Bool). k ++ only_if b (get_or l i d)) (keep_no_first i (omega arith) (λ j k. g j (omega arith))) (g i (omega arith)))

module _ {A : Type 0} where
  pub length_only : (b : Bool) (a : A) → length (only_if b a) ≤ 1
  length_only true a = omega arith
  length_only false a = omega arith

  pub length_keep_take : (t : A → Bool) (l : List A) (i : ℕ) → length (keep t (take i l)) ≤ i
  length_keep_take t l i = omega (arith, length_keep t (take i l), length-take i l)

  -- f, the next element of l, was put after what is keeped of those before it, if t holds of it
  pub laid_keep : {m r : ℕ} {old mid after : List A} (t : A → Bool) (l : List A) (i : ℕ) (d : A) (x : Bool) (f : A) → i < length l
      → f ≡ get_or l i d → x ≡ t f → Laid 0 (keep t (take i l)) old m mid → Laid m (only_if x f) mid r after → Laid 0 (keep t (take (i + 1) l)) old r after
  laid_keep t l i d x f h e g p q =
      rw (keep_more t l i d h) (laid_then p (omega arith) (rw (← e, ← g) q))

  -- f, the next element of l, was stored after those before it
  pub laid_next : {i : ℕ} {old table : List A} (l : List A) (d : A) {f : A} → f ≡ get_or l i d → i < length l → i < length table
      → Laid 0 (take i l) old i table → Laid 0 (take (i + 1) l) old (i + 1) (set table i f)
  laid_next {i} {old} {table} l d {f} e h k g =
      let t : take (i + 1) l ≡ take i l ++ (f ∷ []) = ap (λ (j : ℕ). take j l) (add-one i) ∙ take-suc l i d h ∙ ap (λ (x : A). take i l ++ (x ∷ [])) (sym e) in
      rw t (laid_then g (omega arith) (laid_one i f table k))
