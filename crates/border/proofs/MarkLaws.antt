-- Marking sides: which sides have a touch's mark afterwards, and that no mark is of a later touch.
use mathlib.Core.Path.{◌≡◌, refl, sym, ap, ap₂, ◌∙◌}
use mathlib.Core.Logic.{◌⊎◌, inl, inr}
use mathlib.Core.Bool.{Bool, not, ◌&&◌, ◌||◌, or_assoc, or_comm, or-false}
use mathlib.Core.List.{List, [], ◌∷◌}
use Prim.Native.Nat.{ℕ, zero, suc, ◌+◌, ◌*◌, ◌/◌, ◌%◌, ◌<◌, ◌≤◌}
use native.Mathlib.Omega.{arith}
use borrow.Author.Tests.{ne_eqb, eqb-false}
use lib.Arith.{digits_lt, digits_div, digits_mod}
use lib.Dec.{T, eqb, eqb→eq, eqb_refl}
use lib.Ieee.Fits.{eq→eqb}
use lib.ListN.{length, drop, get_or, set, length-set, drop_of_length-le}
use lib.Seq.{get_or-set_same, get_or-set_other}
use Rattle.laws.specs.Lists.{In, has}
use Rattle.laws.proofs.Tests.{T-or, is_true, is_false, same_test, and_both, both_and}
use Rattle.laws.proofs.Members.{here, there, get_or_in}
use Rattle.rules.specs.Faces.{Face, Side, side, same_side, sides_of, sides}
use Rattle.rules.proofs.SideLaws.{in_sides}
use Rattle.rules.proofs.FaceLaws.{side_corners}
use Rattle.border.specs.Marks.{mark_place, stamp, MarkTable, Fresh, FacesOver, Marked, mark_side, mark_sides}

-- ---- one store
store_test : (marks : List ℕ) (i j x : ℕ) → i < length marks → eqb (get_or (set marks i x) j 0) x ≡ eqb j i || eqb (get_or marks j 0) x
store_test marks i j x h = go (T-or (eqb j i))
  where
    go : T (eqb j i) ⊎ T (not (eqb j i)) → eqb (get_or (set marks i x) j 0) x ≡ eqb j i || eqb (get_or marks j 0) x
    go (inl t) = rw (is_true (eqb j i) t, eqb→eq j i t, get_or-set_same marks i x 0 h) (is_true (eqb x x) (eqb_refl x))
    go (inr t) = rw (is_false (eqb j i) t, get_or-set_other marks i j x 0 (eqb-false j i (is_false (eqb j i) t)))

store_most : (marks : List ℕ) (i j x m : ℕ) → x ≤ m → get_or marks j 0 ≤ m → get_or (set marks i x) j 0 ≤ m
store_most [] i j x m h g = g
store_most (y ∷ l) zero zero x m h g = h
store_most (y ∷ l) zero (suc j) x m h g = g
store_most (y ∷ l) (suc i) zero x m h g = g
store_most (y ∷ l) (suc i) (suc j) x m h g = store_most l i j x m h g

-- two sides have one place only if they are one
place_test : (w a b c d : ℕ) → b < w → d < w → eqb (mark_place w a b) (mark_place w c d) ≡ eqb a c && eqb b d
place_test w a b c d h g = same_test (eqb (mark_place w a b) (mark_place w c d)) (eqb a c && eqb b d)
    (λ t. let e = eqb→eq (mark_place w a b) (mark_place w c d) t in both_and (eqb a c) (eqb b d)
    (eq→eqb (sym (digits_div a h) ∙ ap (λ (n : ℕ). n / w) e ∙ digits_div c g)) (eq→eqb (sym (digits_mod a h) ∙ ap (λ (n : ℕ). n % w) e ∙ digits_mod c g)))
    (λ t. let e = and_both (eqb a c) (eqb b d) t in eq→eqb (ap₂ (mark_place w) (eqb→eq a c e.0) (eqb→eq b d e.1)))

module _ (w k : ℕ) where
  -- ---- a list of sides
  sides_most : (l : List Side) (marks : List ℕ) (j : ℕ) → get_or marks j 0 ≤ stamp k → get_or (mark_sides w k l marks) j 0 ≤ stamp k
  sides_most [] marks j h = h
  sides_most (s ∷ l) marks j h = sides_most l (mark_side w k s marks) j (store_most marks (mark_place w s.from s.to) j (stamp k) (stamp k) (omega arith) h)

  -- k's mark is on the sides it marked and where it was before
  sides_test : (l : List Side) (marks : List ℕ) (a b : ℕ) → b < w → w * w ≤ length marks → ((s : Side) → In s l → (s.from < w) × (s.to < w))
      → eqb (get_or (mark_sides w k l marks) (mark_place w a b) 0) (stamp k) ≡ has same_side (side a b) l || eqb (get_or marks (mark_place w a b) 0) (stamp k)
  sides_test [] marks a b y r h = refl
  sides_test (s ∷ l) marks a b y r h =
      let e = h s (here refl) in
      let i : ℕ = mark_place w s.from s.to in
      let z : Bool = eqb (get_or marks (mark_place w a b) 0) (stamp k) in
      sides_test l (mark_side w k s marks) a b y (simp length-set r) (λ t m. h t (there m))
      ∙ ap (λ (x : Bool). has same_side (side a b) l || x) (store_test marks i (mark_place w a b) (stamp k) (omega (arith, digits_lt e.0 e.1)) ∙ ap (λ (x : Bool). x || z) (place_test w a b s.from s.to y e.1))
      ∙ sym (or_assoc (has same_side (side a b) l) (same_side (side a b) s) z) ∙ ap (λ (x : Bool). x || z) (or_comm (has same_side (side a b) l) (same_side (side a b) s))

  -- ---- the faces, once none is left
  pub face_end : (v : List Face) (i : ℕ) (marks : List ℕ) → length v ≤ i → mark_sides w k (sides (drop i v)) marks ≡ marks
  face_end v i marks h = rw (drop_of_length-le v h)

module _ {w k : ℕ} {v : List Face} {marks after : List ℕ} (table : MarkTable w marks) (fresh : Fresh k marks)
    (corners : FacesOver w v) (e : mark_sides w k (sides v) marks ≡ after) where
  pub all_marked : Marked w k v after
  all_marked = record {
    test = λ a b x y. rw (← e) (
        sides_test w k (sides v) marks a b y table.room (λ s m. let t = in_sides v m in side_corners (corners t.0 t.1) s t.2)
        ∙ ap (λ (c : Bool). has same_side (side a b) (sides v) || c) (ne_eqb (get_or marks (mark_place w a b) 0) (stamp k) (λ q. omega (arith, fresh.old (mark_place w a b))))
        ∙ or-false (has same_side (side a b) (sides v)));
  }

  pub all_fresh : Fresh (k + 1) after
  all_fresh = record { old = λ j. rw (← e) (omega (arith, sides_most w k (sides v) marks j (omega (arith, fresh.old j)))) }

-- side j of face i is over touches below w
pub side_over : {w : ℕ} {v : List Face} {l : List Side} → FacesOver w v → (i : ℕ) → i < length v → l ≡ sides_of (get_or v i [])
    → (j : ℕ) (d : Side) → j < length l → ((get_or l j d).from < w) × ((get_or l j d).to < w)
side_over {w} {v} {l} c i h e j d g = side_corners (c (get_or v i []) (get_or_in v i [] h)) (get_or l j d) (rw (← e) (get_or_in l j d g))

-- touches that leave no mark
pub fresh_later : {k j : ℕ} {marks : List ℕ} → Fresh k marks → k ≤ j → Fresh j marks
fresh_later f h = record { old = λ i. omega (arith, f.old i) }
