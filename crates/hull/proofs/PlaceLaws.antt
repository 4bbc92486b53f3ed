-- Looking at a table's faces one after the other: the worst, the first of a kind, and what is settled.
use Rattle.touches.specs.declared.refusal.Refusal.{Refusal}
use Rattle.std.specs.Prelude.{Result, Ok, Err}
use mathlib.Core.Path.{◌≡◌, refl, sym, ap, ap₂, subst, ◌∙◌}
use mathlib.Core.Logic.{◌⊎◌, inl, inr, ◌≢◌}
use mathlib.Core.Bool.{Bool, true, false, ◌&&◌}
use mathlib.Core.List.{List, []}
use mathlib.Core.Option.{Option as Maybe, none, some}
use Rattle.std.specs.Prelude.{Option, Some, None, MatchOption}
use Rattle.std.specs.Bool.{then_some}
use Rattle.std.specs.Option.{option_or}
use Prim.Native.Nat.{ℕ, ◌+◌, ◌<◌, ◌≤◌}
use native.Mathlib.Omega.{arith}
use lib.Dec.{T, eqb}
use lib.IntN.{ℤ, pos, neg_ℤ, neg_ℤ-neg_ℤ}
use lib.Signed.{◌≤ℤ◌, ◌<ℤ◌, lt_z}
use lib.ListN.{drop, get_or}
use mir.Syntax.{w64}
use mir.Val.{of_z}
use Rattle.laws.specs.Numbers.{Within}
use Rattle.laws.specs.Lists.{first_from}
use Rattle.laws.proofs.Tests.{same_or}
use Rattle.laws.proofs.Order.{≤_trans, <-≤_trans, <→≤, ≡→≤, neg_pos, lt_true, lt_false, eq_z→eq}
use Rattle.laws.proofs.Members.{in_get_or}
use Rattle.laws.proofs.Turns.{first_turn, first_none_left}
use Rattle.touches.specs.declared.refusal.Refusal.TheVariants.{NoSuchFace, PlaceOutOfRange}
use Rattle.touches.specs.declared.FaceNo.{FaceNo}
use Rattle.touches.specs.declared.Point.{Point}
use Rattle.touches.specs.Limits.{place_in_range}
use Rattle.touches.specs.Touches.{touch, touch_count, face_no}
use Rattle.touches.specs.Check.{pick, checked, if_accepted}
use Rattle.volume.specs.Volume.{most_volume, is_zero}
use Rattle.volume.specs.Triangle.{contains}
use Rattle.rules.specs.Faces.{Face, Places, corner, face_vol}
use Rattle.rules.specs.Placing.{outside, holds, first_holding, first_plane, not_outside, lies}
use Rattle.rules.specs.Demands.{OnOrInside, Worst as IsWorst}
use Rattle.rules.proofs.PlaceLaws.{lies_worst, lies_behind}
use Rattle.table.specs.Table.{room, face_at, faces_in, usable}
use Rattle.table.proofs.TableLaws.{length_faces, face_at_lem}
use Rattle.points.specs.Sizes.{Number}
use Rattle.points.proofs.NumberLaws.{zero_test}
use Rattle.hull.specs.Inner.{worse, settled}
use Rattle.hull.specs.Place.{placed_by, placed}
use Rattle.hull.specs.declared.place.Worst.{Worst}
use Rattle.hull.specs.declared.place.Placed.{Placed}

-- ---- the first face of a kind
abbrev or_else : Option FaceNo → Maybe ℕ → Maybe ℕ
or_else None o = o
or_else (Some f) o = some f.0

-- of the first i faces of the table t, first is the first that passes q
pub record Looked (t : List ℕ) (q : Face → Bool) (i : ℕ) (first : Option FaceNo) : Type 0 where
  pub so_far : first_from q 0 (faces_in t) ≡ or_else first (first_from q i (drop i (faces_in t)))

module _ {t : List ℕ} {q : Face → Bool} {i : ℕ} {first : Option FaceNo} (g : Looked t q i first) where
  abbrev later : Maybe ℕ
  later = first_from q (i + 1) (drop (i + 1) (faces_in t))

  -- the next face was tested, with b as the answer
  pub looked_more : i < room t → {b : Bool} → b ≡ q (face_at t i) → Looked t q (i + 1) (option_or first (then_some b (face_no i)))
  looked_more h {b} e = record { so_far = g.so_far ∙ go first }
    where
      by : (b : Bool) → (elim b as (λ z. Maybe ℕ) [ true ↦ some i | false ↦ later ]) ≡ or_else (then_some b (face_no i)) later
      by true = refl
      by false = refl

      go : (first : Option FaceNo) → or_else first (first_from q i (drop i (faces_in t))) ≡ or_else (option_or first (then_some b (face_no i))) later
      go None = first_turn q (faces_in t) [] i (omega (arith, length_faces t)) (ap q (face_at_lem t i h) ∙ sym e) ∙ by b
      go (Some f) = refl

  pub looked_all : room t ≤ i → first_from q 0 (faces_in t) ≡ or_else first none
  looked_all h = g.so_far ∙ ap (or_else first) (first_none_left q (faces_in t) [] i (omega (arith, length_faces t)))

-- ---- the worst face
-- w is the first with the least g of the first i faces of the table t, and that is below 0
pub record WorstOf (t : List ℕ) (g : Face → ℤ) (i : ℕ) (w : Worst) : Type 0 where
  pub small : Within most_volume w.v
  pub below : w.v <ℤ pos 0
  pub least : (j : ℕ) → j < i → w.v ≤ℤ g (face_at t j)
  pub within : w.face.0 < room t
  pub is : g (face_at t w.face.0) ≡ w.v
  pub first : (j : ℕ) → j < w.face.0 → w.v <ℤ g (face_at t j)

-- g is below 0 for none of them
pub record NoneBelow (t : List ℕ) (g : Face → ℤ) (i : ℕ) : Type 0 where
  pub each : (j : ℕ) → j < i → pos 0 ≤ℤ g (face_at t j)

-- w is the worst of them by g, if any is below 0
pub record Worsened (t : List ℕ) (g : Face → ℤ) (i : ℕ) (w : Option Worst) : Type 0 where
  pub so_far : MatchOption w (NoneBelow t g i) (λ u. WorstOf t g i u)

-- what is at most g of the faces before, and of this one, is at most g of all so far
most_more : (t : List ℕ) (g : Face → ℤ) {i : ℕ} {x : ℤ} → x ≤ℤ g (face_at t i) → ((j : ℕ) → j < i → x ≤ℤ g (face_at t j)) → (j : ℕ) → j < i + 1 → x ≤ℤ g (face_at t j)
most_more t g {i} {x} l k j b = go (same_or j i)
  where
    go : (j ≡ i) ⊎ (j ≢ i) → x ≤ℤ g (face_at t j)
    go (inl s) = rw s l
    go (inr d) = k j (omega arith)

-- the next face was looked at, with V at v
module _ {t : List ℕ} {g : Face → ℤ} {i : ℕ} (r : i < room t) {v : ℤ} (e : v ≡ g (face_at t i)) (h : Within most_volume v) where
  yields : v <ℤ pos 0 → ((j : ℕ) → j < i → v <ℤ g (face_at t j)) → WorstOf t g (i + 1) (record { face = face_no i; v = v })
  yields l k = record { small = h; below = l; least = most_more t g (≡→≤ e) (λ j b. <→≤ (k j b)); within = r; is = sym e; first = k }

  after_none : NoneBelow t g i → (b : Bool) → lt_z v (pos 0) ≡ b → MatchOption (pick b (Some (record { face = face_no i; v = v })) None) (NoneBelow t g (i + 1)) (λ u. WorstOf t g (i + 1) u)
  after_none k true l = yields (lt_true l) (λ j b. <-≤_trans (lt_true l) (k.each j b))
  after_none k false l = record { each = most_more t g (≤_trans (lt_false l) (≡→≤ e)) k.each }

  after_some : (w : Worst) → WorstOf t g i w → (b : Bool) → lt_z v w.v ≡ b → MatchOption (pick b (Some (record { face = face_no i; v = v })) (Some w)) (NoneBelow t g (i + 1)) (λ u. WorstOf t g (i + 1) u)
  after_some w k true l = yields (<-≤_trans (lt_true l) (<→≤ k.below)) (λ j b. <-≤_trans (lt_true l) (k.least j b))
  after_some w k false l = record { small = k.small; below = k.below; least = most_more t g (≤_trans (lt_false l) (≡→≤ e)) k.least; within = k.within; is = k.is; first = k.first }

  pub worst_more : {w : Option Worst} → Worsened t g i w → Worsened t g (i + 1) (worse w (face_no i) v)
  worst_more {w} k = record { so_far = go w k.so_far }
    where
      go : (w : Option Worst) → MatchOption w (NoneBelow t g i) (λ u. WorstOf t g i u) → MatchOption (worse w (face_no i) v) (NoneBelow t g (i + 1)) (λ u. WorstOf t g (i + 1) u)
      go None m = after_none m (lt_z v (pos 0)) refl
      go (Some u) m = after_some u m (lt_z v u.v) refl

-- ---- the code's tests
-- a face holds q only where V is 0, and then by its triangle
module _ (p : Places) (f : Face) (q : Point) {v : ℤ} (n : Number most_volume (face_vol p f q) v) {b : Bool} (t : eqb (of_z w64 v) 0 ≡ b) where
  flat_is : is_zero (face_vol p f q) ≡ b
  flat_is = ap is_zero (sym n.is) ∙ sym (zero_test tt n.small) ∙ t

  pub flat_zero : b ≡ true → face_vol p f q ≡ pos 0
  flat_zero e = eq_z→eq (face_vol p f q) (pos 0) (subst T (sym (flat_is ∙ e)) tt)

  pub holds_by : b && contains (p (corner f 0)) (p (corner f 1)) (p (corner f 2)) q ≡ holds p f q
  unfolding holds
  holds_by = sym (ap (λ (z : Bool). z && contains (p (corner f 0)) (p (corner f 1)) (p (corner f 2)) q) flat_is)

-- ---- all faces looked at
module _ (cs : List ℤ) (q : Point) where
  abbrev pub against : Face → ℤ
  against f = face_vol (touch cs) f q

  abbrev pub holding : Face → Bool
  holding f = holds (touch cs) f q

  abbrev pub flat : Face → Bool
  flat f = is_zero (face_vol (touch cs) f q)

  -- face number j of the table t is that of its list
  face_is : (t : List ℕ) (j : ℕ) → j < room t → against (get_or (faces_in t) j []) ≡ against (face_at t j)
  face_is t j l = ap against (face_at_lem t j l)

  module _ {t : List ℕ} {i : ℕ} (h : room t ≤ i) where
    in_front : {w : Worst} → WorstOf t against i w → lies (touch cs) (faces_in t) q ≡ outside w.face.0 (neg_ℤ w.v)
    in_front {w} k = (lies_worst (touch cs) (faces_in t) q w.face.0 (neg_ℤ w.v)).1 (rw (neg_ℤ-neg_ℤ w.v) worst, neg_pos k.below)
      where
        worst : IsWorst (touch cs) (faces_in t) q w.face.0 w.v
        worst = record {
          within = omega (arith, length_faces t, k.within);
          is = face_is t w.face.0 k.within ∙ k.is;
          least = λ j l. let b : j < room t = omega (arith, length_faces t) in rw (face_is t j b) (k.least j (omega arith));
          first = λ j l. let b : j < room t = omega (arith, k.within) in rw (face_is t j b) (k.first j l);
        }

    behind : NoneBelow t against i → OnOrInside (touch cs) (faces_in t) q
    behind k f m = let u = in_get_or (faces_in t) [] m in let b : u.0 < room t = omega (arith, length_faces t, u.1) in rw (sym u.2, face_is t u.0 b) (k.each u.0 (omega arith))

  pub settled_is : (t : List ℕ) {i : ℕ} {w : Option Worst} {o e : Option FaceNo} → Worsened t against i w → Looked t holding i o → Looked t flat i e → room t ≤ i → settled w o e ≡ placed_by (lies (touch cs) (faces_in t) q)
  unfolding first_holding first_plane
  settled_is t {i} {w} {o} {e} k l m h = go w k.so_far
    where
      rest : (o e : Option FaceNo) → settled None o e ≡ placed_by (not_outside (or_else o none) (or_else e none))
      rest (Some f) e = refl
      rest None (Some f) = refl
      rest None None = refl

      go : (w : Option Worst) → MatchOption w (NoneBelow t against i) (λ u. WorstOf t against i u) → settled w o e ≡ placed_by (lies (touch cs) (faces_in t) q)
      go (Some u) k = ap placed_by (sym (in_front h k))
      go None k =
          rest o e ∙ ap₂ (λ (x y : Maybe ℕ). placed_by (not_outside x y)) (sym (looked_all l h)) (sym (looked_all m h))
          ∙ sym (ap placed_by (lies_behind (touch cs) (faces_in t) q (behind h k)))

-- ---- the answer where the three tests are passed
pub place_looked : (cs : List ℤ) (t : List ℕ) (q : Point) {l : List ℤ} → checked cs ≡ Ok l → usable (touch_count cs) t ≡ true → place_in_range q ≡ true
    → {x : Result Placed Refusal} → x ≡ placed_by (lies (touch cs) (faces_in t) q) → x ≡ placed cs t q
place_looked cs t q e u r x =
    x ∙ sym (λ j. if_accepted (e j) (pick (u j) (pick (r j) (placed_by (lies (touch cs) (faces_in t) q)) (Err PlaceOutOfRange)) (Err NoSuchFace)))
