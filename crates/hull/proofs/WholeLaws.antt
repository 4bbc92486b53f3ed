-- V read from a face's plane, and planes put beside their faces one after another.
use mathlib.Core.Path.{◌≡◌, refl, sym, ap, ◌∙◌}
use mathlib.Core.Logic.{◌⊎◌, inl, inr, ◌≢◌}
use mathlib.Core.Bool.{Bool, true, false}
use mathlib.Core.List.{List, []}
use Prim.Native.Nat.{ℕ, ◌+◌, ◌<◌, ◌≤◌}
use native.Mathlib.Omega.{arith}
use borrow.Author.Tests.{ltb-true, ltb-false}
use lib.Dec.{ltb}
use lib.IntN.{ℤ, pos, nat_abs, zero-*ℤ}
use lib.ListN.{length, take, get_or, get_or-eq_default}
use lib.Signed.{lt_z}
use lib.Seq.{get_or-set_same, get_or-set_other, get_or-take, length-take-le}
use Rattle.std.specs.Prelude.{Some, None, position}
use Rattle.std.proofs.lemmas.List.Sums.{fails_before_first}
use Rattle.std.proofs.lemmas.List.Quantifiers.{position-Some}
use Rattle.std.proofs.lemmas.Grind.{common_steps}
use Rattle.laws.specs.Lists.{only_if, lay}
use Rattle.laws.proofs.Tests.{same_or}
use Rattle.laws.proofs.Tables.{lay_none, lay_one, length_only}
use Rattle.touches.specs.declared.Point.{Point}
use Rattle.touches.specs.Touches.{touch}
use Rattle.volume.specs.Volume.{dot, offset}
use Rattle.volume.proofs.PlaneLaws.{plane_vol}
use Rattle.rules.specs.Faces.{Face, Places, corner, face_vol}
use Rattle.points.specs.Sizes.{Number}
use Rattle.points.specs.Whole.{Plane, plane_on}
use Rattle.hull.specs.Whole.{read_at, no_plane, PlanedAt, Planed}

pub read_is : (p : Places) (f : Face) (q : Point) → read_at (plane_on p f) q ≡ face_vol p f q
unfolding face_vol
read_is p f q = sym (plane_vol (p (corner f 0)) (p (corner f 1)) (p (corner f 2)) q)

-- of a plane of a table
pub planed_number : {cs : List ℤ} {faces : List Face} {planes : List Plane} {j B : ℕ} (q : Point) {r : ℤ} → PlanedAt cs faces planes j
    → Number B (read_at (get_or planes j no_plane) q) r → Number B (face_vol (touch cs) (get_or faces j []) q) r
planed_number {cs} {faces} {j = j} q e n = record { is = n.is ∙ ap (λ (w : Plane). read_at w q) e.is ∙ read_is (touch cs) (get_or faces j []) q; small = n.small }

-- no face has `no_plane`: where a normal is 0, so is the offset
no_face : (p : Places) (f : Face) → no_plane ≢ plane_on p f
unfolding offset
no_face p f e =
    let a = p (corner f 0) in
    let n : dot no_plane.normal a ≡ pos 0 = rw (zero-*ℤ a.x, zero-*ℤ a.y, zero-*ℤ a.z) refl in
    let o : no_plane.offset ≡ pos 0 = ap (λ (w : Plane). w.offset) e ∙ sym (ap (λ (w : Plane). dot w.normal a) e) ∙ n in
    absurd (omega (arith, ap nat_abs o))

-- so a plane that is a face's stands in its table
pub planed_inside : {cs : List ℤ} {faces : List Face} {planes : List Plane} {j : ℕ} → PlanedAt cs faces planes j → j < length planes
planed_inside {cs} {faces} {planes} {j} h = go (ltb j (length planes)) refl
  where
    go : (b : Bool) → ltb j (length planes) ≡ b → j < length planes
    go true t = ltb-true j (length planes) t
    go false t = absurd (no_face (touch cs) (get_or faces j []) (sym (get_or-eq_default planes no_plane (ltb-false j (length planes) t)) ∙ h.is))

-- ---- a plane stored at place i
pub planed_none : (cs : List ℤ) (faces : List Face) (planes : List Plane) → Planed cs 0 faces planes
planed_none cs faces planes = record { each = λ j h. absurd (omega arith) }

-- a face and its plane put at place m, where y holds
module _ {cs : List ℤ} {faces : List Face} {planes : List Plane} {m : ℕ} (f : Face) (w : Plane) (a : m < length faces) (b : m < length planes) where
  pub put_apart : (y : Bool) {j : ℕ} → j ≢ m → PlanedAt cs faces planes j → PlanedAt cs (lay m (only_if y f) faces) (lay m (only_if y w) planes) j
  put_apart true {j} d h = record { is = rw (lay_one m f faces a, lay_one m w planes b) (get_or-set_other planes m j w no_plane d ∙ h.is ∙ ap (plane_on (touch cs)) (sym (get_or-set_other faces m j f [] d))) }
  put_apart false d h = rw (lay_none m faces, lay_none m planes) h

  module _ (e : w ≡ plane_on (touch cs) f) where
    pub put_planed : (y : Bool) → Planed cs m faces planes → Planed cs (m + length (only_if y f)) (lay m (only_if y f) faces) (lay m (only_if y w) planes)
    put_planed y h = record { each = λ j l. go y j l (same_or j m) }
      where
        go : (y : Bool) (j : ℕ) → j < m + length (only_if y f) → (j ≡ m) ⊎ (j ≢ m) → PlanedAt cs (lay m (only_if y f) faces) (lay m (only_if y w) planes) j
        go true j l (inl s) = record { is = rw (s, lay_one m f faces a, lay_one m w planes b) (get_or-set_same planes m w no_plane b ∙ e ∙ ap (plane_on (touch cs)) (sym (get_or-set_same faces m f [] a))) }
        go false j l (inl s) = absurd (omega arith)
        go y j l (inr d) = put_apart y d (h.each j (omega (arith, length_only y f)))

-- ---- the search for the first face that q is in front of, among n
abbrev fronts : Point → Plane → Bool
fronts q w = lt_z (read_at w q) (pos 0)

module _ (planes : List Plane) (q : Point) {n : ℕ} (l : n ≤ length planes) where
  back : (b : Bool) (j : ℕ) → j < n → fronts q (get_or (take n planes) j no_plane) ≡ b → fronts q (get_or planes j no_plane) ≡ b
  back b j h e = rw (get_or-take n planes j no_plane h) at e

  pub front_nowhere : None ≡ position (fronts q) (take n planes) → (j : ℕ) → j < n → fronts q (get_or planes j no_plane) ≡ false
  front_nowhere e j h =
      let s : length (take n planes) ≡ n = length-take-le n planes l in
      back false j h (fails_before_first (fronts q) (take n planes) j no_plane (grind (arith, common_steps)))

  pub front_at : {i : ℕ} → Some i ≡ position (fronts q) (take n planes) → (i < n) × (fronts q (get_or planes i no_plane) ≡ true) × ((j : ℕ) → j < i → fronts q (get_or planes j no_plane) ≡ false)
  front_at {i} e =
      let s : length (take n planes) ≡ n = length-take-le n planes l in
      let f = position-Some (fronts q) (take n planes) i no_plane (sym e) in
      let h : i < n = omega (arith, f.0) in
      (h, back true i h f.1, λ j b. back false j (omega arith) (f.2 j b))
