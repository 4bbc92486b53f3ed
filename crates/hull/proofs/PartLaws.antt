-- Parting a table of faces, with their planes, into those that q is in front of and the others, a face a turn.
use mathlib.Core.Path.{◌≡◌, refl, sym, ap, ap₂, ◌∙◌}
use mathlib.Core.Bool.{Bool, true, false, not}
use mathlib.Core.List.{List, [], ◌++◌}
use Prim.Native.Nat.{ℕ, ◌+◌, ◌<◌, ◌≤◌}
use native.Mathlib.Omega.{arith}
use lib.IntN.{ℤ, pos}
use lib.ListN.{length, take, get_or, set, length-append}
use lib.Signed.{lt_z}
use Rattle.std.proofs.Common.{length-set}
use Rattle.std.specs.Prelude.{Some, None, position}
use Rattle.laws.specs.Lists.{only_if, keep, lay, Laid}
use Rattle.laws.proofs.Tables.{lay_none, lay_one, laid_none, laid_one, laid_prefix, laid_past, laid_take, laid_keep, keep_more, keep_first, keep_no_first, length_keep_take}
use Rattle.touches.specs.declared.Point.{Point}
use Rattle.touches.specs.Touches.{touch}
use Rattle.rules.specs.Faces.{Face, visible}
use Rattle.rules.specs.Building.{seen, unseen}
use Rattle.points.specs.Whole.{Plane}
use Rattle.hull.specs.Inner.{in_front, PartOf}
use Rattle.hull.specs.Whole.{read_at, no_plane, PlanedAt, Planed}
use Rattle.hull.proofs.WholeLaws.{read_is, put_apart, put_planed, front_nowhere, front_at}

abbrev behind : List ℤ → Point → Face → Bool
behind cs q f = not (in_front cs q f)

-- what is read from the plane of a face of the table
module _ {cs : List ℤ} {faces : List Face} {planes : List Plane} {j : ℕ} (e : PlanedAt cs faces planes j) where
  pub front_read : (q : Point) → lt_z (read_at (get_or planes j no_plane) q) (pos 0) ≡ in_front cs q (get_or faces j [])
  front_read q = ap (λ (w : Plane). lt_z (read_at w q) (pos 0)) e.is ∙ ap (λ (z : ℤ). lt_z z (pos 0)) (read_is (touch cs) (get_or faces j []) q)

-- after the first i of the faces from: m of them are in the table kept, with their planes, and s in the table front
pub record Parting (cs : List ℤ) (q : Point) (n : ℕ) (from kept front : List Face) (planes : List Plane) (m s i : ℕ) : Type 0 where
  pub within : i ≤ n
  pub kept_long : length kept ≡ length from
  pub front_long : n ≤ length front
  pub planes_long : n ≤ length planes
  pub stay : Laid 0 (keep (behind cs q) (take i from)) from m kept
  pub gone : take s front ≡ keep (in_front cs q) (take i from)
  pub count : s ≡ length (keep (in_front cs q) (take i from))
  pub planed : Planed cs m kept planes
  pub rest : (j : ℕ) → i ≤ j → j < n → PlanedAt cs kept planes j

-- the faces before the first that q is in front of are in their places
module _ {cs : List ℤ} {n : ℕ} {from : List Face} {planes : List Plane} {i : ℕ} (a : n ≤ length from) (b : n ≤ length planes) (p : Planed cs n from planes) (w : i ≤ n)
    (q : Point) (h : (j : ℕ) → j < i → lt_z (read_at (get_or planes j no_plane) q) (pos 0) ≡ false) (front : List Face) (l : n ≤ length front) where
  before : (j : ℕ) → j < i → in_front cs q (get_or from j []) ≡ false
  before j c = sym (front_read (p.each j (omega arith)) q) ∙ h j c

  pub parting_none : Parting cs q n from from front planes i 0 i
  parting_none =
      let e : keep (in_front cs q) (take i from) ≡ [] = keep_no_first (in_front cs q) from [] i (omega arith) before in
      record {
        within = w;
        kept_long = refl;
        front_long = l;
        planes_long = b;
        stay = rw (keep_first (behind cs q) from [] i (omega arith) (λ j c. ap not (before j c))) (laid_prefix i from (omega arith));
        gone = sym e;
        count = ap length (sym e);
        planed = record { each = λ j c. p.each j (omega arith) };
        rest = λ j c d. p.each j d;
      }

module _ {cs : List ℤ} {q : Point} {n : ℕ} {from kept front : List Face} {planes : List Plane} {m s i : ℕ} (g : Parting cs q n from kept front planes m s i) where
  kept_few : m ≤ i
  kept_few = omega (arith, g.stay.next, length_keep_take (behind cs q) from i)

  -- the next face is still in its place
  next_face : get_or kept i [] ≡ get_or from i []
  next_face = laid_past g.stay i [] kept_few

  module _ (h : i < n) (e : n ≤ length from) where
    kept_place : m < length kept
    kept_place = omega (arith, kept_few, g.kept_long)

    planes_place : m < length planes
    planes_place = omega (arith, kept_few, g.planes_long)

    front_few : s ≤ i
    front_few = omega (arith, g.count, length_keep_take (in_front cs q) from i)

    front_place : s < length front
    front_place = omega (arith, front_few, g.front_long)

    parting_more : {kept' front' : List Face} {planes' : List Plane} {m' s' : ℕ} {x : Bool} → x ≡ lt_z (read_at (get_or planes i no_plane) q) (pos 0)
        → planes' ≡ lay m (only_if (not x) (get_or planes i no_plane)) planes → length planes' ≡ length planes
        → Laid m (only_if (not x) (get_or kept i [])) kept m' kept' → length kept' ≡ length kept
        → Laid s (only_if x (get_or kept i [])) front s' front' → length front' ≡ length front → Parting cs q n from kept' front' planes' m' s' (i + 1)
    parting_more {kept'} {front'} {planes'} {m'} {s'} {x} t w d a c b z =
        let o : PlanedAt cs kept planes i = g.rest i (omega arith) h in
        let v : x ≡ in_front cs q (get_or kept i []) = t ∙ front_read o q in
        let u : x ≡ in_front cs q (get_or from i []) = v ∙ ap (in_front cs q) next_face in
        let more : keep (in_front cs q) (take i from) ++ only_if x (get_or kept i []) ≡ keep (in_front cs q) (take (i + 1) from) =
        ap₂ (λ (y : Bool) (f : Face). keep (in_front cs q) (take i from) ++ only_if y f) u next_face ∙ sym (keep_more (in_front cs q) from i [] (omega arith)) in
        record {
          within = omega arith;
          kept_long = c ∙ g.kept_long;
          front_long = omega (arith, z, g.front_long);
          planes_long = omega (arith, d, g.planes_long);
          stay = laid_keep (behind cs q) from i [] (not x) (get_or kept i []) (omega arith) next_face (ap not v) g.stay a;
          gone = laid_take b (omega (arith, front_few, g.front_long)) ∙ ap (λ (l : List Face). l ++ only_if x (get_or kept i [])) g.gone ∙ more;
          count = b.next ∙ ap (λ (y : ℕ). y + length (only_if x (get_or kept i []))) g.count ∙ sym (length-append (keep (in_front cs q) (take i from)) (only_if x (get_or kept i []))) ∙ ap length more;
          planed = rw (w, a.table, a.next) (put_planed (get_or kept i []) (get_or planes i no_plane) kept_place planes_place o.is (not x) g.planed);
          rest = λ j f y. rw (w, a.table) (put_apart (get_or kept i []) (get_or planes i no_plane) kept_place planes_place (not x) (λ r. absurd (omega (arith, r, kept_few))) (g.rest j (omega arith) y));
        }

    -- it goes to the faces seen
    pub parting_seen : lt_z (read_at (get_or planes i no_plane) q) (pos 0) ≡ true → Parting cs q n from kept (set front s (get_or kept i [])) planes m (s + 1) (i + 1)
    parting_seen t = parting_more (sym t) (sym (lay_none m planes)) refl (laid_none m kept) refl (laid_one s (get_or kept i []) front front_place) (length-set front s (get_or kept i []))

    -- or stays, with its plane
    pub parting_kept : lt_z (read_at (get_or planes i no_plane) q) (pos 0) ≡ false → Parting cs q n from (set kept m (get_or kept i [])) front (set planes m (get_or planes i no_plane)) (m + 1) s (i + 1)
    parting_kept t =
        parting_more (sym t) (sym (lay_one m (get_or planes i no_plane) planes planes_place)) (length-set planes m (get_or planes i no_plane)) (laid_one m (get_or kept i []) kept kept_place) (length-set kept m (get_or kept i [])) (laid_none s front) refl

  pub parting_all : {k : ℕ} → q ≡ touch cs k → n ≤ i → PartOf cs (take n from) k from m kept s front
  unfolding seen unseen visible
  parting_all {k} e h =
      let l : n ≡ i = omega (arith, g.within) in
      rw l (record { stay = rw e at g.stay; gone = rw e at g.gone; count = rw e at g.count })

-- the first of them goes to the front, if there is one
module _ {cs : List ℤ} (q : Point) {n : ℕ} {from : List Face} {planes : List Plane} (a : n ≤ length from) (b : n ≤ length planes) (p : Planed cs n from planes) (front : List Face) (l : n ≤ length front) where
  pub parting_first : {i : ℕ} → Some i ≡ position (λ w. lt_z (read_at w q) (pos 0)) (take n planes) → Parting cs q n from from (set front 0 (get_or from i [])) planes i 1 (i + 1)
  parting_first {i} e =
      let f = front_at planes q b e in
      parting_seen (parting_none a b p (omega (arith, f.0)) q f.2 front l) f.0 a f.1

  pub parting_nothing : None ≡ position (λ w. lt_z (read_at w q) (pos 0)) (take n planes) → {k : ℕ} → q ≡ touch cs k → PartOf cs (take n from) k from n from 0 front
  parting_nothing e t = parting_all (parting_none a b p (omega arith) q (front_nowhere planes q b e) front l) t (omega arith)
