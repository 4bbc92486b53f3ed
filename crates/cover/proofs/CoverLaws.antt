-- Seen from the mean of the four starting touches, after every run of the construction: every direction is in the cone of some face, and inside that of one face only.
use mathlib.Core.Path.{◌≡◌, sym, subst}
use mathlib.Core.List.{List, ◌++◌}
use mathlib.Core.Option.{some}
use Prim.Native.Nat.{ℕ}
use native.Mathlib.Omega.{arith}
use lib.IntN.{ℤ, pos}
use lib.Signed.{◌<ℤ◌, lt_z_yes}
use Rattle.laws.specs.Lists.{In, Pw, upward}
use Rattle.laws.proofs.Order.{≡→≤}
use Rattle.laws.proofs.Members.{append_l, append_r, Pw-weak}
use Rattle.laws.proofs.Firsts.{upward_in}
use Rattle.laws.proofs.Sums.{some_pos, one_pos}
use Rattle.touches.specs.declared.Point.{Point}
use Rattle.rules.specs.Faces.{Face, Places, corner}
use Rattle.rules.specs.Start.{Start, start}
use Rattle.rules.specs.Building.{after, others, hull}
use Rattle.rules.specs.Demands.{CornersIn}
use Rattle.rules.proofs.Hull.{Hull}
use Rattle.rules.proofs.StartLaws.{Started, started, solid}
use Rattle.rules.proofs.CornerLaws.{starters, starters_below}
use Rattle.rules.proofs.AfterLaws.{after_hull, hull_built, all_taken, others_below}
use Rattle.cover.specs.Cones.{InCone, InsideCone, Centre, Covers, Once}
use Rattle.cover.proofs.Hits.{face_hit, hits, Outward, hit→, →hit, hit_nonneg, Clear}
use Rattle.cover.proofs.Nearby.{Near, near_above, near_back, plane, planes, plane_in, clear_near}
use Rattle.cover.proofs.CentreLaws.{ray, centre, turned}
use Rattle.cover.proofs.RunCount.{run_count}

-- ---- a place r near x, and the cone of a face over the touches done
module _ {v : Places} {done : List ℕ} {x r : Point} (n : Near (planes v done) x r) {f : Face} (own : CornersIn (λ t. In t done) f) where
  -- what is inside it at x is so at r
  pub cone_near : InsideCone v f x → InsideCone v f r
  cone_near c = record {
    outward = c.outward;
    ab = near_above n (plane v done (corner f 0) (corner f 1) (corner f 2)) (plane_in v done own.a own.b own.c) c.ab;
    bc = near_above n (plane v done (corner f 1) (corner f 2) (corner f 0)) (plane_in v done own.b own.c own.a) c.bc;
    ca = near_above n (plane v done (corner f 2) (corner f 0) (corner f 1)) (plane_in v done own.c own.a own.b) c.ca;
  }

  -- what is inside it at r is in it at x
  near_cone : InsideCone v f r → InCone v f x
  near_cone c = record {
    outward = c.outward;
    ab = near_back n (plane v done (corner f 0) (corner f 1) (corner f 2)) (plane_in v done own.a own.b own.c) c.ab;
    bc = near_back n (plane v done (corner f 1) (corner f 2) (corner f 0)) (plane_in v done own.b own.c own.a) c.bc;
    ca = near_back n (plane v done (corner f 2) (corner f 0) (corner f 1)) (plane_in v done own.c own.a own.b) c.ca;
  }

-- ---- where every clear place is counted once
module _ (v : Places) (done : List ℕ) (h : List Face) (up : Outward v h) (own : (f : Face) → In f h → CornersIn (λ t. In t done) f) (one : (x : Point) → Clear v done x → hits v x h ≡ pos 1) where
  inner : (f : Face) (x : Point) → In f h → pos 0 <ℤ face_hit v x f → InsideCone v f x
  inner f x m k = let t = hit→ (v (corner f 0)) (v (corner f 1)) (v (corner f 2)) x (up f m) k in record { outward = up f m; ab = t.0; bc = t.1; ca = t.2 }

  counted : (f : Face) (x : Point) → InsideCone v f x → pos 0 <ℤ face_hit v x f
  counted f x c = →hit (v (corner f 0)) (v (corner f 1)) (v (corner f 2)) x c.outward c.ab c.bc c.ca

  covers : (x : Point) → (f : Face) × In f h × InCone v f x
  covers x = let t = clear_near v done x in
      let u = some_pos (face_hit v t.0) h (subst (λ (z : ℤ). pos 0 <ℤ z) (sym (one t.0 t.2)) (lt_z_yes tt)) in
      (u.0, u.1, near_cone t.1 (own u.0 u.1) (inner u.0 t.0 u.1 u.2))

  -- two cones that have x inside would both count a clear place near it
  once : Pw (λ f g. (x : Point) → InsideCone v f x → InsideCone v g x → ⊥) h
  once = Pw-weak h (λ f g i j r x c d. let t = clear_near v done x in
      r (t.0, t.2) (counted f t.0 (cone_near t.1 (own f i) c)) (counted g t.0 (cone_near t.1 (own g j) d)))
      (one_pos {X = (x : Point) × Clear v done x} (λ x. face_hit v x.0) h (λ x. ≡→≤ (one x.0 x.1)) (λ x f m. hit_nonneg (v (corner f 0)) (v (corner f 1)) (v (corner f 2)) x.0 (up f m)))

-- ---- so it is for the touches done of a run
module _ {p : Places} {n : ℕ} {s : Start} (z : Started p n s) (ks : List ℕ) {done : List ℕ} (H : Hull p done (after p s ks)) (first : (t : ℕ) → In t (starters s) → In t done) (more : (k : ℕ) → In k ks → In k done) where
  covered : (c : Centre p done) × Covers c (after p s ks) × Once c (after p s ks)
  covered = (centre p s (solid z) first, covers (ray p s) done (after p s ks) up H.corners one, once (ray p s) done (after p s ks) up H.corners one)
    where
      up : Outward (ray p s) (after p s ks)
      up = turned (centre p s (solid z) first) H

      one : (x : Point) → Clear (ray p s) done x → hits (ray p s) x (after p s ks) ≡ pos 1
      one x g = run_count p s (solid z) g first ks more

-- after the start and any further touches
pub after_covered : (p : Places) (n : ℕ) {s : Start} → start p n ≡ some s → (ks : List ℕ) → (c : Centre p (ks ++ starters s)) × Covers c (after p s ks) × Once c (after p s ks)
after_covered p n {s} e ks = let z = started p n e in covered z ks (after_hull z ks) (λ t i. append_r ks i) (λ k i. append_l (starters s) i)

-- of the hull of n touches
pub hull_covered : (p : Places) (n : ℕ) {h : List Face} → hull p n ≡ some h → (c : Centre p (upward 0 n)) × Covers c h × Once c h
hull_covered p n {h} e = let t = hull_built p n e in let z = started p n t.1 in
    subst (λ (g : List Face). (c : Centre p (upward 0 n)) × Covers c g × Once c g) t.2
    (covered z (others t.0 n) (all_taken z) (λ k i. upward_in 0 n k (omega arith) (omega (arith, starters_below z k i))) (λ k i. upward_in 0 n k (omega arith) (omega (arith, others_below t.0 n k i))))
