-- Of every hull: a place on or inside it and on the plane of a face is in the triangle of a face (02 A5), no two triangles overlap, and n touches give at most 2n − 4 faces.
use mathlib.Core.Path.{◌≡◌}
use mathlib.Core.List.{List}
use mathlib.Core.Option.{some}
use Prim.Native.Nat.{ℕ, ◌<◌, ◌≤◌}
use native.Mathlib.Omega.{arith}
use lib.Dec.{T_not}
use lib.ListN.{length}
use Rattle.laws.specs.Lists.{In}
use Rattle.touches.specs.declared.Point.{Point}
use Rattle.rules.specs.Faces.{Face, Places}
use Rattle.rules.specs.Start.{Start, start}
use Rattle.rules.specs.Building.{after, hull}
use Rattle.rules.specs.Placing.{astray, holds, lies}
use Rattle.rules.specs.Demands.{OnOrInside, OnPlane}
use Rattle.rules.proofs.StartLaws.{started}
use Rattle.rules.proofs.AfterLaws.{after_hull, taken_below}
use Rattle.rules.proofs.SurfaceLaws.{whole_hull, number_below}
use Rattle.rules.proofs.HoldsLaws.{holds_exact}
use Rattle.rules.proofs.PlaceLaws.{lies_astray}
use Rattle.cover.specs.Triangles.{InFace, NoOverlap, InsideOneOrOnBorder}
use Rattle.cover.specs.Room.{enough}
use Rattle.cover.proofs.CoverLaws.{after_covered, hull_covered}
use Rattle.cover.proofs.MixedLaws.{mixed}
use Rattle.cover.proofs.OverlapLaws.{no_overlap, inside_one}
use Rattle.cover.proofs.FewFaces.{few_faces}

pub hull_mixed : (p : Places) (n : ℕ) {h : List Face} → hull p n ≡ some h → (q : Point) → OnOrInside p h q → OnPlane p h q → (g : Face) × In g h × InFace p g q
hull_mixed p n e q within plane = let c = hull_covered p n e in mixed (whole_hull p n e) c.0 c.1 q within plane

-- no place is astray
pub never_astray : (p : Places) (n : ℕ) {h : List Face} → hull p n ≡ some h → (q : Point) → lies p h q ≡ astray → ⊥
never_astray p n {h} e q a = let u = (lies_astray p h q).0 a in let g = hull_mixed p n e q u.0 u.1 in
    T_not (holds p g.0 q) (u.2 g.0 g.1) ((holds_exact p g.0 q).1 g.2)

-- no two triangles overlap, after every step and in every hull
pub after_no_overlap : (p : Places) (n : ℕ) {s : Start} → start p n ≡ some s → (ks : List ℕ) → NoOverlap p (after p s ks)
after_no_overlap p n e ks = let c = after_covered p n e ks in no_overlap (after_hull (started p n e) ks) c.0 c.2

pub hull_no_overlap : (p : Places) (n : ℕ) {h : List Face} → hull p n ≡ some h → NoOverlap p h
hull_no_overlap p n e = let c = hull_covered p n e in no_overlap (whole_hull p n e) c.0 c.2

-- a place in a triangle is inside it and in no other, or on its border
pub after_inside_one : (p : Places) (n : ℕ) {s : Start} → start p n ≡ some s → (ks : List ℕ) → {f : Face} → In f (after p s ks) → {q : Point} → InFace p f q → InsideOneOrOnBorder p (after p s ks) f q
after_inside_one p n e ks = let c = after_covered p n e ks in inside_one (after_hull (started p n e) ks) c.0 c.2

pub hull_inside_one : (p : Places) (n : ℕ) {h : List Face} → hull p n ≡ some h → {f : Face} → In f h → {q : Point} → InFace p f q → InsideOneOrOnBorder p h f q
hull_inside_one p n e = let c = hull_covered p n e in inside_one (whole_hull p n e) c.0 c.2

-- at most 2n − 4 faces, after every step and in every hull
pub after_few : (p : Places) (n : ℕ) {s : Start} → start p n ≡ some s → (ks : List ℕ) → ((k : ℕ) → In k ks → k < n) → length (after p s ks) ≤ enough n
after_few p n e ks below = let c = after_covered p n e ks in let z = started p n e in omega (arith, few_faces (after_hull z ks) c.0 c.1 c.2 n (taken_below z ks below))

pub hull_few : (p : Places) (n : ℕ) {h : List Face} → hull p n ≡ some h → length h ≤ enough n
hull_few p n e = let c = hull_covered p n e in omega (arith, few_faces (whole_hull p n e) c.0 c.1 c.2 n (number_below p n e))
