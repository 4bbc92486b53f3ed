-- Demand 1 of the calls on touches: each is refused with the first number of its order that applies.
use mathlib.Core.Path.{◌≡◌, refl, sym, ap, ◌∙◌}
use mathlib.Core.Logic.{◌↔◌}
use mathlib.Core.List.{List}
use mathlib.Core.Option.{Option, none, some}
use Prim.Native.Nat.{ℕ, ◌<◌, ◌≤◌}
use native.Mathlib.Decide.{dec_le}
use native.Mathlib.Omega.{arith}
use borrow.Author.Tests.{le-leb, lt-leb}
use lib.IntN.{ℤ, neg_ℤ}
use lib.ListN.{length}
use Rattle.std.specs.Prelude.{Float, Result, Ok, Err}
use Rattle.laws.specs.Doubles.{double}
use Rattle.laws.proofs.Firsts.{no_some}
use Rattle.touches.specs.declared.Point.{Point}
use Rattle.touches.specs.declared.refusal.Refusal.{Refusal}
use Rattle.touches.specs.declared.refusal.Refusal.TheVariants.{AllTouchesOnOnePlane, FaceTableTooSmall, NoSuchFace, PlaceOutOfRange, PlaceInNoTriangle}
use Rattle.touches.specs.Limits.{place_in_range}
use Rattle.touches.specs.Touches.{touch, touch_count, Near}
use Rattle.touches.specs.Refusals.{all_touches_on_one_plane, face_table_too_small, no_such_face, place_out_of_range, place_in_no_triangle}
use Rattle.touches.specs.Check.{pick}
use Rattle.volume.specs.Volume.{Vol}
use Rattle.rules.specs.Faces.{Face, Places}
use Rattle.rules.specs.Building.{volume}
use Rattle.rules.specs.Placing.{Lies, outside, on, inside, astray, lies}
use Rattle.rules.specs.Plumb.{plumb}
use Rattle.rules.specs.Demands.{Astray}
use Rattle.rules.proofs.PlaceLaws.{lies_astray}
use Rattle.rules.proofs.Theorems.{flat_exact, one_result}
use Rattle.table.specs.Table.{room, faces_in, usable}
use Rattle.planes.specs.Planes.{plane_of, good_corners, face_plane, planed, plane_reading}
use Rattle.hull.specs.Build.{hull_of, hull_with, built_from, built}
use Rattle.hull.specs.Place.{placed_by, placed}
use Rattle.plumb.specs.Plumb.{plumbed_by, plumbed_over, plumbed}
use Rattle.demands.specs.Demands.{first, never, at0, Usable, IsFace, InRange, AllFlat, NoRoom, build_order, place_order, plane_order, reading_order, plumb_order}
use Rattle.demands.proofs.FirstLaws.{given_never, where_so, tested}
use Rattle.demands.proofs.ReasonLaws.{near_tests, column_tests, face_tests, table_tests}
use Rattle.demands.proofs.ListLaws.{of_list}

-- ---- an answer of the rules is no refusal, unless the place is astray
pub place_never : (l : Lies) → (l ≡ astray → ⊥) → (r : Refusal) → (placed_by l ≡ Err r) ↔ never r
place_never (outside f d) n r = given_never _ r
place_never (on f) n r = given_never _ r
place_never inside n r = given_never _ r
place_never astray n r = absurd (n refl)

is_astray : (l : Lies) → Dec (l ≡ astray)
is_astray (outside f d) = no (λ e. cc)
is_astray (on f) = no (λ e. cc)
is_astray inside = no (λ e. cc)
is_astray astray = yes refl

-- 17, where the place is astray
astray_first : (p : Places) (h : List Face) (q : Point) (r : Refusal) → (placed_by (lies p h q) ≡ Err r) ↔ first place_in_no_triangle (at0 (Astray p h q)) never r
astray_first p h q = where_so (Astray p h q) PlaceInNoTriangle (placed_by (lies p h q)) never refl (decide (is_astray (lies p h q)))
    (λ a. ap placed_by ((lies_astray p h q).1 a)) (λ n. place_never (lies p h q) (λ e. n ((lies_astray p h q).0 e)))
  where
    decide : Dec (lies p h q ≡ astray) → Dec (Astray p h q)
    decide (yes e) = yes ((lies_astray p h q).0 e)
    decide (no d) = no (λ a. d ((lies_astray p h q).1 a))

-- ---- place, plane, reading
pub place_first : (cs : List ℤ) (t : List ℕ) (q : Point) (r : Refusal) → (placed cs t q ≡ Err r) ↔ place_order cs t q r
place_first cs t q =
    let x = placed_by (lies (touch cs) (faces_in t) q) in
    let y = pick (place_in_range q) x (Err PlaceOutOfRange) in
    let last = first place_in_no_triangle (at0 (Astray (touch cs) (faces_in t) q)) never in
    let seven = first place_out_of_range (at0 (Near q → ⊥)) last in
    of_list cs (pick (usable (touch_count cs) t) y (Err NoSuchFace)) (first no_such_face (at0 (Usable (touch_count cs) t → ⊥)) seven)
    (λ d. tested (table_tests cs t) NoSuchFace y seven refl
    (tested (near_tests q) PlaceOutOfRange x last refl (astray_first (touch cs) (faces_in t) q)))

pub plane_first : (cs : List ℤ) (a b c : ℕ) (r : Refusal) → (planed cs a b c ≡ Err r) ↔ plane_order cs a b c r
plane_first cs a b c =
    let p = plane_of (touch cs a) (touch cs b) (touch cs c) in
    of_list cs (face_plane cs a b c) (first no_such_face (at0 (IsFace cs a b c → ⊥)) never)
    (λ d. tested (face_tests cs a b c) NoSuchFace (Ok p) never refl (given_never p))

pub reading_first : (cs : List ℤ) (a b c : ℕ) (q : Point) (r : Refusal) → (plane_reading cs a b c q ≡ Err r) ↔ reading_order cs a b c q r
reading_first cs a b c q =
    let x = double (neg_ℤ (Vol (touch cs a) (touch cs b) (touch cs c) q)) in
    let y : Result Float Refusal = pick (place_in_range q) (Ok x) (Err PlaceOutOfRange) in
    let seven = first place_out_of_range (at0 (Near q → ⊥)) never in
    of_list cs (pick (good_corners cs a b c) y (Err NoSuchFace)) (first no_such_face (at0 (IsFace cs a b c → ⊥)) seven)
    (λ d. tested (face_tests cs a b c) NoSuchFace y seven refl
    (tested (near_tests q) PlaceOutOfRange (Ok x) never refl (given_never x)))

-- ---- the two calls that build: refusal 4, then what they say of the hull
module _ {A : Type 0} (cs : List ℤ) (x : Option (List Face) → Result A Refusal) (flat : x none ≡ Err AllTouchesOnOnePlane)
    (later : Refusal → Type 0) (h : (g : List Face) → hull_of cs ≡ some g → (r : Refusal) → (x (some g) ≡ Err r) ↔ later r) where
  of_hull : (r : Refusal) → (x (hull_of cs) ≡ Err r) ↔ first all_touches_on_one_plane (at0 (AllFlat cs)) later r
  of_hull = go (hull_of cs) refl
    where
      go : (o : Option (List Face)) → hull_of cs ≡ o → (r : Refusal) → (x o ≡ Err r) ↔ first all_touches_on_one_plane (at0 (AllFlat cs)) later r
      go none e = let f = (flat_exact (touch cs) (touch_count cs)).0 e in where_so (AllFlat cs) AllTouchesOnOnePlane (x none) later refl (yes f) (λ u. flat) (λ d. absurd (d f))
      go (some g) e = let d : AllFlat cs → ⊥ = λ f. no_some (sym ((flat_exact (touch cs) (touch_count cs)).1 f) ∙ e) in
          where_so (AllFlat cs) AllTouchesOnOnePlane (x (some g)) later refl (no d) (λ f. absurd (d f)) (λ u. h g e)

pub build_first : (cs : List ℤ) (old : List ℕ) (r : Refusal) → (built cs old ≡ Err r) ↔ build_order cs old r
build_first cs old =
    let five = first face_table_too_small (at0 (NoRoom cs old)) never in
    of_list cs (built_from (touch cs) (room old) (hull_of cs)) (first all_touches_on_one_plane (at0 (AllFlat cs)) five)
    (λ d. of_hull cs (built_from (touch cs) (room old)) refl five fits)
  where
    fits : (g : List Face) → hull_of cs ≡ some g → (r : Refusal) → (built_from (touch cs) (room old) (some g) ≡ Err r) ↔ first face_table_too_small (at0 (NoRoom cs old)) never r
    fits g e = go (dec_le (length g) (room old))
      where
        lacks : length g ≤ room old → NoRoom cs old → ⊥
        lacks l u = let z : length u.0 ≡ length g = ap length (one_result u.1 e) in omega (arith, u.2)

        go : Dec (length g ≤ room old) → (r : Refusal) → (built_from (touch cs) (room old) (some g) ≡ Err r) ↔ first face_table_too_small (at0 (NoRoom cs old)) never r
        go (no f) = let l : room old < length g = omega (arith, f) in
            where_so (NoRoom cs old) FaceTableTooSmall (built_from (touch cs) (room old) (some g)) never refl (yes (g, e, l)) (λ u. rw (lt-leb (length g) (room old) l)) (λ u. absurd (u (g, e, l)))
        go (yes l) = where_so (NoRoom cs old) FaceTableTooSmall (built_from (touch cs) (room old) (some g)) never refl (no (lacks l)) (λ u. absurd (lacks l u))
            (λ u. rw (le-leb (length g) (room old) l) (given_never (hull_with (length g) (volume (touch cs) g))))

pub plumb_first : (cs : List ℤ) (x y : ℤ) (r : Refusal) → (plumbed cs x y ≡ Err r) ↔ plumb_order cs x y r
plumb_first cs x y =
    let seven = first place_out_of_range (at0 (InRange x × InRange y → ⊥)) never in
    of_list cs (plumbed_over cs x y (hull_of cs)) (first all_touches_on_one_plane (at0 (AllFlat cs)) seven)
    (λ d. of_hull cs (plumbed_over cs x y) refl seven
    (λ g e. let l = plumbed_by (plumb (touch cs) g x y) in tested (column_tests x y) PlaceOutOfRange (Ok l) never refl (given_never l)))
