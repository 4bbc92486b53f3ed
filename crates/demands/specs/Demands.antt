-- The demands, said of what the calls give: each sentence is one field of `Demands`, the last record here.
-- A call is named by the definition that its promise equals: checked, built, placed, planed, plane_reading, plumbed, and of records read, written, copied (below). That every call ends, whoever makes it and with whatever lists, is the toolchain's own proof.
use Rattle.std.specs.Prelude.{◌≡◌, ◌↔◌, ◌⊎◌, ◌≢◌, false, List, [], ◌++◌, ℕ, ◌+◌, ◌-◌, ◌*◌, ◌%◌, ◌<◌, ◌≤◌, ℤ, pos, neg_ℤ, ◌≤ℤ◌, ◌<ℤ◌, Float, length, take, drop, get_or, Result, Ok, Err}
use Rattle.std.proofs.Math.Option.{Option, none, some}
use Rattle.laws.specs.Numbers.{Within}
use Rattle.laws.specs.Lists.{In}
use Rattle.laws.specs.Doubles.{double, plus_zero, Exactly}
use Rattle.touches.specs.declared.FaceNo.{FaceNo}
use Rattle.touches.specs.declared.Point.{Point}
use Rattle.touches.specs.declared.refusal.Refusal.{Refusal}
use Rattle.touches.specs.declared.refusal.Refusal.TheVariants.{AllTouchesOnOnePlane, FaceTableTooSmall, PlaceInNoTriangle}
use Rattle.touches.specs.Limits.{most_touches, most_faces, reach}
use Rattle.touches.specs.Touches.{touch, touch_count, Near, Sound, FirstStray}
use Rattle.touches.specs.Refusals.{number, place as touch_of, coordinates_not_in_threes, too_many_touches, coordinate_out_of_range, all_touches_on_one_plane, face_table_too_small, no_such_face, place_out_of_range, place_in_no_triangle, record_length_wrong, record_version_unknown, record_touch_cut_short, touch_room_too_small, record_room_too_small}
use Rattle.touches.specs.Check.{checked, checked_count}
use Rattle.volume.specs.Volume.{Vol, normal, offset, in_line}
use Rattle.rules.specs.Faces.{Face, corner}
use Rattle.rules.specs.Building.{volume}
use Rattle.rules.specs.Demands.{Flat, Closed, FaceOf, OnOrInside, Inside as BehindAll, Outside as InFrontOfSome, Worst, FirstHolding, Astray, Case, outside_case, on_case, inside_case, case_before}
use Rattle.rules.specs.Plumb.{Fraction}
use Rattle.rules.specs.Heights.{over, whole, AtMost, Below, Equal, NoneRefuses, Spans}
use Rattle.cover.specs.Triangles.{InFace, NoOverlap, InsideOneOrOnBorder}
use Rattle.cover.specs.Room.{enough}
use Rattle.cover.specs.Sets.{SamePlaces}
use Rattle.table.specs.Table.{stride, room, first_faces, faces_in}
use Rattle.hull.specs.Build.{hull_of, hull_with, built, table_after, built_count}
use Rattle.hull.specs.Place.{placed}
use Rattle.hull.specs.declared.place.Placed.{Placed}
use Rattle.hull.specs.declared.place.Placed.TheVariants.{Outside, On, Inside}
use Rattle.planes.specs.Planes.{planed, plane_reading}
use Rattle.planes.specs.declared.Plane.{Plane}
use Rattle.plumb.specs.Plumb.{rounded, plumbed}
use Rattle.plumb.specs.declared.Plumbed.{Plumbed}
use Rattle.plumb.specs.declared.Plumbed.TheVariants.{Misses, Touches as Grazes, Through}
use Rattle.records.specs.Record.{plain_version, record_of, count_in, version_in, touches_in, AreBytes}
use Rattle.records.specs.Answers.{read_of, write_of, copy_of, list_after, buffer_after}

-- ==== 1: bad input gets the number that the paper gives it, the first that applies
-- r is number n, at a place k where `reason k` holds; where it holds at no place, r is what the later numbers say
abbrev pub first : ℕ → (ℕ → Type 0) → (Refusal → Type 0) → Refusal → Type 0
first n reason later r = ((number r ≡ n) × reason (touch_of r).0) ⊎ (((k : ℕ) → reason k → ⊥) × later r)

-- no number is left: the call is not refused
abbrev pub never : Refusal → Type 0
never r = ⊥

-- a reason that speaks of no touch has place 0
abbrev pub at0 : Type 0 → ℕ → Type 0
at0 reason k = (k ≡ 0) × reason

-- ---- the reasons
-- 2: more than 64 touches
abbrev pub TooMany : List ℤ → Type 0
TooMany cs = most_touches * 3 < length cs

-- 4: every four touches have V = 0
abbrev pub AllFlat : List ℤ → Type 0
AllFlat cs = Flat (touch cs) (touch_count cs)

-- 5: the hull's faces are more than the lent table has room for
abbrev pub NoRoom : List ℤ → List ℕ → Type 0
NoRoom cs old = (h : List Face) × (hull_of cs ≡ some h) × (room old < length h)

-- 6: unless a table has whole faces, at least one and at most 1,344, and each of its numbers is one of n touches
pub record Usable (n : ℕ) (t : List ℕ) : Type 0 where
  pub filled : 0 < length t
  pub whole : length t % stride ≡ 0
  pub few : room t ≤ most_faces
  pub touches : (i : ℕ) → i < length t → get_or t i 0 < n

-- 6, of a single face: unless its corners are touches, not in line
pub record IsFace (cs : List ℤ) (a b c : ℕ) : Type 0 where
  pub first_corner : a < touch_count cs
  pub second_corner : b < touch_count cs
  pub third_corner : c < touch_count cs
  pub off_line : in_line (touch cs a) (touch cs b) (touch cs c) ≡ false

-- 7, of the plumb line: unless x and y are in range
abbrev pub InRange : ℤ → Type 0
InRange x = Within reach x

-- 8: unless the record has three bytes or more and n is the count of bytes that follow it
abbrev pub Sized : List ℕ → Type 0
Sized b = (3 ≤ length b) × (count_in b ≡ length b - 2)

-- ---- each call's numbers, in its order
-- 1, 2, 3 of a coordinate list, then the call's own
abbrev pub list_order : List ℤ → (Refusal → Type 0) → Refusal → Type 0
list_order cs later = first coordinates_not_in_threes (at0 (length cs % 3 ≢ 0)) (first too_many_touches (at0 (TooMany cs)) (first coordinate_out_of_range (FirstStray cs) later))

-- 1, 2, 3, 4, 5
abbrev pub build_order : List ℤ → List ℕ → Refusal → Type 0
build_order cs old = list_order cs (first all_touches_on_one_plane (at0 (AllFlat cs)) (first face_table_too_small (at0 (NoRoom cs old)) never))

-- 1, 2, 3, 6, 7, 17
abbrev pub place_order : List ℤ → List ℕ → Point → Refusal → Type 0
place_order cs t q =
    list_order cs (first no_such_face (at0 (Usable (touch_count cs) t → ⊥))
    (first place_out_of_range (at0 (Near q → ⊥))
    (first place_in_no_triangle (at0 (Astray (touch cs) (faces_in t) q)) never)))

-- 1, 2, 3, 6
abbrev pub plane_order : List ℤ → ℕ → ℕ → ℕ → Refusal → Type 0
plane_order cs a b c = list_order cs (first no_such_face (at0 (IsFace cs a b c → ⊥)) never)

-- 1, 2, 3, 6, 7
abbrev pub reading_order : List ℤ → ℕ → ℕ → ℕ → Point → Refusal → Type 0
reading_order cs a b c q = list_order cs (first no_such_face (at0 (IsFace cs a b c → ⊥)) (first place_out_of_range (at0 (Near q → ⊥)) never))

-- 1, 2, 3, 4, 7
abbrev pub plumb_order : List ℤ → ℤ → ℤ → Refusal → Type 0
plumb_order cs x y = list_order cs (first all_touches_on_one_plane (at0 (AllFlat cs)) (first place_out_of_range (at0 (InRange x × InRange y → ⊥)) never))

-- 8, 9, 10, 2, 3 of a record, then the call's own
abbrev pub record_order : List ℕ → (Refusal → Type 0) → Refusal → Type 0
record_order b later =
    first record_length_wrong (at0 (Sized b → ⊥))
    (first record_version_unknown (at0 (version_in b ≢ plain_version))
    (first record_touch_cut_short (at0 ((count_in b - 1) % 6 ≢ 0))
    (first too_many_touches (at0 (TooMany (touches_in b)))
    (first coordinate_out_of_range (FirstStray (touches_in b)) later))))

-- 8, 9, 10, 2, 3, 11
abbrev pub read_order : List ℕ → List ℤ → Refusal → Type 0
read_order b old = record_order b (first touch_room_too_small (at0 (length old < touch_count (touches_in b) * 3)) never)

-- 1, 2, 3, 12
abbrev pub write_order : List ℤ → List ℕ → Refusal → Type 0
write_order cs old = list_order cs (first record_room_too_small (at0 (length old < 3 + 6 * touch_count cs)) never)

-- 8, 9, 10, 2, 3, 12
abbrev pub copy_order : List ℕ → List ℕ → Refusal → Type 0
copy_order b old = record_order b (first record_room_too_small (at0 (length old < 3 + 6 * touch_count (touches_in b))) never)

-- ---- what the record calls answer, given what is lent to them: they read and write version 1; read gives a count of touches, written and copied one of bytes
abbrev pub read : List ℕ → List ℤ → Result ℕ Refusal
read b old = read_of plain_version b (length old)

abbrev pub written : List ℤ → List ℕ → Result ℕ Refusal
written cs old = write_of cs (length old)

abbrev pub copied : List ℕ → List ℕ → Result ℕ Refusal
copied b old = copy_of plain_version b (length old)

-- ---- what a lent table holds after a call, and held as old before it
abbrev pub after_build : List ℤ → List ℕ → List ℕ
after_build cs old = table_after (built cs old) (hull_of cs) old

abbrev pub after_read : List ℕ → List ℤ → List ℤ
after_read b old = list_after (read b old) (touches_in b) old

abbrev pub after_write : List ℤ → List ℕ → List ℕ
after_write cs old = buffer_after (written cs old) (record_of plain_version cs) old

abbrev pub after_copy : List ℕ → List ℕ → List ℕ
after_copy b old = buffer_after (copied b old) b old

-- ==== 2: building was accepted, with n faces and the volume v
-- the part of the table that holds the faces, and the triangles there
abbrev pub front : List ℤ → List ℕ → List ℕ
front cs old = first_faces (built_count (built cs old)) (after_build cs old)

abbrev pub triangles : List ℤ → List ℕ → List Face
triangles cs old = faces_in (front cs old)

pub record IsHull (cs : List ℤ) (old : List ℕ) (n : ℕ) (v : ℤ) : Type 0 where
  -- the triangle list equals the textbook's incremental hull, in the stated order
  pub textbook : hull_of cs ≡ some (triangles cs old)
  -- every directed side occurs once and its reverse once
  pub closed : Closed (triangles cs old)
  -- every touch lies on or behind every face
  pub behind : (t : ℕ) → t < touch_count cs → OnOrInside (touch cs) (triangles cs old) (touch cs t)
  -- a face is three touches of the list, not in line
  pub corners : (f : Face) → In f (triangles cs old) → FaceOf cs f
  pub off_line : (f : Face) → In f (triangles cs old) → in_line (touch cs (corner f 0)) (touch cs (corner f 1)) (touch cs (corner f 2)) ≡ false
  -- no two triangles overlap
  pub no_overlap : NoOverlap (touch cs) (triangles cs old)
  -- n counts the triangles: at most the lent room, and of t touches at most 2t − 4, so at most 124
  pub count : n ≡ length (triangles cs old)
  pub fits : n ≤ room old
  pub few : n ≤ enough (touch_count cs)
  pub most : n ≤ enough most_touches
  -- v is the sum of V(face, touch 0), and above zero
  pub sum : v ≡ volume (touch cs) (triangles cs old)
  pub positive : pos 0 <ℤ v
  -- the rest of the table is as it was
  pub rest : drop (n * stride) (after_build cs old) ≡ drop (n * stride) old
  pub long : length (after_build cs old) ≡ length old

-- ==== 3: more touches at the end
-- where placing finds q, against what building wrote
abbrev pub place : List ℤ → List ℕ → Point → Result Placed Refusal
place cs old q = placed cs (front cs old) q

-- some touch of M is outside the hull that building wrote for L
abbrev pub SomeOutside : List ℤ → List ℕ → List ℤ → Type 0
SomeOutside L old M = (t : ℕ) × (t < touch_count M) × (f : FaceNo) × (d : ℤ) × (place L old (touch M t) ≡ Ok (Outside f d))

-- L was accepted, with n faces and the volume v, and so was L ++ M, with m faces and the volume w
pub record Grows (L M : List ℤ) (old new : List ℕ) (n m : ℕ) (v w : ℤ) : Type 0 where
  -- inside stays inside: a place that is out of range is inside neither
  pub inside : (q : Point) → place L old q ≡ Ok Inside → place (L ++ M) new q ≡ Ok Inside
  -- on stays on or inside
  pub on : (q : Point) (f : FaceNo) → place L old q ≡ Ok (On f) → (place (L ++ M) new q ≡ Ok Inside) ⊎ ((g : FaceNo) × (place (L ++ M) new q ≡ Ok (On g)))
  -- the volume never falls, and rises exactly if an added touch is outside
  pub keeps : v ≤ℤ w
  pub rises : (v <ℤ w) ↔ SomeOutside L old M
  -- else the list is the same
  pub same : (SomeOutside L old M → ⊥) → (m ≡ n) × (front (L ++ M) new ≡ front L old)

-- ==== 01: exactly the whole number
pub record ExactPlane (a b c : Point) (p : Plane) : Type 0 where
  pub x : Exactly p.x (normal a b c).x
  pub y : Exactly p.y (normal a b c).y
  pub z : Exactly p.z (normal a b c).z
  pub offset : Exactly p.offset (offset a b c)

-- ==== 02 A5 and A7: placing answered a, no refusal, against any table, hull or not
-- 01's case of an answer
abbrev pub case_answered : Result Placed Refusal → Option Case
case_answered (Ok (Outside f d)) = some outside_case
case_answered (Ok (On f)) = some on_case
case_answered (Ok Inside) = some inside_case
case_answered (Err r) = none

pub record IsPlaced (cs : List ℤ) (t : List ℕ) (q : Point) (a : Result Placed Refusal) : Type 0 where
  -- outside exactly if some face has V < 0, inside exactly if every face has V > 0
  pub outside : ((f : FaceNo) × (d : ℤ) × (a ≡ Ok (Outside f d))) ↔ InFrontOfSome (touch cs) (faces_in t) q
  pub inside : (a ≡ Ok Inside) ↔ BehindAll (touch cs) (faces_in t) q
  -- on names the first face whose plane holds q and whose triangle contains it: q is a mixture of its corners
  pub on : (f : FaceNo) → (a ≡ Ok (On f)) ↔ (OnOrInside (touch cs) (faces_in t) q × FirstHolding (touch cs) (faces_in t) q f.0)
  pub contained : (f : FaceNo) → a ≡ Ok (On f) → InFace (touch cs) (get_or (faces_in t) f.0 []) q
  -- the places are those of 01's three cases
  pub as_before : case_answered a ≡ some (case_before (touch cs) (faces_in t) q)
  -- outside names the face with the least V, the first of equals, and gives minus that V
  pub worst : (f : FaceNo) (d : ℤ) → (a ≡ Ok (Outside f d)) ↔ (Worst (touch cs) (faces_in t) q f.0 (neg_ℤ d) × (pos 0 <ℤ d))

-- ==== 02 A12: each touch of L is where some touch of M is, and the other way round
abbrev pub SameTouches : List ℤ → List ℤ → Type 0
SameTouches L M = SamePlaces (touch L) (touch_count L) (touch M) (touch_count M)

-- ==== 02 A3: the plumb line at x and y is answered with a, over the hull h that building wrote for cs
-- both numbers of a height are held exactly as doubles
pub record ExactHeight (t : Fraction) : Type 0 where
  pub top : Exactly (double t.top) t.top
  pub bottom : Exactly (double t.bottom) t.bottom

pub record PlumbLine (cs : List ℤ) (old : List ℕ) (h : List Face) (x y : ℤ) (a : Result Plumbed Refusal) : Type 0 where
  -- the tightest bounds of the height, as fractions
  pub lower : Fraction
  pub upper : Fraction
  pub tightest : Spans (touch cs) h x y lower upper
  pub exact_lower : ExactHeight lower
  pub exact_upper : ExactHeight upper
  -- it misses, it touches, or it enters at the upper and leaves at the lower one: decided on the fractions, however they round
  pub misses : (a ≡ Ok Misses) ↔ ((NoneRefuses (touch cs) h x y → ⊥) ⊎ Below upper lower)
  pub touches : (a ≡ Ok (Grazes (rounded upper))) ↔ (NoneRefuses (touch cs) h x y × Equal lower upper)
  pub through : (a ≡ Ok (Through (rounded upper) (rounded lower))) ↔ (NoneRefuses (touch cs) h x y × Below lower upper)
  -- placing finds a place of the line on or inside exactly where no upright face refuses, from the lower bound to the upper
  pub between : (z : ℤ) → InRange z → ((place cs old (over x y z) ≡ Ok Inside) ⊎ ((f : FaceNo) × (place cs old (over x y z) ≡ Ok (On f))))
      ↔ (NoneRefuses (touch cs) h x y × AtMost lower (whole z) × AtMost (whole z) upper)

-- ==== all of it
pub record Demands : Type 0 where
  -- 1. bad input gets the number that the paper gives it, the first that applies
  pub check_refused : (cs : List ℤ) (r : Refusal) → (checked cs ≡ Err r) ↔ list_order cs never r
  pub build_refused : (cs : List ℤ) (old : List ℕ) (r : Refusal) → (built cs old ≡ Err r) ↔ build_order cs old r
  pub place_refused : (cs : List ℤ) (t : List ℕ) (q : Point) (r : Refusal) → (placed cs t q ≡ Err r) ↔ place_order cs t q r
  pub plane_refused : (cs : List ℤ) (a b c : ℕ) (r : Refusal) → (planed cs a b c ≡ Err r) ↔ plane_order cs a b c r
  pub reading_refused : (cs : List ℤ) (a b c : ℕ) (q : Point) (r : Refusal) → (plane_reading cs a b c q ≡ Err r) ↔ reading_order cs a b c q r
  pub plumb_refused : (cs : List ℤ) (x y : ℤ) (r : Refusal) → (plumbed cs x y ≡ Err r) ↔ plumb_order cs x y r
  pub read_refused : (b : List ℕ) (old : List ℤ) (r : Refusal) → (read b old ≡ Err r) ↔ read_order b old r
  pub write_refused : (cs : List ℤ) (old : List ℕ) (r : Refusal) → (written cs old ≡ Err r) ↔ write_order cs old r
  pub copy_refused : (b old : List ℕ) (r : Refusal) → (copied b old ≡ Err r) ↔ copy_order b old r
  -- a list that passes 1 to 3 has no refusal, and its touches are counted
  pub check_passed : (cs : List ℤ) → Sound cs → (checked cs ≡ Ok cs) × (checked_count (checked cs) ≡ touch_count cs)
  -- lent tables stay untouched on refusal
  pub build_untouched : (cs : List ℤ) (old : List ℕ) (r : Refusal) → built cs old ≡ Err r → after_build cs old ≡ old
  pub read_untouched : (b : List ℕ) (old : List ℤ) (r : Refusal) → read b old ≡ Err r → after_read b old ≡ old
  pub write_untouched : (cs : List ℤ) (old : List ℕ) (r : Refusal) → written cs old ≡ Err r → after_write cs old ≡ old
  pub copy_untouched : (b old : List ℕ) (r : Refusal) → copied b old ≡ Err r → after_copy b old ≡ old
  -- 2. the triangle list is the textbook's, closed, with every touch on or behind every face
  pub hull : (cs : List ℤ) (old : List ℕ) (n : ℕ) (v : ℤ) → built cs old ≡ Ok (hull_with n v) → IsHull cs old n v
  -- a lent table with room for 2n − 4 faces is never refused 5, n being the touch count, nor is one with room for 124
  pub room_enough : (cs : List ℤ) (old : List ℕ) → enough (touch_count cs) ≤ room old → built cs old ≡ Err FaceTableTooSmall → ⊥
  pub room_always : (cs : List ℤ) (old : List ℕ) → enough most_touches ≤ room old → built cs old ≡ Err FaceTableTooSmall → ⊥
  -- flat exactly if every four touches have volume zero, of a list that passes 1 to 3
  pub flat : (cs : List ℤ) (old : List ℕ) → (built cs old ≡ Err AllTouchesOnOnePlane) ↔ (Sound cs × AllFlat cs)
  -- a list written and read back is the same list, where the list it is read into has room
  pub written_read : (cs : List ℤ) (buffer : List ℕ) (old : List ℤ) (n : ℕ) → written cs buffer ≡ Ok n → length cs ≤ length old
      → let b = take n (after_write cs buffer) in (read b old ≡ Ok (touch_count cs)) × (take (length cs) (after_read b old) ≡ cs)
  -- a record read and written back is the same bytes, where the buffer it is written into has room; a lent record has only bytes
  pub read_written : (b : List ℕ) (list : List ℤ) (old : List ℕ) (m : ℕ) → AreBytes b → read b list ≡ Ok m → length b ≤ length old
      → let cs = take (m * 3) (after_read b list) in (written cs old ≡ Ok (length b)) × (take (length b) (after_write cs old) ≡ b)
  -- 3. a list was accepted, and so was the same list with more touches at its end
  pub grows : (L M : List ℤ) (old new : List ℕ) (n m : ℕ) (v w : ℤ) → built L old ≡ Ok (hull_with n v) → built (L ++ M) new ≡ Ok (hull_with m w) → Grows L M old new n m v w
  -- never flat again
  pub never_flat : (L M : List ℤ) (old new : List ℕ) (n : ℕ) (v : ℤ) → built L old ≡ Ok (hull_with n v) → built (L ++ M) new ≡ Err AllTouchesOnOnePlane → ⊥
  -- 01: V in doubles, the four numbers of a plane and a reading are exactly the whole number
  pub volumes : (a b c d : Point) → Near a → Near b → Near c → Near d → Exactly (double (Vol a b c d)) (Vol a b c d)
  pub planes : (cs : List ℤ) (a b c : ℕ) (p : Plane) → planed cs a b c ≡ Ok p → ExactPlane (touch cs a) (touch cs b) (touch cs c) p
  pub readings : (cs : List ℤ) (a b c : ℕ) (q : Point) (x : Float) → plane_reading cs a b c q ≡ Ok x → Exactly x (neg_ℤ (Vol (touch cs a) (touch cs b) (touch cs c) q))
  pub plus_zero : plus_zero ≡ double (pos 0)
  -- 02 A5 and A7: what placing says, where it does not refuse
  pub placings : (cs : List ℤ) (t : List ℕ) (q : Point) → ((r : Refusal) → placed cs t q ≡ Err r → ⊥) → IsPlaced cs t q (placed cs t q)
  -- 02 A5: what is refused 17 was on by 01's three cases
  pub astray_on : (cs : List ℤ) (t : List ℕ) (q : Point) → placed cs t q ≡ Err PlaceInNoTriangle → case_before (touch cs) (faces_in t) q ≡ on_case
  -- against what building wrote no place in range is refused
  pub never_astray : (cs : List ℤ) (old : List ℕ) (n : ℕ) (v : ℤ) → built cs old ≡ Ok (hull_with n v) → (q : Point) → Near q → (r : Refusal) → place cs old q ≡ Err r → ⊥
  -- a place on it is inside the triangle that placing names and in no other, border included, or on the border of that triangle
  pub inside_one : (cs : List ℤ) (old : List ℕ) (n : ℕ) (v : ℤ) → built cs old ≡ Ok (hull_with n v) → (q : Point) (f : FaceNo) → place cs old q ≡ Ok (On f)
      → InsideOneOrOnBorder (touch cs) (triangles cs old) (get_or (triangles cs old) f.0 []) q
  -- 02 A12: two lists over one set of positions, in any order and with any repeats: each place in range is inside, on or outside alike
  pub order : (L M : List ℤ) (old new : List ℕ) (n m : ℕ) (v w : ℤ) → SameTouches L M → built L old ≡ Ok (hull_with n v) → built M new ≡ Ok (hull_with m w)
      → (q : Point) → Near q → case_answered (place L old q) ≡ case_answered (place M new q)
  -- and the one is flat exactly if the other is, of lists that pass 1 to 3
  pub order_flat : (L M : List ℤ) (old new : List ℕ) → SameTouches L M → Sound L → Sound M → (built L old ≡ Err AllTouchesOnOnePlane) ↔ (built M new ≡ Err AllTouchesOnOnePlane)
  -- 02 A3: what a plumb line says, of a list that building accepts, at x and y in range
  pub plumb_line : (cs : List ℤ) (old : List ℕ) (n : ℕ) (v x y : ℤ) → built cs old ≡ Ok (hull_with n v) → InRange x → InRange y → PlumbLine cs old (triangles cs old) x y (plumbed cs x y)
