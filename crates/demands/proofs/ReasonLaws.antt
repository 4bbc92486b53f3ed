-- The calls' tests say whether the reasons of refusals 6, 7 and 8 hold.
use mathlib.Core.Bool.{not, ◌&&◌}
use mathlib.Core.List.{List}
use Prim.Native.Nat.{ℕ, ◌-◌}
use borrow.Author.Tests.{eq-eqb, le-leb, lt-ltb, eqb-true, leb-true}
use lib.Dec.{eqb, leb, ltb→lt}
use lib.IntN.{ℤ}
use lib.ListN.{length}
use Rattle.laws.proofs.Tests.{is_true, is_false, T_of, and_both, both_and}
use Rattle.touches.specs.declared.Point.{Point}
use Rattle.touches.specs.Limits.{in_range, place_in_range}
use Rattle.touches.specs.Touches.{touch, touch_count, Near}
use Rattle.touches.proofs.SoundLaws.{range_within, within_range, place_near, near_place}
use Rattle.volume.specs.Volume.{in_line}
use Rattle.table.specs.Table.{usable}
use Rattle.table.proofs.UsableLaws.{usable_filled, usable_whole, usable_few, usable_number, made_usable}
use Rattle.planes.specs.Planes.{is_touch, good_corners}
use Rattle.records.specs.Record.{count_in}
use Rattle.records.specs.Answers.{sized}
use Rattle.demands.specs.Demands.{Usable, IsFace, InRange, Sized}
use Rattle.demands.proofs.FirstLaws.{Tests}

-- ---- 6 of a table
pub table_tests : (cs : List ℤ) (t : List ℕ) → Tests (Usable (touch_count cs) t) (usable (touch_count cs) t)
table_tests cs t = record {
  told = λ u. record { filled = usable_filled cs t u; whole = usable_whole cs t u; few = usable_few cs t u; touches = usable_number cs t u };
  holds = λ v. made_usable cs t v.touches v.filled v.whole v.few;
}

-- ---- 6 of a face
pub face_tests : (cs : List ℤ) (a b c : ℕ) → Tests (IsFace cs a b c) (good_corners cs a b c)
unfolding good_corners
face_tests cs a b c = record {
  told = λ e.
      let n = not (in_line (touch cs a) (touch cs b) (touch cs c)) in
      let x = and_both (is_touch cs a) (is_touch cs b && (is_touch cs c && n)) (T_of e) in
      let y = and_both (is_touch cs b) (is_touch cs c && n) x.1 in
      let z = and_both (is_touch cs c) n y.1 in
      record { first_corner = ltb→lt a (touch_count cs) x.0; second_corner = ltb→lt b (touch_count cs) y.0; third_corner = ltb→lt c (touch_count cs) z.0; off_line = is_false (in_line (touch cs a) (touch cs b) (touch cs c)) z.1 };
  holds = λ f. rw (lt-ltb a (touch_count cs) f.first_corner, lt-ltb b (touch_count cs) f.second_corner, lt-ltb c (touch_count cs) f.third_corner, f.off_line);
}

-- ---- 7 of a place, and of a plumb line
pub near_tests : (q : Point) → Tests (Near q) (place_in_range q)
near_tests q = record { told = place_near q; holds = near_place q }

pub column_tests : (x y : ℤ) → Tests (InRange x × InRange y) (in_range x && in_range y)
column_tests x y = record {
  told = λ e. let u = and_both (in_range x) (in_range y) (T_of e) in (range_within x (is_true (in_range x) u.0), range_within y (is_true (in_range y) u.1));
  holds = λ u. is_true (in_range x && in_range y) (both_and (in_range x) (in_range y) (T_of (within_range x u.0)) (T_of (within_range y u.1)));
}

-- ---- 8
pub sized_tests : (b : List ℕ) → Tests (Sized b) (sized b)
sized_tests b = record {
  told = λ e.
      let u = and_both (leb 3 (length b)) (eqb (count_in b) (length b - 2)) (T_of e) in
      (leb-true 3 (length b) (is_true (leb 3 (length b)) u.0), eqb-true (count_in b) (length b - 2) (is_true (eqb (count_in b) (length b - 2)) u.1));
  holds = λ u. is_true (sized b) (both_and (leb 3 (length b)) (eqb (count_in b) (length b - 2)) (T_of (le-leb 3 (length b) u.0)) (T_of (eq-eqb (count_in b) (length b - 2) u.1)));
}
