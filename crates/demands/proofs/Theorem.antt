-- The demands hold.
use mathlib.Core.Path.{ap}
use mathlib.Core.List.{◌++◌}
use Rattle.std.specs.Prelude.{ℕ, Result}
use Rattle.laws.proofs.Exact.{plus_zero_is}
use Rattle.touches.specs.declared.refusal.Refusal.{Refusal}
use Rattle.touches.specs.Check.{checked_count}
use Rattle.touches.proofs.SoundLaws.{sound_accepted, near_place}
use Rattle.hull.specs.Build.{hull_of, table_after}
use Rattle.hull.specs.declared.build.Hull.{Hull}
use Rattle.hull.proofs.Inversion.{inverted}
use Rattle.records.specs.Record.{plain_version, record_of, touches_in}
use Rattle.records.specs.Answers.{list_after, buffer_after}
use Rattle.demands.specs.Demands.{Demands}
use Rattle.demands.proofs.ListLaws.{check_first}
use Rattle.demands.proofs.CallFirsts.{build_first, place_first, plane_first, reading_first, plumb_first}
use Rattle.demands.proofs.RecordFirsts.{read_first, write_first, copy_first}
use Rattle.demands.proofs.BuiltLaws.{is_hull, flat_is, room_enough, room_always}
use Rattle.demands.proofs.GrowLaws.{grows, never_flat}
use Rattle.demands.proofs.ExactLaws.{volume_exact, planes_exact, readings_exact}
use Rattle.demands.proofs.TripLaws.{trip_list, trip_record}
use Rattle.demands.proofs.PlacedLaws.{placings, astray_on, hull_answers, inside_one}
use Rattle.demands.proofs.SameLaws.{same_case, same_flat}
use Rattle.demands.proofs.PlumbLineLaws.{plumb_line}

pub demands : Demands
demands = record {
  check_passed = λ cs s. let e = sound_accepted cs s in (e, ap checked_count e);
  check_refused = check_first;
  build_refused = build_first;
  place_refused = place_first;
  plane_refused = plane_first;
  reading_refused = reading_first;
  plumb_refused = plumb_first;
  read_refused = read_first;
  write_refused = write_first;
  copy_refused = copy_first;
  build_untouched = λ cs old r e. ap (λ (a : Result Hull Refusal). table_after a (hull_of cs) old) e;
  read_untouched = λ b old r e. ap (λ (a : Result ℕ Refusal). list_after a (touches_in b) old) e;
  write_untouched = λ cs old r e. ap (λ (a : Result ℕ Refusal). buffer_after a (record_of plain_version cs) old) e;
  copy_untouched = λ b old r e. ap (λ (a : Result ℕ Refusal). buffer_after a b old) e;
  hull = λ cs old n v e. is_hull (inverted cs old e).1;
  room_enough = room_enough;
  room_always = room_always;
  flat = flat_is;
  written_read = trip_list;
  read_written = trip_record;
  grows = λ L M old new n m v w e f. grows L M (inverted L old e).1 (inverted (L ++ M) new f).1;
  never_flat = never_flat;
  volumes = λ a b c d. volume_exact;
  planes = planes_exact;
  readings = readings_exact;
  plus_zero = plus_zero_is;
  placings = placings;
  astray_on = astray_on;
  never_astray = λ cs old n v e q near. hull_answers (inverted cs old e).1 q (near_place q near);
  inside_one = λ cs old n v e. inside_one (inverted cs old e).1;
  order = λ L M old new n m v w same e f q near. same_case (inverted L old e).1 (inverted M new f).1 same q (near_place q near);
  order_flat = same_flat;
  plumb_line = λ cs old n v x y e hx hy. plumb_line (inverted cs old e).1 x y hx hy;
}
