use mathlib.Core.Path.{◌≡◌, refl, sym, ap, ◌∙◌}
use mathlib.Core.List.{List}
use Prim.Native.Nat.{ℕ, ◌*◌}
use lib.IntN.{ℤ, pos}
use lib.ListN.{take}
use mir.Syntax.{w64}
use mir.Val.{SFits}
use mir.ValLaws.{to_z-of_z}
use Rattle.std.specs.Prelude.{Ok, Err}
use Rattle.std.proofs.Common.{rules}
use Rattle.touches.specs.Touches.{touch_count}
use Rattle.touches.specs.Check.{place_checked}
use Rattle.touches.proofs.SoundLaws.{place_passed}
use Rattle.rules.specs.Heights.{over}
use Rattle.table.specs.Table.{stride, lent, faces_in, usable}
use Rattle.points.proofs.NumberLaws.{rd}
use Rattle.hull.proofs.CallLaws.{hull_back, hull_usable}
use Rattle.plumb.proofs.OwnRoomLaws.{Filled, own_refused, own_filled}
use Rattle.plumb.proofs.PlumbedLaws.{sound_plumbed, hull_read, over_place}
use Rattle.plumb.proofs.plumb_in.Goals as goal

-- the part of the table that is read
part : {cs : List ℤ} {n : ℕ} {t : List ℕ} (f : Filled cs n t) {end : ℕ} → end ≡ n * stride → take end t ≡ lent f.faces
part {t = t} f e = ap (λ (k : ℕ). take k t) e ∙ f.part

-- the place at x and y as the machine holds them
at : {x y : ℤ} → SFits w64 x → SFits w64 y → over (rd x) (rd y) (pos 0) ≡ over x y (pos 0)
at {x} {y} f g = λ i. over (to_z-of_z w64 x f i) (to_z-of_z w64 y g i) (pos 0)

pub returns-in_err-hull : goal.returns-in_err-hull
returns-in_err-hull c =
    let a = c.args in
    let e : c.from_residual.result ≡ Err c.in_err-hull.field-0.0 = search rules in
    e ∙ own_refused a.coords.now a.faces.now c.requires a.x a.y (sym c.in_err-hull.ensures.answer)

pub returns-in_err-q : goal.returns-in_err-q
returns-in_err-q c =
    let a = c.args in
    let f = own_filled a.coords.now a.faces.now c.in_ok-hull.ensures.answer c.in_ok-hull.ensures.table in
    let e : c.from_residual-in_err-q.result ≡ Err c.in_err-q.field-0.0 = search rules in
    e ∙ over_place a.coords.now a.x a.y f.is (c.in_err-q.ensures ∙ ap place_checked (at c.ranges.x c.ranges.y)) ∙ sym (sound_plumbed a.coords.now a.x a.y f.sound)

pub invariant_of-list : goal.invariant_of-list
invariant_of-list c = record { sound = (own_filled c.args.coords.now c.args.faces.now c.in_ok-hull.ensures.answer c.in_ok-hull.ensures.table).sound }

pub tightest-requires : goal.tightest-requires
tightest-requires c =
    let a = c.args in
    let f = own_filled a.coords.now a.faces.now c.in_ok-hull.ensures.answer c.in_ok-hull.ensures.table in
    ap (usable (touch_count a.coords.now)) (part f c.numbers_of-end.ensures) ∙ hull_usable f.sound f.is

pub returns : goal.returns
returns c =
    let a = c.args in
    let cs = a.coords.now in
    let f = own_filled cs a.faces.now c.in_ok-hull.ensures.answer c.in_ok-hull.ensures.table in
    let e = c.in_ok-q.ensures ∙ ap place_checked (at c.ranges.x c.ranges.y) in
    let w = (place_passed (over a.x a.y (pos 0)) c.in_ok-q.q (sym e)).0 in
    let h = ap faces_in (part f c.numbers_of-end.ensures) ∙ hull_back f.sound f.is in
    ap Ok (hull_read cs a.x a.y c.tightest.result c.reading.ensures c.tightest.ensures refl w h)
    ∙ over_place cs a.x a.y f.is e ∙ sym (sound_plumbed cs a.x a.y f.sound)
