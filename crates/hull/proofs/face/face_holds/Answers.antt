use borrow.Author.Tests.{ne_eqb}
use mathlib.Core.Path.{refl, ap, ◌∙◌}
use mathlib.Core.List.{List}
use Prim.Native.Nat.{ℕ}
use lib.Dec.{eqb}
use lib.ListN.{get_or}
use mir.Syntax.{w64}
use mir.Val.{of_z}
use Rattle.touches.specs.declared.Point.{Point}
use Rattle.touches.specs.Touches.{touch, plain}
use Rattle.volume.specs.Volume.{Vol}
use Rattle.volume.specs.Triangle.{contains}
use Rattle.rules.specs.Faces.{face_vol}
use Rattle.hull.proofs.PlaceLaws.{flat_zero, holds_by}
use Rattle.hull.proofs.face.face_holds.Goals as goal

pub returns-then-v-ne0 : goal.returns-then-v-ne0
returns-then-v-ne0 c =
    let a = c.args in
    holds_by (touch a.list.now.lent.now) (plain a.f) a.q c.requires.1 (ne_eqb (of_z w64 a.v) 0 c.if-v-ne0.true)

pub contains-requires : goal.contains-requires
unfolding face_vol
contains-requires c =
    let s = c.args in
    let at = λ (l : List Point). Vol (get_or l 0 c.index-corners-0.result) (get_or l 1 c.index-corners-1.result) (get_or l 2 c.index-corners-2.result) s.q in
    ap at c.corners.ensures ∙ flat_zero (touch s.list.now.lent.now) (plain s.f) s.q c.requires.1 (ap (λ (n : ℕ). eqb n 0) c.if-v-ne0.false) refl

pub returns : goal.returns
returns c =
    let s = c.args in
    let at = λ (l : List Point). contains (get_or l 0 c.index-corners-0.result) (get_or l 1 c.index-corners-1.result) (get_or l 2 c.index-corners-2.result) s.q in
    c.contains.ensures ∙ ap at c.corners.ensures ∙ holds_by (touch s.list.now.lent.now) (plain s.f) s.q c.requires.1 (ap (λ (n : ℕ). eqb n 0) c.if-v-ne0.false)
