use mathlib.Core.Path.{◌≡◌, sym, ap, ◌∙◌}
use mathlib.Core.Bool.{Bool, true, false, not}
use mathlib.Core.List.{List}
use Prim.Native.Nat.{ℕ, ◌<◌}
use native.Mathlib.Omega.{arith}
use lib.IntN.{ℤ}
use Rattle.std.specs.Prelude.{Ok}
use Rattle.touches.specs.declared.Point.{Point}
use Rattle.touches.specs.Touches.{touch, touch_count}
use Rattle.volume.specs.Volume.{in_line}
use Rattle.planes.specs.Planes.{plane_of, good_corners}
use Rattle.planes.proofs.PlanedLaws.{bad_a, bad_b, bad_c, by_line, refused_6, plane_6}
use Rattle.planes.proofs.face_plane.Goals as goal
use Rattle.planes.proofs.face_plane.Goals.{then-n-from-via-then-n-from, then-n-from-via-else-n-from+then-n-from-2, then-n-from-via-else-n-from+else-n-from-2+then-n-from-3}

-- what `in_line` answered is said of the touches themselves
found : (cs : List ℤ) (a b c : ℕ) {p q r : Point} (t : Bool) → a < touch_count cs → b < touch_count cs → c < touch_count cs → p ≡ touch cs a → q ≡ touch cs b → r ≡ touch cs c → t ≡ in_line p q r → good_corners cs a b c ≡ not t
found cs a b c t h k l p q r f = by_line cs a b c h k l t (sym (f ∙ (λ i. in_line (p i) (q i) (r i))))

pub returns-then-n-from : goal.returns-then-n-from
returns-then-n-from c =
    let g = c.args in
    let cs = g.list.now.lent.now in
    refused_6 cs g.a.0 g.b.0 g.c.0 (elim c.then-n-from.branch [
      | then-n-from-via-then-n-from w ↦ bad_a cs g.a.0 g.b.0 g.c.0 (omega arith)
      | then-n-from-via-else-n-from+then-n-from-2 w ↦ bad_b cs g.a.0 g.b.0 g.c.0 (omega arith) (omega arith)
      | then-n-from-via-else-n-from+else-n-from-2+then-n-from-3 w ↦ bad_c cs g.a.0 g.b.0 g.c.0 (omega arith) (omega arith) (omega arith)
    ])

pub returns-then-in_line : goal.returns-then-in_line
returns-then-in_line c =
    let g = c.args in
    refused_6 g.list.now.lent.now g.a.0 g.b.0 g.c.0
    (found g.list.now.lent.now g.a.0 g.b.0 g.c.0 true (omega arith) (omega arith) (omega arith) c.touch-p.ensures c.touch-q.ensures c.touch-r.ensures c.if-in_line.ensures)

pub returns : goal.returns
returns c =
    let g = c.args in
    ap Ok (c.plane_through.ensures ∙ (λ i. plane_of (c.touch-p.ensures i) (c.touch-q.ensures i) (c.touch-r.ensures i)))
    ∙ plane_6 g.list.now.lent.now g.a.0 g.b.0 g.c.0
    (found g.list.now.lent.now g.a.0 g.b.0 g.c.0 false (omega arith) (omega arith) (omega arith) c.touch-p.ensures c.touch-q.ensures c.touch-r.ensures c.if-in_line.ensures)
