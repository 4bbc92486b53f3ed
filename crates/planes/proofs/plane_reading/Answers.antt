use mathlib.Core.Path.{sym, ap, ◌∙◌}
use Rattle.std.specs.Prelude.{Ok, neg_ℤ}
use Rattle.laws.specs.Doubles.{double}
use Rattle.touches.specs.declared.Point.{Point}
use Rattle.touches.specs.Touches.{touch}
use Rattle.touches.proofs.SoundLaws.{place_passed}
use Rattle.volume.specs.Volume.{Vol}
use Rattle.planes.proofs.PlanedLaws.{planed_known, in_place}
use Rattle.planes.proofs.plane_reading.Goals as goal

pub returns : goal.returns
returns c =
    let g = c.args in
    let cs = g.coords.now in
    let k = planed_known cs g.a.0 g.b.0 g.c.0 c.in_ok-p.p (sym c.plane_of.ensures ∙ c.in_ok-p.was) in
    let u = place_passed g.q c.in_ok-try_from.field-0 (sym c.try_from.ensures ∙ c.in_ok-try_from.was) in
    ap Ok (c.read_at.ensures _ _ _ k.near_a k.near_b k.near_c k.is ∙ ap (λ (q : Point). double (neg_ℤ (Vol (touch cs g.a.0) (touch cs g.b.0) (touch cs g.c.0) q))) u.0)
    ∙ in_place cs g.a.0 g.b.0 g.c.0 g.q u.1 ∙ k.reading g.q
