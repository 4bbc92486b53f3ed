use mathlib.Core.Path.{◌∙◌, sym}
use Rattle.laws.proofs.Words.{size}
use Rattle.volume.specs.Volume.{Vol}
use Rattle.volume.proofs.VolumeLaws.{vol_fourth}
use Rattle.hull.proofs.FourCornerLaws.{ranges, steps_are}
use Rattle.hull.proofs.four_corner.volume.Goals as goal

pub overflow_sub-cy : goal.overflow_sub-cy
overflow_sub-cy c = search ranges

pub overflow_sub-cz : goal.overflow_sub-cz
overflow_sub-cz c = search ranges

pub overflow_mul-result : goal.overflow_mul-result
overflow_mul-result c = search ranges

pub overflow_mul-result-2 : goal.overflow_mul-result-2
overflow_mul-result-2 c = search ranges

pub overflow_sub-result : goal.overflow_sub-result
overflow_sub-result c = search ranges

pub overflow_mul-result-3 : goal.overflow_mul-result-3
overflow_mul-result-3 c = search ranges

pub overflow_mul-result-4 : goal.overflow_mul-result-4
overflow_mul-result-4 c = search ranges

pub overflow_mul-result-5 : goal.overflow_mul-result-5
overflow_mul-result-5 c = search ranges

pub overflow_sub-result-2 : goal.overflow_sub-result-2
overflow_sub-result-2 c = search ranges

pub overflow_mul-result-6 : goal.overflow_mul-result-6
overflow_mul-result-6 c = search ranges

pub overflow_add-result : goal.overflow_add-result
overflow_add-result c = search ranges depth 6

pub overflow_mul-result-7 : goal.overflow_mul-result-7
overflow_mul-result-7 c = search ranges

pub overflow_mul-result-8 : goal.overflow_mul-result-8
overflow_mul-result-8 c = search ranges

pub overflow_sub-result-3 : goal.overflow_sub-result-3
overflow_sub-result-3 c = search ranges

pub overflow_mul-result-9 : goal.overflow_mul-result-9
overflow_mul-result-9 c = search ranges

pub overflow_add-result-2 : goal.overflow_add-result-2
overflow_add-result-2 c = search ranges depth 7

pub returns : goal.returns
returns c =
    let v = steps_are (c.a.invariant, c.b.invariant, c.c.invariant, c.d.invariant) in
    record { is = v.is ∙ sym (vol_fourth _ _ _ _) ∙ (λ i. Vol (c.a.view_is i) (c.b.view_is i) (c.c.view_is i) (c.d.view_is i)); small = size v }
