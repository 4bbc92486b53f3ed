use Rattle.std.proofs.Common.{rules, ◌≡◌}
use Rattle.std.specs.Prelude.{None}
use Rattle.touches.specs.Check.{stray_from}
use Rattle.touches.proofs.SoundLaws.{no_stray}
use Rattle.touches.proofs.check.Goals as goal

pub invariant_of-result : goal.invariant_of-result
invariant_of-result c =
    let cs = c.args.coords.now in
    let n : stray_from 0 cs ≡ None = cc in
    record { sound = record { whole = search rules; few = search rules; near = no_stray 0 cs n } }
