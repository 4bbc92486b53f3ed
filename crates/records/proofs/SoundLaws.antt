-- What a list that passes refusals 1 to 3 has, by its count.
use mathlib.Core.Path.{◌≡◌, ap}
use mathlib.Core.List.{List}
use Prim.Native.Nat.{◌*◌}
use native.Mathlib.Omega.{arith}
use lib.IntN.{ℤ}
use lib.ListN.{length}
use Rattle.std.specs.Prelude.{Ok}
use Rattle.touches.specs.Touches.{Sound, touch_count}
use Rattle.touches.specs.Check.{checked}
use Rattle.touches.proofs.SoundLaws.{accepted_sound as passed}

module _ (cs : List ℤ) {l : List ℤ} (e : checked cs ≡ Ok l) where
  pub accepted_sound : Sound cs
  accepted_sound = (passed cs l e).sound

  pub accepted_same : l ≡ cs
  accepted_same = (passed cs l e).same

  pub accepted_count : touch_count l ≡ touch_count cs
  accepted_count = ap touch_count accepted_same

  pub accepted_threes : touch_count l * 3 ≡ length cs
  accepted_threes = omega (arith, accepted_sound.whole, accepted_count)
