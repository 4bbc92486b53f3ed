-- The first coordinate out of range, and the touch that it belongs to.
use mathlib.Core.Path.{◌≡◌, refl, sym, ap, ◌∙◌}
use mathlib.Core.Bool.{Bool, true, false, not}
use mathlib.Core.List.{List, [], ◌∷◌}
use Prim.Native.Nat.{ℕ, suc, ◌+◌, ◌/◌}
use native.Mathlib.Numerals.{add-one}
use lib.IntN.{ℤ}
use Rattle.std.specs.Prelude.{None, Some, option_map, cond, position}
use Rattle.std.specs.List.{position_from}
use Rattle.std.proofs.lemmas.Iterator.Adapters.{position_from-zero}
use Rattle.touches.specs.declared.TouchNo.{TouchNo}
use Rattle.touches.specs.Limits.{in_range}
use Rattle.touches.specs.Check.{pick, stray_from}
use Rattle.touches.specs.Touches.{touch_no}

abbrev far : ℤ → Bool
far x = not (in_range x)

abbrev touch_of : ℕ → TouchNo
touch_of i = touch_no (i / 3)

stray_at : (i : ℕ) (cs : List ℤ) → option_map touch_of (position_from far i cs) ≡ stray_from i cs
unfolding stray_from
stray_at i [] = refl
stray_at i (x ∷ cs) = go (in_range x) (rw add-one (stray_at (suc i) cs))
  where
    go : (b : Bool) → option_map touch_of (position_from far (i + 1) cs) ≡ stray_from (suc i) cs → option_map touch_of (cond (not b) (Some i) (position_from far (i + 1) cs)) ≡ pick b (stray_from (suc i) cs) (Some (touch_of i))
    go true e = e
    go false e = refl

module _ (cs : List ℤ) where
  stray_is : option_map touch_of (position far cs) ≡ stray_from 0 cs
  stray_is = ap (option_map touch_of) (position_from-zero far cs) ∙ stray_at 0 cs

  pub stray_none : position far cs ≡ None → None ≡ stray_from 0 cs
  stray_none e = ap (option_map touch_of) (sym e) ∙ stray_is

  pub stray_some : {i : ℕ} → position far cs ≡ Some i → Some (touch_of i) ≡ stray_from 0 cs
  stray_some e = ap (option_map touch_of) (sym e) ∙ stray_is
