-- The plumb line over blocks, under one statement. Each reading is computed.
use mathlib.Core.Path.{◌≡◌, refl}
use mathlib.Core.List.{List, [], ◌∷◌}
use mathlib.Core.Option.{Option, some}
use lib.ListN.{length}
use lib.IntN.{ℤ, pos, negsuc}
use Rattle.touches.specs.declared.Point.{Point}
use Rattle.volume.specs.Volume.{Vol, normal, offset, in_line}
use Rattle.rules.specs.Faces.{face_vol, visible}
use Rattle.rules.specs.Start.{then}
use Rattle.rules.specs.Building.{seen, unseen, step, build, hull}
use Rattle.rules.specs.Plumb.{Fraction, face_normal, face_offset, bounds, Plumb, misses, touches, through, plumb}
use Rattle.rules.specs.Heights.{over}
use Rattle.rules.proofs.Blocks.{places, block}

abbrev dropped : List Point → ℤ → ℤ → Option Plumb
dropped l x y = then (hull (places l) (length l)) (λ h. some (plumb (places l) h x y))

abbrev fraction : ℤ → ℤ → Fraction
fraction t b = record { top = t; bottom = b }

-- heights below 0
abbrev spindle : List Point
spindle = over (pos 0) (pos 0) (negsuc 6) ∷ over (pos 3) (pos 0) (pos 0) ∷ over (pos 0) (pos 3) (pos 0) ∷ over (pos 0) (pos 0) (pos 5) ∷ []

-- over its top the bounds above are 45/9, 45/9 and 90/18
abbrev tent : List Point
tent = over (pos 0) (pos 0) (pos 5) ∷ over (pos 3) (pos 0) (pos 0) ∷ over (pos 0) (pos 3) (pos 0) ∷ over (negsuc 5) (negsuc 2) (pos 0) ∷ []

-- so thin that entry and exit are one double
abbrev thin : List Point
thin = over (negsuc 29999) (negsuc 29999) (pos 29949) ∷ over (pos 30000) (pos 29998) (pos 29903) ∷ over (negsuc 29999) (pos 29998) (pos 29811) ∷ over (negsuc 29996) (pos 30000) (pos 29811) ∷ []

pub record PlumbBlocks : Type 0 where
  pub enters : dropped block (pos 2) (pos 3) ≡ some (through (fraction (pos 500) (pos 100)) (fraction (pos 0) (pos 100)))
  pub along_side : dropped block (pos 5) (pos 0) ≡ some (through (fraction (pos 500) (pos 100)) (fraction (pos 0) (pos 100)))
  pub along_edge : dropped block (pos 0) (pos 0) ≡ some (through (fraction (pos 1000) (pos 100)) (fraction (pos 0) (pos 100)))
  pub at_corner : dropped block (pos 10) (pos 0) ≡ some (touches (fraction (pos 0) (pos 100)))
  pub at_edge : dropped block (pos 5) (pos 5) ≡ some (touches (fraction (pos 0) (pos 100)))
  pub beyond : dropped block (pos 20) (pos 0) ≡ some misses
  pub refused : dropped block (negsuc 0) (pos 0) ≡ some misses
  pub below_zero : dropped spindle (pos 1) (pos 1) ≡ some (through (fraction (pos 15) (pos 9)) (fraction (negsuc 20) (pos 9)))
  pub first_of_equals : dropped tent (pos 0) (pos 0) ≡ some (through (fraction (pos 45) (pos 9)) (fraction (pos 0) (pos 36)))
  pub one_double : dropped thin (pos 2873) (pos 2872) ≡ some (through (fraction (pos 107720283623082) (pos 3599820006)) (fraction (pos 107722078871368) (pos 3599880000)))

pub plumb_blocks : PlumbBlocks
unfolding hull build step seen unseen visible face_vol Vol in_line normal offset face_normal face_offset bounds plumb
plumb_blocks = record {
  enters = refl;
  along_side = refl;
  along_edge = refl;
  at_corner = refl;
  at_edge = refl;
  beyond = refl;
  refused = refl;
  below_zero = refl;
  first_of_equals = refl;
  one_double = refl;
}
