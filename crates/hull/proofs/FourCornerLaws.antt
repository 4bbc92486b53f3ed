-- V worked from its fourth corner: how large the number of each step is, and what the steps come to.
use Prim.Native.Nat.{◌*◌}
use lib.IntN.{ℤ, ◌+ℤ◌, ◌-ℤ◌, ◌*ℤ◌}
use mir.Syntax.{w64}
use mir.Val.{SFits}
use Rattle.laws.specs.Numbers.{Within}
use Rattle.laws.proofs.Words.{Reads, r_int, r_i64, r_add, r_sub, r_mul, fits, stored, size}
use Rattle.touches.specs.declared.Point.{Point}
use Rattle.touches.specs.Limits.{reach}
use Rattle.touches.specs.Touches.{Near}
use Rattle.volume.specs.Volume.{most_gap, most_normal, most_volume}
use Rattle.volume.proofs.Axes.{Axis, X, Y, Z, on}
use Rattle.volume.proofs.PlaneLaws.{near_on}
use Rattle.points.proofs.NumberLaws.{rd}

-- ---- a step fits 64 bits, and is held: by the size of its two numbers alone, whichever they are
module _ {x y : ℤ} (h : Within reach x) (k : Within reach y) where
  pub gap_fits : SFits w64 (rd x -ℤ rd y)
  gap_fits = fits w64 (r_sub (r_i64 tt h) (r_i64 tt k)) tt

  pub gap_held : Within most_gap (rd (rd x -ℤ rd y))
  gap_held = size (stored w64 (r_sub (r_i64 tt h) (r_i64 tt k)) tt)

module _ {x y : ℤ} (h : Within most_gap x) (k : Within most_gap y) where
  pub product_fits : SFits w64 (x *ℤ y)
  product_fits = fits w64 (r_mul (r_int h) (r_int k)) tt

  pub product_held : Within (most_gap * most_gap) (rd (x *ℤ y))
  product_held = size (stored w64 (r_mul (r_int h) (r_int k)) tt)

module _ {x y : ℤ} (h : Within (most_gap * most_gap) x) (k : Within (most_gap * most_gap) y) where
  pub small_fits : SFits w64 (x -ℤ y)
  small_fits = fits w64 (r_sub (r_int h) (r_int k)) tt

  pub small_held : Within most_normal (rd (x -ℤ y))
  small_held = size (stored w64 (r_sub (r_int h) (r_int k)) tt)

module _ {x y : ℤ} (h : Within most_gap x) (k : Within most_normal y) where
  pub part_fits : SFits w64 (x *ℤ y)
  part_fits = fits w64 (r_mul (r_int h) (r_int k)) tt

  pub part_held : Within (most_gap * most_normal) (rd (x *ℤ y))
  part_held = size (stored w64 (r_mul (r_int h) (r_int k)) tt)

module _ {x y : ℤ} (h : Within (most_gap * most_normal) x) (k : Within (most_gap * most_normal) y) where
  pub two_fits : SFits w64 (x +ℤ y)
  two_fits = fits w64 (r_add (r_int h) (r_int k)) tt

  pub two_held : Within (2 * most_gap * most_normal) (rd (x +ℤ y))
  two_held = size (stored w64 (r_add (r_int h) (r_int k)) tt)

pub three_fits : {x y : ℤ} → Within (2 * most_gap * most_normal) x → Within (most_gap * most_normal) y → SFits w64 (x +ℤ y)
three_fits h k = fits w64 (r_add (r_int h) (r_int k)) tt

pub ruleset ranges = (gap_fits, gap_held, product_fits, product_held, small_fits, small_held, part_fits, part_held, two_fits, two_held, three_fits)

-- ---- the steps by axis, as the machine holds them and as they are
module _ {a b c d : Point} (h : Near a × Near b × Near c × Near d) where
  abbrev less : Point → Axis → ℤ
  less p i = rd (rd (on p i) -ℤ rd (on d i))

  abbrev gap : Point → Axis → ℤ
  gap p i = on p i -ℤ on d i

  abbrev small : Axis → Axis → ℤ
  small j k = rd (rd (less b j *ℤ less c k) -ℤ rd (less b k *ℤ less c j))

  abbrev det : Axis → Axis → ℤ
  det j k = gap b j *ℤ gap c k -ℤ gap b k *ℤ gap c j

  less_is : {p : Point} → Near p → (i : Axis) → Reads most_gap (less p i) (gap p i)
  less_is n i = stored w64 (r_sub (r_i64 tt (near_on n i)) (r_i64 tt (near_on h.3 i))) tt

  times_is : (j k : Axis) → Reads (most_gap * most_gap) (rd (less b j *ℤ less c k)) (gap b j *ℤ gap c k)
  times_is j k = stored w64 (r_mul (less_is h.1 j) (less_is h.2 k)) tt

  part_is : (i j k : Axis) → Reads (most_gap * most_normal) (rd (less a i *ℤ small j k)) (gap a i *ℤ det j k)
  part_is i j k = stored w64 (r_mul (less_is h.0 i) (stored w64 (r_sub (times_is j k) (times_is k j)) tt)) tt

  pub steps_are : Reads most_volume
      (rd (rd (rd (less a X *ℤ small Y Z) +ℤ rd (less a Y *ℤ small Z X)) +ℤ rd (less a Z *ℤ small X Y)))
      (gap a X *ℤ det Y Z +ℤ gap a Y *ℤ det Z X +ℤ gap a Z *ℤ det X Y)
  steps_are = stored w64 (r_add (stored w64 (r_add (part_is X Y Z) (part_is Y Z X)) tt) (part_is Z X Y)) tt
