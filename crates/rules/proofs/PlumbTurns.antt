-- The plumb line's rules as a loop over the faces meets them: one face a turn, its facing told by two comparisons, and fractions by one that is three-way.
use mathlib.Core.Path.{◌≡◌, refl, sym, ap}
use mathlib.Core.Bool.{◌&&◌}
use mathlib.Core.List.{List}
use mathlib.Core.Option.{some}
use Prim.Native.Nat.{ℕ, zero, suc, ◌+◌, ◌<◌, ◌≤◌}
use native.Mathlib.Numerals.{add-one}
use lib.Seq.{drop-cons}
use lib.ListN.{length, drop, get_or, drop_of_length-le}
use lib.IntN.{ℤ, pos, negsuc, neg_ℤ}
use lib.Signed.{◌<ℤ◌, le_z}
use Rattle.laws.specs.Fractions.{compared}
use Rattle.laws.proofs.Order.{nat_not_neg}
use Rattle.laws.proofs.Fractions.{compared_two}
use Rattle.rules.specs.Faces.{Face, Places}
use Rattle.rules.specs.Plumb.{facing, rest, Fraction, less, more, Bounds, tighter, bounded, bounds, misses, touches, through, between}

-- ---- one face
pub turn_up : (s r : ℤ) (b : Bounds) → pos 0 <ℤ s → bounded s r b ≡ record { admits = b.admits; above = tighter less b.above (record { top = r; bottom = s }); below = b.below }
turn_up (pos zero) r b l = absurd l.lt
turn_up (pos (suc n)) r b l = refl
turn_up (negsuc n) r b l = absurd l.lt

pub turn_down : (s r : ℤ) (b : Bounds) → s <ℤ pos 0 → bounded s r b ≡ record { admits = b.admits; above = b.above; below = tighter more b.below (record { top = neg_ℤ r; bottom = neg_ℤ s }) }
turn_down (pos n) r b l = absurd (nat_not_neg n l)
turn_down (negsuc n) r b l = refl

pub turn_upright : (s r : ℤ) (b : Bounds) → s ≡ pos 0 → bounded s r b ≡ record { admits = b.admits && le_z (pos 0) r; above = b.above; below = b.below }
turn_upright s r b e = ap (λ (t : ℤ). bounded t r b) e

-- ---- the faces from place i on
module _ (p : Places) (x y : ℤ) (b : Bounds) (h : List Face) (i : ℕ) where
  pub bounds_turn : (d : Face) → i < length h → bounds p x y b (drop i h) ≡ bounds p x y (bounded (facing p (get_or h i d)) (rest p x y (get_or h i d)) b) (drop (i + 1) h)
  unfolding bounds
  bounds_turn d l = rw (add-one, drop-cons h i d)

  pub bounds_end : length h ≤ i → bounds p x y b (drop i h) ≡ b
  unfolding bounds
  bounds_end l = ap (bounds p x y b) (drop_of_length-le h l)

-- ---- two fractions
pub lesser_compared : (s t : Fraction) → tighter less (some s) t ≡ some (compared t.top t.bottom s.top s.bottom t s s)
lesser_compared s t = ap some (sym (compared_two t.top t.bottom s.top s.bottom t s))

pub greater_compared : (s t : Fraction) → tighter more (some s) t ≡ some (compared s.top s.bottom t.top t.bottom t s s)
greater_compared s t = ap some (sym (compared_two s.top s.bottom t.top t.bottom t s))

pub between_compared : (u l : Fraction) → between u l ≡ compared l.top l.bottom u.top u.bottom (through u l) (touches u) misses
between_compared u l = refl
