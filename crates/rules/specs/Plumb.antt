-- 02 A3, 'The plumb line': a line dropped at a whole x and y, and the heights at which it meets the faces of any list.
use Rattle.std.specs.Prelude.{Bool, true, ◌&&◌, cond, List, [], ◌∷◌, zero, suc, ℤ, pos, negsuc, neg_ℤ, ◌-ℤ◌, ◌*ℤ◌}
use Rattle.std.proofs.Math.Option.{Option, none, some}
use Rattle.std.specs.Int.Signed.{le_z, lt_z}
use Rattle.touches.specs.declared.Point.{Point}
use Rattle.volume.specs.Volume.{normal, offset}
use Rattle.rules.specs.Faces.{Face, Places, corner}

-- each face's plane as whole numbers
unfoldable pub face_normal : Places → Face → Point
face_normal p f = normal (p (corner f 0)) (p (corner f 1)) (p (corner f 2))

unfoldable pub face_offset : Places → Face → ℤ
face_offset p f = offset (p (corner f 0)) (p (corner f 1)) (p (corner f 2))

-- which way it looks: above 0 it looks up, below 0 it looks down, at 0 it is upright
abbrev pub facing : Places → Face → ℤ
facing p f = (face_normal p f).z

-- what is left of the offset at x and y for the height
abbrev pub rest : Places → ℤ → ℤ → Face → ℤ
rest p x y f = face_offset p f -ℤ (face_normal p f).x *ℤ x -ℤ (face_normal p f).y *ℤ y

-- a height is the quotient of two whole numbers, the bottom one above 0
pub record Fraction : Type 0 where
  pub top : ℤ
  pub bottom : ℤ

-- two heights are compared by the products across
abbrev pub less : Fraction → Fraction → Bool
less s t = lt_z (s.top *ℤ t.bottom) (t.top *ℤ s.bottom)

abbrev pub more : Fraction → Fraction → Bool
more s t = less t s

-- where the line meets a plane that is not upright: rest / facing, the bottom made positive
abbrev pub height : ℤ → ℤ → Fraction
height (pos n) r = record { top = r; bottom = pos n }
height (negsuc n) r = record { top = neg_ℤ r; bottom = pos (suc n) }

-- what the faces so far say of the line: whether the upright ones admit it, and the tightest bounds of its height
pub record Bounds : Type 0 where
  pub admits : Bool
  pub above : Option Fraction
  pub below : Option Fraction

-- of a bound so far and a new one the tighter, the first of equals
abbrev pub tighter : (Fraction → Fraction → Bool) → Option Fraction → Fraction → Option Fraction
tighter beats none t = some t
tighter beats (some s) t = some (cond (beats t s) t s)

-- one face: looking up it bounds the height above, looking down below; upright it admits a line that is on or behind it
abbrev pub bounded : ℤ → ℤ → Bounds → Bounds
bounded (pos zero) r b = record { admits = b.admits && le_z (pos 0) r; above = b.above; below = b.below }
bounded (pos (suc n)) r b = record { admits = b.admits; above = tighter less b.above (height (pos (suc n)) r); below = b.below }
bounded (negsuc n) r b = record { admits = b.admits; above = b.above; below = tighter more b.below (height (negsuc n) r) }

abbrev pub unbounded : Bounds
unbounded = record { admits = true; above = none; below = none }

-- the faces h taken one after another
unfoldable pub bounds : Places → ℤ → ℤ → Bounds → List Face → Bounds
bounds p x y b [] = b
bounds p x y b (f ∷ h) = bounds p x y (bounded (facing p f) (rest p x y f) b) h

-- the line misses, touches at a height, or enters at an upper height and leaves at a lower one
pub data Plumb : Type 0 where
  misses : Plumb
  touches : Fraction → Plumb
  through : Fraction → Fraction → Plumb

abbrev pub between : Fraction → Fraction → Plumb
between u l = cond (less l u) (through u l) (cond (less u l) misses (touches u))

-- a line that has no bound above or none below meets no hull
abbrev pub met : Option Fraction → Option Fraction → Plumb
met none l = misses
met (some u) none = misses
met (some u) (some l) = between u l

abbrev pub reading_of : Bounds → Plumb
reading_of b = cond b.admits (met b.above b.below) misses

unfoldable pub plumb : Places → List Face → ℤ → ℤ → Plumb
plumb p h x y = reading_of (bounds p x y unbounded h)
