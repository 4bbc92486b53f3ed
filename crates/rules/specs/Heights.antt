-- What the plumb line's reading says, for any face list: at which heights over x and y a place is on or inside.
use Rattle.std.specs.Prelude.{◌≡◌, ◌↔◌, List, T, ℤ, pos, ◌+ℤ◌, ◌-ℤ◌, ◌*ℤ◌, ◌≤ℤ◌, ◌<ℤ◌}
use Rattle.std.proofs.Math.Option.{Option, some}
use Rattle.laws.specs.Numbers.{Within}
use Rattle.laws.specs.Lists.{In}
use Rattle.touches.specs.declared.Point.{Point}
use Rattle.volume.specs.Volume.{most_normal, most_volume}
use Rattle.rules.specs.Faces.{Face, Places, face_vol}
use Rattle.rules.specs.Plumb.{facing, rest, Fraction, height, Bounds, unbounded, bounds, Plumb, misses, touches, through}

abbrev pub over : ℤ → ℤ → ℤ → Point
over x y z = record { x = x; y = y; z = z }

abbrev pub whole : ℤ → Fraction
whole z = record { top = z; bottom = pos 1 }

abbrev pub Proper : Fraction → Type 0
Proper t = pos 0 <ℤ t.bottom

abbrev pub AtMost : Fraction → Fraction → Type 0
AtMost s t = (s.top *ℤ t.bottom) ≤ℤ (t.top *ℤ s.bottom)

abbrev pub Below : Fraction → Fraction → Type 0
Below s t = (s.top *ℤ t.bottom) <ℤ (t.top *ℤ s.bottom)

abbrev pub Equal : Fraction → Fraction → Type 0
Equal s t = s.top *ℤ t.bottom ≡ t.top *ℤ s.bottom

-- V(face, q) times t's bottom, q being over x and y at height t: along the line V changes evenly, as from height 0 to height 1
abbrev pub vol_at : Places → Face → ℤ → ℤ → Fraction → ℤ
vol_at p f x y t = face_vol p f (over x y (pos 0)) *ℤ t.bottom +ℤ (face_vol p f (over x y (pos 1)) -ℤ face_vol p f (over x y (pos 0))) *ℤ t.top

-- at height t the line is on or behind every face
abbrev pub OnOrInsideAt : Places → List Face → ℤ → ℤ → Fraction → Type 0
OnOrInsideAt p h x y t = (f : Face) → In f h → pos 0 ≤ℤ vol_at p f x y t

-- it is so exactly from l to u
pub record Stretch (p : Places) (h : List Face) (x y : ℤ) (l u : Fraction) : Type 0 where
  pub lower : Proper l
  pub upper : Proper u
  pub heights : (t : Fraction) → Proper t → OnOrInsideAt p h x y t ↔ (AtMost l t × AtMost t u)

abbrev pub Says : Places → List Face → ℤ → ℤ → Plumb → Type 0
Says p h x y misses = (t : Fraction) → Proper t → OnOrInsideAt p h x y t → ⊥
Says p h x y (touches u) = Stretch p h x y u u
Says p h x y (through u l) = Below l u × Stretch p h x y l u

-- ---- the bounds, above and below alike
pub data Way : Type 0 where
  up down : Way

abbrev pub Looks : Way → ℤ → Type 0
Looks up s = pos 0 <ℤ s
Looks down s = s <ℤ pos 0

abbrev pub bound : Way → Bounds → Option Fraction
bound up b = b.above
bound down b = b.below

-- a bound s admits the height t
abbrev pub Admits : Way → Fraction → Fraction → Type 0
Admits up t s = AtMost t s
Admits down t s = AtMost s t

-- where the line meets the plane of f
abbrev pub meets : Places → ℤ → ℤ → Face → Fraction
meets p x y f = height (facing p f) (rest p x y f)

-- s is the bound, and the tightest: a face that looks this way is met there, and none beats it
pub record Tightest (p : Places) (h : List Face) (x y : ℤ) (w : Way) (s : Fraction) : Type 0 where
  pub is : bound w (bounds p x y unbounded h) ≡ some s
  pub proper : Proper s
  pub from : (f : Face) × In f h × Looks w (facing p f) × (s ≡ meets p x y f)
  pub best : (f : Face) → In f h → Looks w (facing p f) → Admits w s (meets p x y f)

-- no upright face has the line in front of it
abbrev pub NoneRefuses : Places → List Face → ℤ → ℤ → Type 0
NoneRefuses p h x y = (f : Face) → In f h → facing p f ≡ pos 0 → pos 0 ≤ℤ rest p x y f

-- the tightest bounds are l and u, and the line is on or inside exactly if no upright face refuses it and its height is from l to u
pub record Spans (p : Places) (h : List Face) (x y : ℤ) (l u : Fraction) : Type 0 where
  pub lower : Tightest p h x y down l
  pub upper : Tightest p h x y up u
  pub admits : T (bounds p x y unbounded h).admits ↔ NoneRefuses p h x y
  pub heights : (t : Fraction) → Proper t → OnOrInsideAt p h x y t ↔ (NoneRefuses p h x y × AtMost l t × AtMost t u)

-- both numbers are of the size that V and a part of a normal have within range
pub record Fits (t : Fraction) : Type 0 where
  pub top : Within most_volume t.top
  pub bottom : Within most_normal t.bottom
