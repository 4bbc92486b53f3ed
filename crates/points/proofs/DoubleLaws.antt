-- A face's normal worked in doubles from three points held in doubles: each step is exact.
use mathlib.Core.Path.{◌≡◌}
use lib.IntN.{ℤ, ◌-ℤ◌, ◌*ℤ◌}
use lib.Ieee.{Float}
use Rattle.laws.proofs.Exact.{Exact, e_of, e_sub, e_mul}
use Rattle.touches.specs.declared.Point.{Point}
use Rattle.touches.specs.Limits.{reach}
use Rattle.volume.specs.Volume.{most_gap, most_normal, normal}
use Rattle.points.specs.declared.doubles.Spot.{Spot}
use Rattle.points.specs.Doubles.{InDoubles, minus, det2, spot_normal}

-- a point's coordinates
module _ {p : Point} {s : Spot} (e : InDoubles p s) where
  pub at_x : Exact reach s.x p.x
  at_x = e_of tt e.x e.near.x

  pub at_y : Exact reach s.y p.y
  at_y = e_of tt e.y e.near.y

  pub at_z : Exact reach s.z p.z
  at_z = e_of tt e.z e.near.z

pub part : {a b c d : Float} {p q r s : ℤ} → Exact most_gap a p → Exact most_gap b q → Exact most_gap c r → Exact most_gap d s → Exact most_normal (det2 a b c d) (p *ℤ s -ℤ q *ℤ r)
part a b c d = e_sub tt (e_mul tt a d) (e_mul tt b c)

-- differences from a
module _ {a : Point} {o : Spot} (ea : InDoubles a o) where
  pub gap_x : {d : Point} {s : Spot} → InDoubles d s → Exact most_gap (minus s.x o.x) (d.x -ℤ a.x)
  gap_x e = e_sub tt (at_x e) (at_x ea)

  pub gap_y : {d : Point} {s : Spot} → InDoubles d s → Exact most_gap (minus s.y o.y) (d.y -ℤ a.y)
  gap_y e = e_sub tt (at_y e) (at_y ea)

  pub gap_z : {d : Point} {s : Spot} → InDoubles d s → Exact most_gap (minus s.z o.z) (d.z -ℤ a.z)
  gap_z e = e_sub tt (at_z e) (at_z ea)

-- the normal that the code worked out
module _ {a b c : Point} {o p q : Spot} (ea : InDoubles a o) (eb : InDoubles b p) (ec : InDoubles c q) {n : Spot} (e : n ≡ spot_normal o p q) where
  pub normal_x : Exact most_normal n.x (normal a b c).x
  unfolding normal
  normal_x = rw e (part (gap_y ea eb) (gap_z ea eb) (gap_y ea ec) (gap_z ea ec))

  pub normal_y : Exact most_normal n.y (normal a b c).y
  unfolding normal
  normal_y = rw e (part (gap_z ea eb) (gap_x ea eb) (gap_z ea ec) (gap_x ea ec))

  pub normal_z : Exact most_normal n.z (normal a b c).z
  unfolding normal
  normal_z = rw e (part (gap_x ea eb) (gap_y ea eb) (gap_x ea ec) (gap_y ea ec))
