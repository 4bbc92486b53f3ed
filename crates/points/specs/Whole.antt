-- The plane of a face in whole numbers: the normal and the offset.
use Rattle.std.specs.Prelude.{ℤ}
use Rattle.laws.specs.Numbers.{Within}
use Rattle.touches.specs.declared.Point.{Point}
use Rattle.touches.specs.Touches.{Small}
use Rattle.volume.specs.Volume.{most_normal, most_volume, normal, offset}
use Rattle.rules.specs.Faces.{Face, Places, corner}

pub record Plane : Type 0 where
  pub normal : Point
  pub offset : ℤ

abbrev pub whole_plane : Point → Point → Point → Plane
whole_plane a b c = record { normal = normal a b c; offset = offset a b c }

-- the plane of face f over the places p
abbrev pub plane_on : Places → Face → Plane
plane_on p f = whole_plane (p (corner f 0)) (p (corner f 1)) (p (corner f 2))

-- a plane with numbers no larger than those of a face
pub record PlaneNear (w : Plane) : Type 0 where
  pub normal : Small most_normal w.normal
  pub offset : Within most_volume w.offset
