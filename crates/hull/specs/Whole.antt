-- Planes as building keeps them beside its faces, from touch to touch.
use Rattle.std.specs.Prelude.{◌≡◌, List, [], ℕ, ◌<◌, ℤ, pos, ◌-ℤ◌, get_or}
use Rattle.touches.specs.declared.Point.{Point}
use Rattle.touches.specs.Touches.{touch}
use Rattle.volume.specs.Volume.{dot}
use Rattle.rules.specs.Faces.{Face}
use Rattle.points.specs.Whole.{Plane, plane_on}

-- what V is, read from the plane
abbrev pub read_at : Plane → Point → ℤ
read_at w q = w.offset -ℤ dot w.normal q

-- what is read where a table has no such plane; no face has this one
abbrev pub no_plane : Plane
no_plane = record { normal = record { x = pos 0; y = pos 0; z = pos 0 }; offset = pos 1 }

-- plane number j of a table is that of face number j
pub record PlanedAt (cs : List ℤ) (faces : List Face) (planes : List Plane) (j : ℕ) : Type 0 where
  pub is : get_or planes j no_plane ≡ plane_on (touch cs) (get_or faces j [])

-- so are the first m
pub record Planed (cs : List ℤ) (m : ℕ) (faces : List Face) (planes : List Plane) : Type 0 where
  pub each : (j : ℕ) → j < m → PlanedAt cs faces planes j
