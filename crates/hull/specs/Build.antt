-- 01 'Building': what the call gives, and what the lent table holds afterwards.
use Rattle.std.specs.Prelude.{Result, Ok, Err}
use Rattle.std.specs.Prelude.{List, ℕ, leb, ℤ, pos, length}
use Rattle.std.proofs.Math.Option.{Option, none, some}
use Rattle.laws.specs.Lists.{lay}
use Rattle.touches.specs.declared.refusal.Refusal.TheVariants.{AllTouchesOnOnePlane, FaceTableTooSmall}
use Rattle.touches.specs.declared.refusal.Refusal.{Refusal}
use Rattle.touches.specs.Touches.{touch, touch_count}
use Rattle.touches.specs.Check.{pick, checked, if_accepted}
use Rattle.rules.specs.Faces.{Face, Places}
use Rattle.rules.specs.Building.{hull, volume}
use Rattle.table.specs.Table.{room, lent}
use Rattle.hull.specs.declared.build.Hull.{Hull}

-- the face list of a coordinate list; none where its touches are flat
abbrev pub hull_of : List ℤ → Option (List Face)
hull_of cs = hull (touch cs) (touch_count cs)

-- the answer of n faces and the volume v
abbrev pub hull_with : ℕ → ℤ → Hull
hull_with n v = record { faces = n; volume = v }

-- refusals 4 and 5, the table having room for n faces
abbrev pub built_from : Places → ℕ → Option (List Face) → Result Hull Refusal
built_from p n none = Err AllTouchesOnOnePlane
built_from p n (some h) = pick (leb (length h) n) (Ok (hull_with (length h) (volume p h))) (Err FaceTableTooSmall)

-- refusals 1, 2, 3, 4, 5; else face count and volume
abbrev pub built : List ℤ → List ℕ → Result Hull Refusal
built cs old = if_accepted (checked cs) (built_from (touch cs) (room old) (hull_of cs))

-- the table afterwards: on success the faces from its start on and the rest as it was, on refusal as it was
abbrev pub table_after : Result Hull Refusal → Option (List Face) → List ℕ → List ℕ
table_after (Ok u) none old = old
table_after (Ok u) (some h) old = lay 0 (lent h) old
table_after (Err r) h old = old

-- the values of each answer, 0 where it is refused
abbrev pub built_count : Result Hull Refusal → ℕ
built_count (Ok u) = u.faces
built_count (Err r) = 0

abbrev pub built_volume : Result Hull Refusal → ℤ
built_volume (Ok u) = u.volume
built_volume (Err r) = pos 0
