-- 01 'Refusal numbers': each answer as numbers, for callers in other languages.
use Rattle.std.specs.Prelude.{ℕ, List, [], ◌∷◌, ◌++◌, ℤ, pos, Float, Result, Ok, Err}
use Rattle.touches.specs.declared.Point.{Point}
use Rattle.touches.specs.declared.refusal.Refusal.{Refusal}
use Rattle.touches.specs.Refusals.{number, place, number_given, place_given}
use Rattle.planes.specs.declared.Plane.{Plane}
use Rattle.hull.specs.Build.{built_count, built_volume}
use Rattle.hull.specs.Place.{placed_face, placed_minus_v}
use Rattle.hull.specs.declared.build.Hull.{Hull}
use Rattle.hull.specs.declared.place.Placed.{Placed}
use Rattle.hull.specs.declared.place.Placed.TheVariants.{Outside, On, Inside}
use Rattle.plumb.specs.Plumb.{plumbed_entry, plumbed_exit}
use Rattle.plumb.specs.declared.Plumbed.{Plumbed}
use Rattle.plumb.specs.declared.Plumbed.TheVariants.{Misses, Touches, Through}
use Rattle.records.specs.Answers.{count_given}

-- a refusal's number and place
abbrev pub numbers : Refusal → List ℤ
numbers r = pos (number r) ∷ pos (place r).0 ∷ []

-- the number and the place that a call gives, 0 where it succeeds
abbrev pub said : {A : Type 0} → Result A Refusal → List ℤ
said a = pos (number_given a) ∷ pos (place_given a).0 ∷ []

-- building: then face count and volume
abbrev pub built_numbers : Result Hull Refusal → List ℤ
built_numbers a = said a ++ (pos (built_count a) ∷ built_volume a ∷ [])

-- placing: then the kind, 0 refused, 1 outside, 2 on, 3 inside, counted apart from the refusals; the face; and minus its V, 0 unless outside
abbrev pub placed_kind : Result Placed Refusal → ℕ
placed_kind (Ok (Outside f d)) = 1
placed_kind (Ok (On f)) = 2
placed_kind (Ok Inside) = 3
placed_kind (Err r) = 0

abbrev pub placed_numbers : Result Placed Refusal → List ℤ
placed_numbers a = said a ++ (pos (placed_kind a) ∷ pos (placed_face a).0 ∷ placed_minus_v a ∷ [])

abbrev pub plane_numbers : Plane → List Float
plane_numbers p = p.x ∷ p.y ∷ p.z ∷ p.offset ∷ []

-- the plumb line: then the kind, 0 refused, 1 misses, 2 touches, 3 goes through, counted apart from the refusals and from where a place lies
abbrev pub plumbed_kind : Result Plumbed Refusal → ℕ
plumbed_kind (Ok Misses) = 1
plumbed_kind (Ok (Touches z)) = 2
plumbed_kind (Ok (Through u l)) = 3
plumbed_kind (Err r) = 0

abbrev pub plumbed_numbers : Result Plumbed Refusal → List ℤ
plumbed_numbers a = said a ++ (pos (plumbed_kind a) ∷ [])

-- the heights of entry and exit
abbrev pub plumbed_heights : Result Plumbed Refusal → List Float
plumbed_heights a = plumbed_entry a ∷ plumbed_exit a ∷ []

-- a record's numbers: then the count of touches or bytes
abbrev pub record_numbers : Result ℕ Refusal → List ℤ
record_numbers a = said a ++ (pos (count_given a) ∷ [])

abbrev pub one : Float → List Float
one v = v ∷ []

abbrev pub place_at : ℤ → ℤ → ℤ → Point
place_at x y z = record { x = x; y = y; z = z }
