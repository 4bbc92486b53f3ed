-- 01 'Numbers': touches are lent as a coordinate list, three numbers to a touch, numbered from 0.
use Rattle.std.specs.Prelude.{ℕ, ◌+◌, ◌*◌, ◌/◌, ◌%◌, ◌<◌, ◌≤◌, ◌≡◌, List, map, ℤ, pos, length, get_or}
use Rattle.laws.specs.Numbers.{Within}
use Rattle.touches.specs.Limits.{most_touches, reach}
use Rattle.touches.specs.declared.Point.{Point}
use Rattle.touches.specs.declared.TouchNo.{TouchNo}
use Rattle.touches.specs.declared.FaceNo.{FaceNo}

abbrev pub touch_count : List ℤ → ℕ
touch_count cs = length cs / 3

abbrev pub touch : List ℤ → ℕ → Point
touch cs k = record { x = get_or cs (k * 3) (pos 0); y = get_or cs (k * 3 + 1) (pos 0); z = get_or cs (k * 3 + 2) (pos 0) }

abbrev pub touch_no : ℕ → TouchNo
touch_no k = record { 0 = k }

-- touch numbers as the code hands them on, as plain numbers
abbrev pub plain : List TouchNo → List ℕ
plain ks = map (λ (k : TouchNo). k.0) ks

abbrev pub face_no : ℕ → FaceNo
face_no k = record { 0 = k }

-- each coordinate of p is at most B in size
pub record Small (B : ℕ) (p : Point) : Type 0 where
  pub x : Within B p.x
  pub y : Within B p.y
  pub z : Within B p.z

-- each coordinate of p is in range
abbrev pub Near : Point → Type 0
Near p = Small reach p

-- what a list that passes refusals 1 to 3 has
pub record Sound (cs : List ℤ) : Type 0 where
  pub whole : length cs % 3 ≡ 0
  pub few : length cs ≤ most_touches * 3
  pub near : (i : ℕ) → i < length cs → Within reach (get_or cs i (pos 0))

-- touch k is the first with a coordinate out of range
pub record FirstStray (cs : List ℤ) (k : ℕ) : Type 0 where
  pub among : k < touch_count cs
  pub far : Near (touch cs k) → ⊥
  pub earlier : (j : ℕ) → j < k → Near (touch cs j)
