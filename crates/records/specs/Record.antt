-- 01 'Touch record': the record of a touch list, and what a record holds. Bytes are numbers; the version is a value.
use Rattle.std.specs.Prelude.{ℕ, zero, suc, ◌+◌, ◌-◌, ◌*◌, ◌/◌, ◌%◌, ◌<◌, List, [], ◌∷◌, ◌++◌, ltb, ℤ, pos, negsuc, ◌-ℤ◌, length, drop, get_or}
use Rattle.touches.specs.Check.{pick}

-- the version that the plain calls read and write
abbrev pub plain_version : ℕ
plain_version = 1

-- ---- two bytes, big-endian: the high byte first
abbrev pub two_bytes : ℕ → List ℕ
two_bytes n = n / 256 % 256 ∷ n % 256 ∷ []

abbrev pub of_two : ℕ → ℕ → ℕ
of_two high low = high * 256 + low

-- ---- a signed 16-bit number, and the number from 0 to 65,535 that stands for it
abbrev pub bits16 : ℤ → ℕ
bits16 (pos n) = n
bits16 (negsuc n) = 65535 - n

abbrev pub signed16 : ℕ → ℤ
signed16 n = pick (ltb n 32768) (pos n) (pos n -ℤ pos 65536)

-- ---- the body: x, y, z of each touch in two bytes each, so six bytes a touch
unfoldable pub body_of : List ℤ → List ℕ
body_of [] = []
body_of (x ∷ cs) = two_bytes (bits16 x) ++ body_of cs

abbrev pub coordinate_at : ℕ → List ℕ → ℤ
coordinate_at i body = signed16 (of_two (get_or body i 0) (get_or body (i + 1) 0))

-- the coordinates of the first k touches of a body
abbrev pub first_touches : ℕ → List ℕ → List ℤ
first_touches zero body = []
first_touches (suc k) body = coordinate_at 0 body ∷ coordinate_at 2 body ∷ coordinate_at 4 body ∷ first_touches k (drop 6 body)

-- of all its whole touches: leftover bytes belong to none
unfoldable pub touches_of : List ℕ → List ℤ
touches_of body = first_touches (length body / 6) body

-- ---- the record of a list: the count of bytes after the first two, the version byte, the body
unfoldable pub record_of : ℕ → List ℤ → List ℕ
record_of version cs = two_bytes (length (version ∷ body_of cs)) ++ version ∷ body_of cs

-- ---- what a record holds
abbrev pub count_in : List ℕ → ℕ
count_in r = of_two (get_or r 0 0) (get_or r 1 0)

abbrev pub version_in : List ℕ → ℕ
version_in r = get_or r 2 0

abbrev pub touches_in : List ℕ → List ℤ
touches_in r = touches_of (drop 3 r)

-- each of them is a byte
pub record AreBytes (r : List ℕ) : Type 0 where
  pub small : (i : ℕ) → get_or r i 0 < 256
