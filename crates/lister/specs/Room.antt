-- Room for the longest listing. A 16-bit number has at most five digits, the volume's text at most twenty bytes.
use Rattle.std.specs.Prelude.{ℕ, ◌+◌, ◌*◌}
use Rattle.touches.specs.Limits.{most_touches}
use Rattle.cover.specs.Room.{enough}

-- a number or the volume, with the byte after it
abbrev pub field_room : ℕ
field_room = 6

abbrev pub volume_room : ℕ
volume_room = 21

-- the line of a face, and the first line
abbrev pub face_room : ℕ
face_room = 3 * field_room

abbrev pub first_room : ℕ
first_room = 5 + field_room + volume_room

abbrev pub listing_room : ℕ
listing_room = first_room + enough most_touches * face_room
