-- 01 'The listing program': the whole text for a record's bytes.
use Rattle.std.specs.Prelude.{List, [], ◌∷◌, ◌++◌, ℕ, ◌*◌, leb, ℤ, length, Result, Ok, Err}
use Rattle.std.proofs.Math.Option.{Option, none, some}
use Rattle.touches.specs.Limits.{most_touches, most_faces}
use Rattle.touches.specs.Touches.{touch}
use Rattle.touches.specs.Refusals.{number, place}
use Rattle.touches.specs.Check.{pick, checked, if_accepted}
use Rattle.touches.specs.declared.refusal.Refusal.{Refusal}
use Rattle.touches.specs.declared.refusal.Refusal.TheVariants.{RecordLengthWrong}
use Rattle.rules.specs.Faces.{Face, corner}
use Rattle.hull.specs.Build.{hull_of, built_from}
use Rattle.hull.specs.declared.build.Hull.{Hull}
use Rattle.records.specs.Record.{plain_version, touches_in}
use Rattle.records.specs.Answers.{read_of}
use Rattle.text.specs.Decimal.{decimal, whole, line}

-- more bytes than these are refused 8
abbrev pub most_bytes : ℕ
most_bytes = 65536

-- `hull`, `refused`
abbrev pub hull_word : List ℕ
hull_word = 104 ∷ 117 ∷ 108 ∷ 108 ∷ []

abbrev pub refused_word : List ℕ
refused_word = 114 ∷ 101 ∷ 102 ∷ 117 ∷ 115 ∷ 101 ∷ 100 ∷ []

-- `refused`, number, place
abbrev pub refused_line : Refusal → List ℕ
refused_line x = line (refused_word ∷ decimal (number x) ∷ decimal (place x).0 ∷ [])

-- `hull`, face count, volume
abbrev pub hull_line : ℕ → ℤ → List ℕ
hull_line n v = line (hull_word ∷ decimal n ∷ whole v ∷ [])

-- one line a face, its three touch numbers
abbrev pub face_line : Face → List ℕ
face_line f = line (decimal (corner f 0) ∷ decimal (corner f 1) ∷ decimal (corner f 2) ∷ [])

unfoldable pub face_lines : List Face → List ℕ
face_lines [] = []
face_lines (f ∷ h) = face_line f ++ face_lines h

-- ---- what the building call gives with room for 1,344 faces
abbrev pub answer : List ℤ → Result Hull Refusal
answer cs = if_accepted (checked cs) (built_from (touch cs) most_faces (hull_of cs))

abbrev pub faces_of : Option (List Face) → List Face
faces_of none = []
faces_of (some h) = h

abbrev pub built_text : Result Hull Refusal → List Face → List ℕ
built_text (Ok u) h = hull_line u.faces u.volume ++ face_lines h
built_text (Err x) h = refused_line x

unfoldable pub hull_text : List ℤ → List ℕ
hull_text cs = built_text (answer cs) (faces_of (hull_of cs))

-- ---- what the reading call gives with room for 64 touches, and then the building call
abbrev pub read_text : List ℕ → Result ℕ Refusal → List ℕ
read_text r (Ok n) = hull_text (touches_in r)
read_text r (Err x) = refused_line x

-- over 65,536 bytes: refusal 8
unfoldable pub listing : List ℕ → List ℕ
listing r =
    pick (leb (length r) most_bytes)
    (read_text r (read_of plain_version r (most_touches * 3)))
    (refused_line RecordLengthWrong)
