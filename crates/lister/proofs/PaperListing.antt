-- 01 'The listing program': the paper's record of T and the whole text that it must print.
use mathlib.Core.Path.{◌≡◌, refl}
use mathlib.Core.List.{List, [], ◌∷◌, ◌++◌}
use Prim.Native.Nat.{ℕ}
use Rattle.touches.specs.Limits.{in_range}
use Rattle.touches.specs.Check.{stray_from}
use Rattle.volume.specs.Volume.{Vol, normal, in_line}
use Rattle.rules.specs.Faces.{face_vol, visible}
use Rattle.rules.specs.Building.{seen, unseen, step, build, hull, volume}
use Rattle.records.specs.Record.{touches_of}
use Rattle.records.specs.Answers.{checked_record}
use Rattle.text.specs.Decimal.{decimal}
use Rattle.lister.specs.Listing.{face_lines, hull_text, listing}

abbrev t : List ℕ
t =
    0 ∷ 25 ∷ 1 ∷
    0 ∷ 0 ∷ 0 ∷ 0 ∷ 0 ∷ 0 ∷
    0 ∷ 10 ∷ 0 ∷ 0 ∷ 0 ∷ 0 ∷
    0 ∷ 0 ∷ 0 ∷ 10 ∷ 0 ∷ 0 ∷
    0 ∷ 0 ∷ 0 ∷ 0 ∷ 0 ∷ 10 ∷ []

abbrev text : List ℕ
text =
    (104 ∷ 117 ∷ 108 ∷ 108 ∷ 32 ∷ 52 ∷ 32 ∷ 49 ∷ 48 ∷ 48 ∷ 48 ∷ 10 ∷ []) ++
    (49 ∷ 32 ∷ 48 ∷ 32 ∷ 50 ∷ 10 ∷ []) ++
    (49 ∷ 32 ∷ 51 ∷ 32 ∷ 48 ∷ 10 ∷ []) ++
    (48 ∷ 32 ∷ 51 ∷ 32 ∷ 50 ∷ 10 ∷ []) ++
    (50 ∷ 32 ∷ 51 ∷ 32 ∷ 49 ∷ 10 ∷ [])

pub lists_t : listing t ≡ text
unfolding listing hull_text face_lines decimal checked_record touches_of stray_from in_range hull build step seen unseen volume visible face_vol Vol in_line normal
lists_t = refl
