-- The places of a face's corners.
use Rattle.std.specs.Prelude.{List, [], ◌∷◌}
use Rattle.touches.specs.declared.Point.{Point}
use Rattle.rules.specs.Faces.{Face, Places, corner}

abbrev pub places_of : Places → Face → List Point
places_of p f = p (corner f 0) ∷ p (corner f 1) ∷ p (corner f 2) ∷ []
