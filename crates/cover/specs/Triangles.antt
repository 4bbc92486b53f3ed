-- No two triangles of a face list overlap, and how a place is in one.
use Rattle.std.specs.Prelude.{◌≡◌, ◌⊎◌, List}
use Rattle.laws.specs.Lists.{In, Pw}
use Rattle.touches.specs.declared.Point.{Point}
use Rattle.volume.specs.Triangle.{Mixture, InsideTriangle, OnBorder}
use Rattle.rules.specs.Faces.{Face, Places, corner}

-- q is in the triangle of face f, border included; inside it; on its border
abbrev pub InFace : Places → Face → Point → Type 0
InFace p f q = Mixture (p (corner f 0)) (p (corner f 1)) (p (corner f 2)) q

abbrev pub InsideFace : Places → Face → Point → Type 0
InsideFace p f q = InsideTriangle (p (corner f 0)) (p (corner f 1)) (p (corner f 2)) q

abbrev pub OnFaceBorder : Places → Face → Point → Type 0
OnFaceBorder p f q = OnBorder (p (corner f 0)) (p (corner f 1)) (p (corner f 2)) q

-- no place is inside the triangles of two faces
abbrev pub NoOverlap : Places → List Face → Type 0
NoOverlap p h = Pw (λ f g. (q : Point) → InsideFace p f q → InsideFace p g q → ⊥) h

-- q is inside the triangle of face f and in that of no other, border included; or it is on the border of f
abbrev pub InsideOneOrOnBorder : Places → List Face → Face → Point → Type 0
InsideOneOrOnBorder p h f q = (InsideFace p f q × ((g : Face) → In g h → InFace p g q → g ≡ f)) ⊎ OnFaceBorder p f q
