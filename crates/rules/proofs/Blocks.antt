-- The blocks of 01 'Blocks tried by hand' that are marked *, of the rules themselves, under one statement. Each is computed.
use mathlib.Core.Path.{◌≡◌, refl}
use mathlib.Core.List.{List, [], ◌∷◌, ◌++◌}
use mathlib.Core.Option.{none, some}
use Prim.Native.Nat.{ℕ}
use lib.IntN.{ℤ, pos, negsuc}
use lib.ListN.{get_or}
use Rattle.touches.specs.declared.Point.{Point}
use Rattle.volume.specs.Volume.{Vol, normal, in_line}
use Rattle.volume.specs.Triangle.{contains, in_triangle, on_segment}
use Rattle.rules.specs.Faces.{Face, Places, face_vol, visible}
use Rattle.rules.specs.Building.{seen, unseen, step, build, hull, volume}
use Rattle.rules.specs.Placing.{outside, on, inside, astray, worst, holds, first_holding, first_plane, lies}

abbrev at : ℤ → ℤ → ℤ → Point
at x y z = record { x = x; y = y; z = z }

abbrev o : ℤ
o = pos 0

abbrev pub places : List Point → Places
places l k = get_or l k (at o o o)

abbrev pub block : List Point
block = at o o o ∷ at (pos 10) o o ∷ at o (pos 10) o ∷ at o o (pos 10) ∷ []

abbrev and : ℕ → ℕ → ℕ → List Point
and x y z = block ++ (at (pos x) (pos y) (pos z) ∷ [])

abbrev face : ℕ → ℕ → ℕ → Face
face a b c = a ∷ b ∷ c ∷ []

abbrev four : List Face
four = face 1 0 2 ∷ face 1 3 0 ∷ face 0 3 2 ∷ face 2 3 1 ∷ []

abbrev six : List Face
six = face 1 0 2 ∷ face 1 3 0 ∷ face 0 3 2 ∷ face 2 3 4 ∷ face 3 1 4 ∷ face 1 2 4 ∷ []

abbrev shifted : List Face
shifted = face 2 0 3 ∷ face 2 4 0 ∷ face 0 4 3 ∷ face 3 4 2 ∷ []

abbrev cross : List Face
cross = face 0 1 2 ∷ face 0 3 1 ∷ face 1 3 2 ∷ face 2 3 0 ∷ []

abbrev large : List Point
large = at (pos 512) (pos 512) (pos 512) ∷ at (pos 512) (negsuc 511) (negsuc 511) ∷ at (negsuc 511) (pos 512) (negsuc 511) ∷ at (negsuc 511) (negsuc 511) (pos 512) ∷ []

abbrev plane : List Point
plane = at (pos 30000) o o ∷ at o (pos 30000) o ∷ at o o (pos 30000) ∷ at (pos 10000) (pos 10000) (pos 10000) ∷ []

-- the touches l, n of them, give the face list h with the volume v
pub record Gives (l : List Point) (n : ℕ) (h : List Face) (v : ℤ) : Type 0 where
  pub faces : hull (places l) n ≡ some h
  pub size : volume (places l) h ≡ v

pub record Blocks : Type 0 where
  pub T : Gives block 4 four (pos 1000)
  pub corner : Gives (and 10 10 10) 5 six (pos 3000)
  pub edge_on : Gives (and 10 10 0) 5 six (pos 2000)
  pub in_line : Gives (and 20 0 0) 5 six (pos 2000)
  pub within : Gives (and 1 1 1) 5 four (pos 1000)
  pub on_face : Gives (and 2 3 5) 5 four (pos 1000)
  pub repeated : Gives (at o o o ∷ block) 5 shifted (pos 1000)
  pub wide : Gives large 4 cross (pos 2147483648)
  pub flat : hull (places plane) 4 ≡ none
  pub lies_inside : lies (places block) four (at (pos 1) (pos 1) (pos 1)) ≡ inside
  pub lies_on : lies (places block) four (at (pos 2) (pos 3) (pos 5)) ≡ on 3
  pub lies_outside : lies (places block) four (at (pos 10) (pos 10) (pos 10)) ≡ outside 3 (pos 2000)
  -- beside the paper's: on the planes of two faces and in front of a third
  pub lies_beyond : lies (places block) four (at (pos 20) o o) ≡ outside 3 (pos 1000)
  -- in front of three faces, the two worst alike and not the first
  pub lies_worst : lies (places block) four (at (negsuc 1) (negsuc 1) (negsuc 0)) ≡ outside 1 (pos 200)
  -- on the flat side of two triangles: in the second one, and on the border; on the plane of one triangle alone and beyond it
  pub lies_second : lies (places (and 10 10 0)) six (at (pos 9) (pos 9) o) ≡ on 5
  pub lies_border : lies (places (and 10 10 0)) six (at (pos 5) (pos 5) o) ≡ on 0
  pub lies_astray : lies (places block) (face 1 0 2 ∷ []) (at (pos 9) (pos 9) o) ≡ astray

pub blocks : Blocks
unfolding hull build step seen unseen volume visible face_vol Vol in_line normal lies worst holds first_holding first_plane contains in_triangle on_segment
blocks = record {
  T = record { faces = refl; size = refl };
  corner = record { faces = refl; size = refl };
  edge_on = record { faces = refl; size = refl };
  in_line = record { faces = refl; size = refl };
  within = record { faces = refl; size = refl };
  on_face = record { faces = refl; size = refl };
  repeated = record { faces = refl; size = refl };
  wide = record { faces = refl; size = refl };
  flat = refl;
  lies_inside = refl;
  lies_on = refl;
  lies_outside = refl;
  lies_beyond = refl;
  lies_worst = refl;
  lies_second = refl;
  lies_border = refl;
  lies_astray = refl;
}
