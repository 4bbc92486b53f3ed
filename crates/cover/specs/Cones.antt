-- The cones of a face list, seen from a point among the touches: every direction is in one, and inside one only.
use Rattle.std.specs.Prelude.{◌≡◌, false, List, ℕ, ℤ, pos, ◌-ℤ◌, ◌*ℤ◌, ◌≤ℤ◌, ◌<ℤ◌}
use Rattle.laws.specs.Lists.{In, Pw}
use Rattle.touches.specs.declared.Point.{Point}
use Rattle.volume.specs.Volume.{Vol, det3, in_line}
use Rattle.rules.specs.Faces.{Face, Places, corner}

-- the determinant of three vectors
unfoldable pub det : Point → Point → Point → ℤ
det a b c = det3 a.x a.y a.z b.x b.y b.z c.x c.y c.z

-- x as a vector from the point s / w, w times as long: w·x − s
abbrev pub from : ℤ → Point → Point → Point
from w s x = record { x = w *ℤ x.x -ℤ s.x; y = w *ℤ x.y -ℤ s.y; z = w *ℤ x.z -ℤ s.z }

-- face f is turned outward, its corners being the vectors v, and the direction x is in the cone over it, border included
pub record InCone (v : Places) (f : Face) (x : Point) : Type 0 where
  pub outward : pos 0 <ℤ det (v (corner f 0)) (v (corner f 1)) (v (corner f 2))
  pub ab : pos 0 ≤ℤ det (v (corner f 0)) (v (corner f 1)) x
  pub bc : pos 0 ≤ℤ det (v (corner f 1)) (v (corner f 2)) x
  pub ca : pos 0 ≤ℤ det (v (corner f 2)) (v (corner f 0)) x

-- the direction x is inside it, border left out
pub record InsideCone (v : Places) (f : Face) (x : Point) : Type 0 where
  pub outward : pos 0 <ℤ det (v (corner f 0)) (v (corner f 1)) (v (corner f 2))
  pub ab : pos 0 <ℤ det (v (corner f 0)) (v (corner f 1)) x
  pub bc : pos 0 <ℤ det (v (corner f 1)) (v (corner f 2)) x
  pub ca : pos 0 <ℤ det (v (corner f 2)) (v (corner f 0)) x

-- s / w is a point among the touches of the list done: behind every plane that has none of them in front
pub record Centre (p : Places) (done : List ℕ) : Type 0 where
  pub w : ℤ
  pub s : Point
  pub positive : pos 0 <ℤ w
  pub amid : (a b c : Point) → in_line a b c ≡ false → ((t : ℕ) → In t done → pos 0 ≤ℤ Vol a b c (p t)) → pos 0 <ℤ det (from w s a) (from w s b) (from w s c)

-- the touches as vectors from it
abbrev pub rays : {p : Places} {done : List ℕ} → Centre p done → Places
rays {p} c t = from c.w c.s (p t)

-- every direction is in the cone of some face
abbrev pub Covers : {p : Places} {done : List ℕ} → Centre p done → List Face → Type 0
Covers c h = (x : Point) → (f : Face) × In f h × InCone (rays c) f x

-- no direction is inside the cones of two faces
abbrev pub Once : {p : Places} {done : List ℕ} → Centre p done → List Face → Type 0
Once c h = Pw (λ f g. (x : Point) → InsideCone (rays c) f x → InsideCone (rays c) g x → ⊥) h
