-- 02 A5: which places of its plane a triangle contains, border included.
use Rattle.std.specs.Prelude.{◌≡◌, ◌⊎◌, Bool, cond, ◌&&◌, ◌||◌, ℤ, pos, ◌+ℤ◌, ◌*ℤ◌, ◌≤ℤ◌, ◌<ℤ◌}
use Rattle.std.specs.Int.Signed.{le_z}
use Rattle.touches.specs.declared.Point.{Point}
use Rattle.volume.specs.Volume.{dot, normal, in_line}

-- seen along n, a→b→q turns as a face does or not at all: n · ((b − a) × (q − a)) is not negative
abbrev pub turns : Point → Point → Point → Point → Bool
turns n a b q = le_z (pos 0) (dot n (normal a b q))

-- q is beyond no side
unfoldable pub in_triangle : Point → Point → Point → Point → Bool
in_triangle a b c q = turns (normal a b c) a b q && turns (normal a b c) b c q && turns (normal a b c) c a q

-- t is neither below all three numbers nor above all three
abbrev pub between : ℤ → ℤ → ℤ → ℤ → Bool
between x y z t = (le_z x t || le_z y t || le_z z t) && (le_z t x || le_z t y || le_z t z)

-- q is on the smallest segment that has a, b and c, which are in line: in line with each two, and between them along each axis
unfoldable pub on_segment : Point → Point → Point → Point → Bool
on_segment a b c q =
    in_line a b q && in_line b c q && in_line c a q
    && between a.x b.x c.x q.x && between a.y b.y c.y q.y && between a.z b.z c.z q.z

-- the triangle of a, b, c contains q, which is on their plane
unfoldable pub contains : Point → Point → Point → Point → Bool
contains a b c q = cond (in_line a b c) (on_segment a b c q) (in_triangle a b c q)

-- q is a mixture of the corners: (i + j + k)·q = i·a + j·b + k·c, no weight negative and not all 0
pub record Mixture (a b c q : Point) : Type 0 where
  pub i : ℤ
  pub j : ℤ
  pub k : ℤ
  pub i_nonneg : pos 0 ≤ℤ i
  pub j_nonneg : pos 0 ≤ℤ j
  pub k_nonneg : pos 0 ≤ℤ k
  pub some : pos 0 <ℤ (i +ℤ j +ℤ k)
  pub x : (i +ℤ j +ℤ k) *ℤ q.x ≡ i *ℤ a.x +ℤ j *ℤ b.x +ℤ k *ℤ c.x
  pub y : (i +ℤ j +ℤ k) *ℤ q.y ≡ i *ℤ a.y +ℤ j *ℤ b.y +ℤ k *ℤ c.y
  pub z : (i +ℤ j +ℤ k) *ℤ q.z ≡ i *ℤ a.z +ℤ j *ℤ b.z +ℤ k *ℤ c.z

-- every weight is above 0: q is inside the triangle
pub record InsideTriangle (a b c q : Point) : Type 0 where
  pub mixture : Mixture a b c q
  pub i_pos : pos 0 <ℤ mixture.i
  pub j_pos : pos 0 <ℤ mixture.j
  pub k_pos : pos 0 <ℤ mixture.k

-- some weight is 0: q is on a side
pub record OnBorder (a b c q : Point) : Type 0 where
  pub mixture : Mixture a b c q
  pub on_side : (mixture.i ≡ pos 0) ⊎ (mixture.j ≡ pos 0) ⊎ (mixture.k ≡ pos 0)
