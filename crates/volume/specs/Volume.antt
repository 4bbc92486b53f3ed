-- 01 'Volume and the four-corner rule': V of four points, and the plane of a face.
use Rattle.std.specs.Prelude.{Bool, ◌&&◌, ℕ, ◌*◌, ℤ, pos, ◌+ℤ◌, ◌-ℤ◌, ◌*ℤ◌}
use Rattle.laws.specs.Numbers.{eq_z}
use Rattle.touches.specs.declared.Point.{Point}
use Rattle.touches.specs.Limits.{reach}

-- the determinant of two rows, and of three by its first row
abbrev pub det2 : ℤ → ℤ → ℤ → ℤ → ℤ
det2 a b c d = a *ℤ d -ℤ b *ℤ c

abbrev pub det3 : ℤ → ℤ → ℤ → ℤ → ℤ → ℤ → ℤ → ℤ → ℤ → ℤ
det3 a b c d e f g h i = a *ℤ det2 e f h i -ℤ b *ℤ det2 d f g i +ℤ c *ℤ det2 d e g h

-- equation 4.6: the determinant of the rows (x, y, z, 1) of a, b, c, d, by its first row
unfoldable pub Vol : Point → Point → Point → Point → ℤ
Vol a b c d =
    a.x *ℤ det3 b.y b.z (pos 1) c.y c.z (pos 1) d.y d.z (pos 1)
    -ℤ a.y *ℤ det3 b.x b.z (pos 1) c.x c.z (pos 1) d.x d.z (pos 1)
    +ℤ a.z *ℤ det3 b.x b.y (pos 1) c.x c.y (pos 1) d.x d.y (pos 1)
    -ℤ pos 1 *ℤ det3 b.x b.y b.z c.x c.y c.z d.x d.y d.z

-- within range a difference is at most 60,000 in size, a part of a normal 2 × 60,000², and V 48 × 30,000³
abbrev pub most_gap : ℕ
most_gap = 2 * reach

abbrev pub most_normal : ℕ
most_normal = 2 * most_gap * most_gap

abbrev pub most_volume : ℕ
most_volume = 48 * reach * reach * reach

abbrev pub minus : Point → Point → Point
minus p q = record { x = p.x -ℤ q.x; y = p.y -ℤ q.y; z = p.z -ℤ q.z }

abbrev pub cross : Point → Point → Point
cross u v = record { x = det2 u.y u.z v.y v.z; y = det2 u.z u.x v.z v.x; z = det2 u.x u.y v.x v.y }

abbrev pub dot : Point → Point → ℤ
dot u v = u.x *ℤ v.x +ℤ u.y *ℤ v.y +ℤ u.z *ℤ v.z

-- the plane of face (a, b, c): (b − a) cross (c − a), and its dot product with a
unfoldable pub normal : Point → Point → Point → Point
normal a b c = cross (minus b a) (minus c a)

unfoldable pub offset : Point → Point → Point → ℤ
offset a b c = dot (normal a b c) a

abbrev pub is_zero : ℤ → Bool
is_zero v = eq_z v (pos 0)

abbrev pub is_origin : Point → Bool
is_origin u = is_zero u.x && is_zero u.y && is_zero u.z

-- three corners in line have no normal
unfoldable pub in_line : Point → Point → Point → Bool
in_line a b c = is_origin (normal a b c)
