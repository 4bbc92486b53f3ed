-- The test of a side within 64 bits: of two vectors along one line only the signs of their parts count. The steps of `triangles` are told by it.
use Rattle.std.specs.Prelude.{Bool, not, ◌&&◌, ◌||◌, ℤ, pos}
use Rattle.std.specs.Int.Signed.{lt_z}
use Rattle.touches.specs.declared.Point.{Point}

-- one of the numbers is above 0 and the other below
abbrev pub opposed : ℤ → ℤ → Bool
opposed n m = (lt_z (pos 0) n && lt_z m (pos 0)) || (lt_z n (pos 0) && lt_z (pos 0) m)

-- m does not point the other way than n
unfoldable pub same_way : Point → Point → Bool
same_way n m = not (opposed n.x m.x) && not (opposed n.y m.y) && not (opposed n.z m.z)
