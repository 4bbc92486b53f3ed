use mathlib.Core.Path.{◌≡◌, refl, ◌∙◌, ap}
use mathlib.Core.Bool.{Bool, true, false, ◌&&◌}
use Prim.Native.Nat.{zero, suc}
use Prim.Native.Nat.compare
use lib.Dec.{leb-suc-suc, leb-zero}
use lib.IntN.{ℤ, pos, negsuc}
use lib.Signed.{lt_z}
use Rattle.std.proofs.Common.{int_eq}
use Rattle.touches.specs.declared.Point.{Point}
use Rattle.volume.specs.Volume.{in_line, is_origin, is_zero}
use Rattle.points.proofs.vectors.in_line.Goals as goal

zero_eq : (x : ℤ) → int_eq x (pos 0) ≡ is_zero x
zero_eq (pos zero) = refl
zero_eq (pos (suc n)) = let l : lt_z (pos 0) (pos (suc n)) ≡ true = leb-suc-suc 0 n ∙ leb-zero n in simp (compare.suc-zero, l)
zero_eq (negsuc n) = refl

and_left : (a b c : Bool) → a && (b && c) ≡ a && b && c
and_left true b c = refl
and_left false b c = refl

origin_eq : (p : Point) → int_eq p.x (pos 0) && (int_eq p.y (pos 0) && int_eq p.z (pos 0)) ≡ is_origin p
origin_eq p = (λ i. zero_eq p.x i && (zero_eq p.y i && zero_eq p.z i)) ∙ and_left (is_zero p.x) (is_zero p.y) (is_zero p.z)

pub returns : goal.returns
unfolding in_line
returns c = c.eq.ensures ∙ origin_eq c.normal.result ∙ ap is_origin c.normal.ensures.is
