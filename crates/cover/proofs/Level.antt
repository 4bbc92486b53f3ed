-- Two triangles (v,u,w) and (v,u',w') with u, u' above v and w, w' below it, neither in front of the other: they are in one plane, and one level line leads
-- from v into both.
use mathlib.Core.Path.{◌≡◌}
use mathlib.Core.List.{List, [], ◌∷◌}
use Prim.Native.Nat.{ℕ}
use lib.IntN.{ℤ, pos, ◌+ℤ◌, ◌-ℤ◌, ◌*ℤ◌}
use lib.Signed.{◌≤ℤ◌, ◌<ℤ◌}
use Rattle.laws.proofs.Order.{<→≤, ≡→≤, sub_pos, four_zero, mul_nonneg, cancel_zero}
use Rattle.laws.proofs.Ring.{Ex, o, ◌:+◌, ◌:-◌, ◌:*◌, ring}
use Rattle.laws.proofs.Certificates.{combine, Eqn, eqn}
use Rattle.touches.specs.declared.Point.{Point}
use Rattle.volume.specs.Volume.{Vol}
use Rattle.volume.proofs.Axes.{Axis, X, Y, Z, on, point_ext}
use Rattle.volume.proofs.Quote.{W, env, pt, on_e, dot_e}
use Rattle.cover.specs.Cones.{det}
use Rattle.cover.proofs.DetLaws.{D}
use Rattle.cover.proofs.Mixes.{mix}
use Rattle.cover.proofs.Heights.{height}

-- far out on the ray of v, and from there along the level line into (v,u,w): by the corners of that triangle
abbrev pub lean : Point → Point → Point → Point → Point → Point → Point
lean m v u w u' w' = mix (det v u w *ℤ (height m u' -ℤ height m w')) v (det v u' w' *ℤ (height m v -ℤ height m w)) u (det v u' w' *ℤ (height m u -ℤ height m v)) w

-- ---- the polynomials. The points m v u w u' w' are 0 to 5
abbrev high : ℕ → Ex
high i = dot_e (pt 0) (pt i)

abbrev lean_e : ℕ → ℕ → ℕ → ℕ → Axis → Ex
lean_e u w u' w' i = D 1 u w :* (high u' :- high w') :* on_e (pt 1) i :+ D 1 u' w' :* (high 1 :- high w) :* on_e (pt u) i :+ D 1 u' w' :* (high u :- high 1) :* on_e (pt w) i

abbrev plane_hyps : Axis → List Eqn
plane_hyps i = eqn (high 1 :* on_e (pt 5) i :- high 5 :* on_e (pt 1) i) (W 1 2 3 4) o ∷ eqn (high 4 :* on_e (pt 1) i :- high 1 :* on_e (pt 4) i) (W 1 2 3 5) o ∷ []

module _ (m v u w u' w' : Point) where
  -- each triangle's V at the other's corners, times a difference of heights: the sum is 0
  balance :
      (height m v -ℤ height m w') *ℤ Vol v u w u' +ℤ (height m u' -ℤ height m v) *ℤ Vol v u w w'
      +ℤ (height m v -ℤ height m w) *ℤ Vol v u' w' u +ℤ (height m u -ℤ height m v) *ℤ Vol v u' w' w ≡ pos 0
  unfolding Vol height
  balance = ring (env (m ∷ v ∷ u ∷ w ∷ u' ∷ w' ∷ []))
      ((high 1 :- high 5) :* W 1 2 3 4 :+ (high 4 :- high 1) :* W 1 2 3 5 :+ (high 1 :- high 3) :* W 1 4 5 2 :+ (high 2 :- high 1) :* W 1 4 5 3) o tt

  -- where u' and w' are on the plane of (v,u,w), the place by the corners of (v,u',w') is the same
  lean_axis : Vol v u w u' ≡ pos 0 → Vol v u w w' ≡ pos 0 → (i : Axis) → on (lean m v u w u' w') i ≡ on (lean m v u' w' u w) i
  unfolding Vol height det
  lean_axis e f X = combine (env (m ∷ v ∷ u ∷ w ∷ u' ∷ w' ∷ [])) (plane_hyps X) (lean_e 2 3 4 5 X) (lean_e 4 5 2 3 X) tt e f
  lean_axis e f Y = combine (env (m ∷ v ∷ u ∷ w ∷ u' ∷ w' ∷ [])) (plane_hyps Y) (lean_e 2 3 4 5 Y) (lean_e 4 5 2 3 Y) tt e f
  lean_axis e f Z = combine (env (m ∷ v ∷ u ∷ w ∷ u' ∷ w' ∷ [])) (plane_hyps Z) (lean_e 2 3 4 5 Z) (lean_e 4 5 2 3 Z) tt e f

  pub lean_same : height m v <ℤ height m u → height m w <ℤ height m v → height m v <ℤ height m u' → height m w' <ℤ height m v →
      pos 0 ≤ℤ Vol v u w u' → pos 0 ≤ℤ Vol v u w w' → pos 0 ≤ℤ Vol v u' w' u → pos 0 ≤ℤ Vol v u' w' w → lean m v u w u' w' ≡ lean m v u' w' u w
  lean_same hu hw hu' hw' ku' kw' ku kw =
      let flat = four_zero (share hw' ku') (share hu' kw') (share hw ku) (share hu kw) (≡→≤ balance) in
      point_ext {p = lean m v u w u' w'} {q = lean m v u' w' u w} (lean_axis (cancel_zero (sub_pos hw') flat.0) (cancel_zero (sub_pos hu') flat.1))
    where
      share : {a b c : ℤ} → a <ℤ b → pos 0 ≤ℤ c → pos 0 ≤ℤ ((b -ℤ a) *ℤ c)
      share h k = mul_nonneg (<→≤ (sub_pos h)) k
