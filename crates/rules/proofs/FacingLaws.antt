-- Which way faces look: the normals of a closed surface sum to zero, so along each axis a surface with a body has a face looking up it and one looking down.
use mathlib.Core.Path.{◌≡◌, refl, ◌∙◌, subst}
use mathlib.Core.List.{List}
use Prim.Native.Nat.{ℕ}
use lib.IntN.{ℤ, pos, neg_ℤ}
use lib.Signed.{◌<ℤ◌, <ℤ_irrefl}
use Rattle.laws.specs.Lists.{In, sum_z}
use Rattle.laws.proofs.Sums.{sum_ext, sum_closed}
use Rattle.laws.proofs.Balance.{some_above, some_below}
use Rattle.touches.specs.declared.Point.{Point}
use Rattle.volume.specs.Volume.{cross}
use Rattle.volume.proofs.Axes.{Axis, on}
use Rattle.volume.proofs.NormalLaws.{cross_turn, normal_sides, wall, wall_turn, upright_walls}
use Rattle.rules.specs.Faces.{Face, Places, Side, corner, reversed, same_side, face_vol, sides}
use Rattle.rules.specs.Building.{volume}
use Rattle.rules.specs.Demands.{Closed, Surface}
use Rattle.rules.specs.Plumb.{face_normal}
use Rattle.rules.proofs.SideLaws.{same_sound, same_self}
use Rattle.rules.proofs.GrowthLaws.{volume_at, round, sum_sides}

module _ (p : Places) {h : List Face} (c : Closed h) where
  -- what turns its sign with the side cancels with its reverse
  round_zero : (g : Side → ℤ) → ((s : Side) → g (reversed s) ≡ neg_ℤ (g s)) → sum_z (round g) h ≡ pos 0
  round_zero g anti = sum_sides g h ∙ sum_closed same_side same_sound same_self reversed (λ s. refl) g (sides h) c.once c.back (λ s m. anti s)

  module _ (i : Axis) where
    pub normals_zero : sum_z (λ f. on (face_normal p f) i) h ≡ pos 0
    unfolding face_normal
    normals_zero =
        sum_ext (λ f. on (face_normal p f) i) (round (λ s. on (cross (p s.from) (p s.to)) i)) h (λ f m. normal_sides i (p (corner f 0)) (p (corner f 1)) (p (corner f 2)))
        ∙ round_zero (λ s. on (cross (p s.from) (p s.to)) i) (λ s. cross_turn i (p s.from) (p s.to))

    -- a closed surface whose faces are all upright has no volume
    upright_flat : (o : Point) → ((f : Face) → In f h → on (face_normal p f) i ≡ pos 0) → volume_at p h o ≡ pos 0
    unfolding face_normal face_vol
    upright_flat o z =
        sum_ext (λ f. face_vol p f o) (round (λ s. wall i o (p s.from) (p s.to))) h (λ f m. upright_walls i (p (corner f 0)) (p (corner f 1)) (p (corner f 2)) o (z f m))
        ∙ round_zero (λ s. wall i o (p s.from) (p s.to)) (λ s. wall_turn i o (p s.from) (p s.to))

module _ {p : Places} {n : ℕ} {h : List Face} (s : Surface p n h) (i : Axis) where
  not_all_upright : ((f : Face) → In f h → on (face_normal p f) i ≡ pos 0) → ⊥
  unfolding volume
  not_all_upright z = <ℤ_irrefl (subst (λ (v : ℤ). pos 0 <ℤ v) (upright_flat p s.closed i (p 0) z) s.positive)

  pub looks_up : (f : Face) × In f h × (pos 0 <ℤ on (face_normal p f) i)
  looks_up = some_above (λ f. on (face_normal p f) i) h (normals_zero p s.closed i) not_all_upright

  pub looks_down : (f : Face) × In f h × (on (face_normal p f) i <ℤ pos 0)
  looks_down = some_below (λ f. on (face_normal p f) i) h (normals_zero p s.closed i) not_all_upright
