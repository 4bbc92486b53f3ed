-- A whole step: the faces that stay, and the cone after them.
use mathlib.Core.Bool.{not}
use mathlib.Core.List.{List, [], map}
use Prim.Native.Nat.{ℕ, ◌+◌, ◌<◌, ◌≤◌}
use native.Mathlib.Omega.{arith}
use mathlib.Core.Path.{◌≡◌, sym, ap, subst, ◌∙◌}
use lib.IntN.{ℤ}
use lib.ListN.{length, take, get_or, length-append}
use lib.Seq.{get_or-take}
use Rattle.laws.specs.Lists.{In, Laid}
use Rattle.laws.proofs.Members.{in_keep, length_keep, get_or_in}
use Rattle.laws.proofs.Tables.{laid_before, laid_first, laid_then}
use Rattle.touches.specs.Touches.{touch, touch_count}
use Rattle.rules.specs.Faces.{Face, visible, border}
use Rattle.rules.specs.Building.{cone, seen, unseen, step}
use Rattle.rules.specs.Demands.{CornersIn, FaceOf}
use Rattle.rules.proofs.FaceLaws.{corners_map}
use Rattle.rules.proofs.StepLaws.{step_corners}
use Rattle.points.specs.Whole.{Plane, plane_on}
use Rattle.hull.specs.Whole.{Planed}
use Rattle.hull.specs.Inner.{Ready, PartOf}

module _ {cs : List ℤ} {h : List Face} {k m s : ℕ} {old mid front : List Face} (q : PartOf cs h k old m mid s front) where
  pub front_few : s ≤ length h
  unfolding seen
  front_few = omega (arith, q.count, length_keep (visible (touch cs) k) h)

  pub kept_few : m ≤ length h
  unfolding unseen
  kept_few = omega (arith, q.stay.next, length_keep (λ f. not (visible (touch cs) k f)) h)

  pub front_count : s ≡ length (take s front)
  front_count = q.count ∙ ap length (sym q.gone)

  -- the visible faces are over the touches
  pub front_faces : {w : ℕ} → touch_count cs ≤ w → Ready cs h k → (f : Face) → In f (take s front) → CornersIn (λ t. t < w) f
  unfolding seen
  front_faces l r f i = corners_map (λ t b. omega (arith, b)) (r.faces f (in_keep (visible (touch cs) k) h (subst (In f) q.gone i)).0)

  -- the cone goes where the step has room for it
  pub cone_room : {n : ℕ} → length (step (touch cs) h k) ≤ n → m + length (map (cone k) (border (take s front))) ≤ n
  unfolding step
  cone_room b = rw q.gone (omega (arith, b, q.stay.next, length-append (unseen (touch cs) h k) (map (cone k) (border (seen (touch cs) h k)))))

  pub step_laid : {r : ℕ} {after : List Face} → Laid m (map (cone k) (border (take s front))) mid r after → Laid 0 (step (touch cs) h k) old r after
  unfolding step
  step_laid c = laid_then q.stay (omega arith) (rw q.gone at c)

-- the faces of a step are over the touches
pub step_faces : {cs : List ℤ} {h : List Face} {k r : ℕ} {old after : List Face} → Ready cs h k → Laid 0 (step (touch cs) h k) old r after → (j : ℕ) → j < r → FaceOf cs (get_or after j [])
step_faces {cs} {h} {k} {r} {old} {after} d g j l =
    rw (← get_or-take r after j [] l, laid_first g) (step_corners (touch cs) h k d.faces d.touch (get_or (step (touch cs) h k) j []) (get_or_in (step (touch cs) h k) j [] (omega (arith, g.next))))

-- the planes of the faces before the place that was laid at are theirs still
pub planed_before : {cs : List ℤ} {m r : ℕ} {new mid after : List Face} {planes : List Plane} → Planed cs m mid planes → Laid m new mid r after → m ≤ length mid → Planed cs m after planes
planed_before {cs} p g b = record { each = λ j l. record { is = (p.each j l).is ∙ ap (plane_on (touch cs)) (sym (laid_before g b j [] l)) } }
