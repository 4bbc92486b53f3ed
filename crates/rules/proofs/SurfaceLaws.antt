-- Demand 2: the hull of n touches is a closed surface over them, with a body and no touch in front.
use mathlib.Core.Path.{◌≡◌, subst}
use mathlib.Core.List.{List}
use mathlib.Core.Option.{some}
use Prim.Native.Nat.{ℕ, ◌<◌}
use native.Mathlib.Omega.{arith}
use lib.IntN.{pos}
use lib.Signed.{◌<ℤ◌}
use Rattle.laws.specs.Lists.{In, upward}
use Rattle.laws.proofs.Firsts.{in_upward, upward_in}
use Rattle.rules.specs.Faces.{Face, Places}
use Rattle.rules.specs.Building.{others, hull, volume}
use Rattle.rules.specs.Demands.{Surface}
use Rattle.rules.proofs.Hull.{Hull, hull_closed, off_line, hull_corners}
use Rattle.rules.proofs.StartLaws.{started}
use Rattle.rules.proofs.AfterLaws.{after_positive, hull_built, all_taken}

module _ (p : Places) (n : ℕ) {h : List Face} (e : hull p n ≡ some h) where
  pub whole_hull : Hull p (upward 0 n) h
  whole_hull = let b = hull_built p n e in subst (Hull p (upward 0 n)) b.2 (all_taken (started p n b.1))

  pub number_below : (t : ℕ) → In t (upward 0 n) → t < n
  number_below t m = omega (arith, in_upward 0 n m)

  positive_volume : pos 0 <ℤ volume p h
  unfolding volume
  positive_volume = let b = hull_built p n e in subst (λ (g : List Face). pos 0 <ℤ volume p g) b.2 (after_positive (started p n b.1) (others b.0 n) (p 0))

  pub surface_of : Surface p n h
  surface_of = record {
    closed = hull_closed whole_hull;
    corners = hull_corners whole_hull n number_below;
    behind = λ t l f m. whole_hull.supporting f m t (upward_in 0 n t (omega arith) (omega arith));
    body = λ f m. let t = whole_hull.body f m in (t.0, number_below t.0 t.1, t.2);
    off_line = off_line whole_hull;
    positive = positive_volume;
  }
