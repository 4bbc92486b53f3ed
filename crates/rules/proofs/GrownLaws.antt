-- Demand 3: what more touches do to a hull.
use mathlib.Core.Path.{◌≡◌, sym, ◌∙◌, ap, subst}
use mathlib.Core.Logic.{◌⊎◌, inl, inr}
use mathlib.Core.Bool.{not}
use mathlib.Core.List.{List}
use mathlib.Core.Option.{some}
use Prim.Native.Nat.{ℕ, ◌+◌, ◌≤◌, ◌<◌}
use lib.Dec.{T}
use lib.IntN.{ℤ, pos}
use lib.Signed.{◌≤ℤ◌, ◌<ℤ◌, <ℤ_irrefl}
use Rattle.laws.specs.Lists.{In, upward}
use Rattle.laws.proofs.Firsts.{in_upward, upward_in}
use Rattle.touches.specs.declared.Point.{Point}
use Rattle.rules.specs.Faces.{Face, Places, face_vol, visible}
use Rattle.rules.specs.Start.{start}
use Rattle.rules.specs.Building.{build, hull, volume}
use Rattle.rules.specs.Demands.{OnOrInside, Outside, Surface, Growth}
use Rattle.rules.specs.Alike.{Alike}
use Rattle.rules.proofs.FaceLaws.{seen→, →seen, →unseen, face_agree}
use Rattle.rules.proofs.BuildLaws.{build_inside, build_within, build_keeps, build_grows, build_same, someone_sees}
use Rattle.rules.proofs.StartLaws.{started, start_is, started_more}
use Rattle.rules.proofs.AfterLaws.{hull_some, hull_built, after_more}
use Rattle.rules.proofs.AlikeLaws.{agree_alike, start_alike, hull_alike, volume_alike}
use Rattle.rules.proofs.SurfaceLaws.{whole_hull, surface_of}

-- r agrees with p on the n touches, and has m more
module _ (p r : Places) (n m : ℕ) {h : List Face} (agree : (t : ℕ) → t < n → p t ≡ r t) (e : hull p n ≡ some h) where
  alike : Alike p r n
  alike = agree_alike agree

  later : hull r n ≡ some h
  later = sym (hull_alike alike) ∙ e

  grown : List Face
  grown = build r h (upward n m)

  surface : Surface p n h
  surface = surface_of p n e

  moved : (f : Face) → In f h → (q : Point) → face_vol p f q ≡ face_vol r f q
  moved f i q = face_agree agree (surface.corners f i) q

  same_volume : volume p h ≡ volume r h
  same_volume = volume_alike alike e

  grown_hull : hull r (n + m) ≡ some grown
  unfolding grown
  grown_hull = let b = hull_built r n later in
      hull_some r (n + m) (start_is r (n + m) (started_more (started r n b.1) m))
      ∙ ap some (after_more (started r n b.1) m ∙ ap (λ (g : List Face). build r g (upward n m)) b.2)

  same_start : start r (n + m) ≡ start p n
  same_start = let b = hull_built r n later in start_is r (n + m) (started_more (started r n b.1) m) ∙ sym (start_alike alike ∙ b.1)

  -- a touch of the m that is in front of a face makes the volume rise; if none is, the list is the same
  seen_rises : (t : ℕ) → n ≤ t → t < n + m → Outside p h (r t) → volume p h <ℤ volume r grown
  unfolding volume grown
  seen_rises t l k u = subst (λ (z : ℤ). z <ℤ volume r grown) (sym same_volume)
      (build_grows (whole_hull r n later) (upward n m) (r 0) t (upward_in n m t l k) u.0 u.1 (→seen r t u.0 (subst (λ (z : ℤ). z <ℤ pos 0) (moved u.0 u.1 (r t)) u.2)))

  none_same : ((t : ℕ) → n ≤ t → t < n + m → OnOrInside p h (r t)) → grown ≡ h
  unfolding grown
  none_same d = build_same r h (upward n m) (λ t i f j. →unseen r t f (subst (λ (z : ℤ). pos 0 ≤ℤ z) (moved f j (r t)) (d t (in_upward n m i).0 (in_upward n m i).1 f j)))

  rises_seen : volume p h <ℤ volume r grown → (t : ℕ) × (n ≤ t) × (t < n + m) × Outside p h (r t)
  unfolding grown
  rises_seen l = go (someone_sees r h (upward n m))
    where
      go : ((t : ℕ) × In t (upward n m) × (f : Face) × In f h × T (visible r t f)) ⊎ ((t : ℕ) → In t (upward n m) → (f : Face) → In f h → T (not (visible r t f))) → (t : ℕ) × (n ≤ t) × (t < n + m) × Outside p h (r t)
      go (inl u) = (u.0, (in_upward n m u.1).0, (in_upward n m u.1).1, (u.2, u.3, subst (λ (z : ℤ). z <ℤ pos 0) (sym (moved u.2 u.3 (r u.0))) (seen→ r u.0 u.2 u.4)))
      go (inr d) = absurd (<ℤ_irrefl (subst (λ (z : ℤ). z <ℤ volume r grown) (same_volume ∙ ap (volume r) (sym (build_same r h (upward n m) d))) l))

  grown_growth : Growth p r n m h grown
  unfolding volume grown
  grown_growth = record {
    begins = same_start;
    inside = λ q d. build_inside (whole_hull r n later) (upward n m) q (λ f i. subst (λ (z : ℤ). pos 0 <ℤ z) (moved f i q) (d f i));
    on = λ q d. build_within (whole_hull r n later) (upward n m) q (λ f i. subst (λ (z : ℤ). pos 0 ≤ℤ z) (moved f i q) (d f i));
    keeps = subst (λ (z : ℤ). z ≤ℤ volume r grown) (sym same_volume) (build_keeps (whole_hull r n later) (upward n m) (r 0));
    rises = (rises_seen, (λ u. seen_rises u.0 u.1 u.2 u.3));
    same = none_same;
  }

  -- it is never flat, and demand 3 holds of it
  pub hull_grows : (g : List Face) × (hull r (n + m) ≡ some g) × Growth p r n m h g
  hull_grows = (grown, grown_hull, grown_growth)
