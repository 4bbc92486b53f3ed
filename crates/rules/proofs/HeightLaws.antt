-- V along a plumb line, by the plane's whole numbers; the order of heights.
use mathlib.Core.Path.{◌≡◌, sym, ◌∙◌, subst}
use mathlib.Core.Logic.{◌↔◌}
use mathlib.Core.List.{List, [], ◌∷◌}
use lib.Dec.{lit≤}
use lib.IntN.{ℤ, pos, negsuc, ◌-ℤ◌, ◌*ℤ◌}
use lib.Signed.{◌≤ℤ◌}
use Rattle.laws.specs.Numbers.{Within}
use Rattle.laws.proofs.Order.{sub_nonneg, of_sub_nonneg}
use Rattle.laws.proofs.Ring.{o, one, var, ◌:+◌, ◌:-◌, ◌:*◌, ring}
use Rattle.laws.proofs.Certificates.{combine, eqn}
use Rattle.laws.proofs.Fractions.{across_trans}
use Rattle.laws.proofs.WithinLaws.{within_neg}
use Rattle.touches.specs.Limits.{reach}
use Rattle.touches.specs.Touches.{Near}
use Rattle.volume.specs.Volume.{most_normal, most_volume}
use Rattle.volume.proofs.Axes.{Z}
use Rattle.volume.proofs.VolumeLaws.{vol_within}
use Rattle.volume.proofs.PlaneLaws.{plane_vol, normal_within}
use Rattle.rules.specs.Faces.{Face, Places, corner, face_vol}
use Rattle.rules.specs.Demands.{OnOrInside}
use Rattle.rules.specs.Plumb.{face_normal, face_offset, facing, rest, Fraction, height}
use Rattle.rules.specs.Heights.{over, whole, Proper, AtMost, vol_at, OnOrInsideAt, Fits}

pub at_most_trans : (s t u : Fraction) → Proper s → Proper t → Proper u → AtMost s t → AtMost t u → AtMost s u
at_most_trans s t u = across_trans s.top s.bottom t.top t.bottom u.top u.bottom

module _ (p : Places) (f : Face) (x y : ℤ) where
  pub plumb_vol : (z : ℤ) → face_vol p f (over x y z) ≡ rest p x y f -ℤ facing p f *ℤ z
  unfolding face_vol face_normal face_offset
  plumb_vol z =
      plane_vol (p (corner f 0)) (p (corner f 1)) (p (corner f 2)) (over x y z)
      ∙ ring (face_offset p f ∷ (face_normal p f).x ∷ (face_normal p f).y ∷ (face_normal p f).z ∷ x ∷ y ∷ z ∷ []) (var 0 :- (var 1 :* var 4 :+ var 2 :* var 5 :+ var 3 :* var 6)) (var 0 :- var 1 :* var 4 :- var 2 :* var 5 :- var 3 :* var 6) tt

  at_height : (t : Fraction) → vol_at p f x y t ≡ rest p x y f *ℤ t.bottom -ℤ facing p f *ℤ t.top
  at_height t = combine (face_vol p f (over x y (pos 0)) ∷ face_vol p f (over x y (pos 1)) ∷ rest p x y f ∷ facing p f ∷ t.bottom ∷ t.top ∷ [])
      (eqn (var 4 :- var 5) (var 0) (var 2 :- var 3 :* o) ∷ eqn (var 5) (var 1) (var 2 :- var 3 :* one) ∷ [])
      (var 0 :* var 4 :+ (var 1 :- var 0) :* var 5) (var 2 :* var 4 :- var 3 :* var 5) tt (plumb_vol (pos 0)) (plumb_vol (pos 1))

  -- at a whole height it is V
  at_whole : (z : ℤ) → vol_at p f x y (whole z) ≡ face_vol p f (over x y z)
  at_whole z = at_height (whole z) ∙ ring (rest p x y f ∷ facing p f ∷ z ∷ []) (var 0 :* one :- var 1 :* var 2) (var 0 :- var 1 :* var 2) tt ∙ sym (plumb_vol z)

  pub behind_at : (t : Fraction) → (pos 0 ≤ℤ vol_at p f x y t) ↔ ((facing p f *ℤ t.top) ≤ℤ (rest p x y f *ℤ t.bottom))
  behind_at t = ((λ h. of_sub_nonneg (subst (λ (v : ℤ). pos 0 ≤ℤ v) (at_height t) h)), (λ h. subst (λ (v : ℤ). pos 0 ≤ℤ v) (sym (at_height t)) (sub_nonneg h)))

pub whole_height : (p : Places) (h : List Face) (x y z : ℤ) → OnOrInsideAt p h x y (whole z) ↔ OnOrInside p h (over x y z)
whole_height p h x y z = (
  (λ d f m. subst (λ (v : ℤ). pos 0 ≤ℤ v) (at_whole p f x y z) (d f m)),
  (λ d f m. subst (λ (v : ℤ). pos 0 ≤ℤ v) (sym (at_whole p f x y z)) (d f m)),
)

-- ---- the size of facing, rest and height within range
pub height_fits : (s r : ℤ) → Within most_normal s → Within most_volume r → Fits (height s r)
height_fits (pos n) r hs hr = record { top = hr; bottom = hs }
height_fits (negsuc n) r hs hr = record { top = within_neg hr; bottom = within_neg hs }

module _ (p : Places) (f : Face) (a : Near (p (corner f 0))) (b : Near (p (corner f 1))) (c : Near (p (corner f 2))) where
  pub facing_within : Within most_normal (facing p f)
  unfolding face_normal
  facing_within = normal_within a b c Z

  -- the rest is V at height 0
  pub rest_within : {x y : ℤ} → Within reach x → Within reach y → Within most_volume (rest p x y f)
  unfolding face_vol
  rest_within {x} {y} hx hy = subst (Within most_volume) (plumb_vol p f x y (pos 0) ∙ ring (rest p x y f ∷ facing p f ∷ []) (var 0 :- var 1 :* o) (var 0) tt)
      (vol_within a b c (record { x = hx; y = hy; z = record { within = lit≤ tt } }))
