-- Within range V in doubles, the four numbers of a plane and its reading are exactly the whole number.
use mathlib.Core.Path.{◌≡◌, refl, sym, subst, ◌∙◌}
use mathlib.Core.Bool.{Bool, true, false}
use mathlib.Core.List.{List}
use Prim.Native.Nat.{ℕ}
use lib.IntN.{ℤ, neg_ℤ}
use lib.Ieee.{Float}
use Rattle.std.specs.Prelude.{Result, Ok, Err}
use Rattle.laws.specs.Doubles.{double, Exactly}
use Rattle.laws.proofs.WithinLaws.{within_neg}
use Rattle.laws.proofs.Exact.{e_exactly}
use Rattle.touches.specs.declared.Point.{Point}
use Rattle.touches.specs.declared.refusal.Refusal.{Refusal}
use Rattle.touches.specs.declared.refusal.Refusal.TheVariants.{PlaceOutOfRange}
use Rattle.touches.specs.Limits.{place_in_range}
use Rattle.touches.specs.Touches.{touch, Near}
use Rattle.touches.specs.Check.{pick}
use Rattle.touches.proofs.SoundLaws.{place_near}
use Rattle.volume.specs.Volume.{Vol, offset}
use Rattle.volume.proofs.Axes.{X, Y, Z}
use Rattle.volume.proofs.VolumeLaws.{vol_within}
use Rattle.volume.proofs.PlaneLaws.{normal_within, dot_within}
use Rattle.planes.specs.Planes.{plane_of, planed, plane_reading}
use Rattle.planes.specs.declared.Plane.{Plane}
use Rattle.planes.proofs.PlanedLaws.{Known, planed_known, planed_refused}
use Rattle.demands.specs.Demands.{ExactPlane}

pub volume_exact : {a b c d : Point} → Near a → Near b → Near c → Near d → Exactly (double (Vol a b c d)) (Vol a b c d)
volume_exact ha hb hc hd = e_exactly tt (vol_within ha hb hc hd)

plane_exact : {a b c : Point} → Near a → Near b → Near c → ExactPlane a b c (plane_of a b c)
unfolding offset
plane_exact ha hb hc = record {
  x = e_exactly tt (normal_within ha hb hc X);
  y = e_exactly tt (normal_within ha hb hc Y);
  z = e_exactly tt (normal_within ha hb hc Z);
  offset = e_exactly tt (dot_within ha hb hc ha);
}

module _ (cs : List ℤ) (a b c : ℕ) where
  pub planes_exact : (p : Plane) → planed cs a b c ≡ Ok p → ExactPlane (touch cs a) (touch cs b) (touch cs c) p
  planes_exact p e = let k = planed_known cs a b c p e in subst (ExactPlane (touch cs a) (touch cs b) (touch cs c)) (sym k.is) (plane_exact k.near_a k.near_b k.near_c)

  pub readings_exact : (q : Point) (x : Float) → plane_reading cs a b c q ≡ Ok x → Exactly x (neg_ℤ (Vol (touch cs a) (touch cs b) (touch cs c) q))
  readings_exact q x e = go (planed cs a b c) refl
    where
      v : ℤ
      v = neg_ℤ (Vol (touch cs a) (touch cs b) (touch cs c) q)

      place : {p : Plane} → Known cs a b c p → (t : Bool) → place_in_range q ≡ t → pick t (Ok (double v)) (Err PlaceOutOfRange) ≡ Ok x → Exactly x v
      place k true w f =
          let y : double v ≡ x = cc in
          subst (λ (u : Float). Exactly u v) y (e_exactly tt (within_neg (vol_within k.near_a k.near_b k.near_c (place_near q w))))
      place k false w f = cc

      go : (r : Result Plane Refusal) → planed cs a b c ≡ r → Exactly x v
      go (Ok p) f = let k = planed_known cs a b c p f in place k (place_in_range q) refl (k.reading q ∙ e)
      go (Err r) f = let g = planed_refused cs a b c r f q in cc
