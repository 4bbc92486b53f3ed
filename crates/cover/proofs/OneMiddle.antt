-- No touch is the middle of two faces that both rise or both fall: a direction would be inside the cones of both.
use mathlib.Core.Path.{◌≡◌, subst}
use mathlib.Core.List.{List, [], ◌∷◌}
use Prim.Native.Nat.{ℕ}
use lib.Signed.{lt_z_yes}
use Rattle.laws.proofs.Order.{<_trans, sub_pos, mul_pos_pos}
use Rattle.laws.proofs.Members.{Pw-weak}
use Rattle.laws.proofs.Labels.{Single}
use Rattle.touches.specs.declared.Point.{Point}
use Rattle.rules.specs.Faces.{Face, Places}
use Rattle.cover.specs.Cones.{InsideCone, Centre, rays, Once}
use Rattle.cover.proofs.Heights.{down}
use Rattle.cover.proofs.Mixes.{mix_inside, mix_of}
use Rattle.cover.proofs.Level.{lean, lean_same}
use Rattle.cover.proofs.Middle.{Middle, Rising, Falling, fall_rise}

-- ---- two faces that rise from t, and a direction inside both cones
module _ {m : Point} {v : Places} {l : List ℕ} {t : ℕ} where
  abbrev shared : Middle m v l t → Middle m v l t → Point
  shared k k' = lean m (v t) (v k.u) (v k.w) (v k'.u) (v k'.w)

  in_first : {f g : Face} (a : Rising m v l f t) (b : Rising m v l g t) → InsideCone v f (shared a.0 b.0)
  in_first (k, r) (k', r') = r.inside (shared k k') (mix_inside v (t ∷ k.u ∷ k.w ∷ []) r.outward (lt_z_yes tt) (mix_of _ _ _ _ _ _)
      (mul_pos_pos r.outward (sub_pos (<_trans k'.under k'.over))) (mul_pos_pos r'.outward (sub_pos k.under)) (mul_pos_pos r'.outward (sub_pos k.over)))

  either_way : {f g : Face} (a : Rising m v l f t) (b : Rising m v l g t) → shared a.0 b.0 ≡ shared b.0 a.0
  either_way (k, r) (k', r') = lean_same m (v t) (v k.u) (v k.w) (v k'.u) (v k'.w) k.over k.under k'.over k'.under
      (r.behind k'.u k'.u_in) (r.behind k'.w k'.w_in) (r'.behind k.u k.u_in) (r'.behind k.w k.w_in)

  meet : {f g : Face} → Rising m v l f t → Rising m v l g t → (x : Point) × InsideCone v f x × InsideCone v g x
  meet {f} {g} a b = (shared a.0 b.0, in_first a b, subst (InsideCone v g) (either_way b a) (in_first b a))

-- ---- so it is where no direction is inside two cones
module _ {p : Places} {done : List ℕ} (c : Centre p done) (h : List Face) (once : Once c h) where
  pub one_rising : (m : Point) → Single (Rising m (rays c) done) h
  one_rising m = Pw-weak {S = λ f g. (t : ℕ) → Rising m (rays c) done f t → Rising m (rays c) done g t → ⊥} h (λ f g i j apart t a b. let x = meet a b in apart x.0 x.1 x.2) once

  pub one_falling : (m : Point) → Single (Falling m (rays c) done) h
  one_falling m = Pw-weak {S = λ f g. (t : ℕ) → Falling m (rays c) done f t → Falling m (rays c) done g t → ⊥} h (λ f g i j apart t a b. apart t (fall_rise a) (fall_rise b)) (one_rising (down m))
