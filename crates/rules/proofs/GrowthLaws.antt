-- What a step does to the volume (L5): it adds the sum of −V(f,k) over the faces visible from k.
use mathlib.Core.Path.{◌≡◌, refl, ◌∙◌, ap}
use mathlib.Core.List.{List, [], ◌∷◌, map}
use Prim.Native.Nat.{ℕ}
use native.Mathlib.Omega.{arith}
use lib.Dec.{T}
use lib.IntN.{ℤ, pos, neg_ℤ, ◌+ℤ◌}
use lib.Signed.{◌≤ℤ◌, ◌<ℤ◌}
use Rattle.laws.specs.Lists.{In, sum_z}
use Rattle.laws.proofs.Integers.{up_neg, dn_neg, sum_is}
use Rattle.laws.proofs.Order.{zs, pos_is, <→≤, neg_pos}
use Rattle.laws.proofs.Ring.{one, var, ◌:+◌, neg}
use Rattle.laws.proofs.Certificates.{combine, eqn}
use Rattle.laws.proofs.Members.{in_keep, keep_in}
use Rattle.laws.proofs.Sums.{sum_append, sum_ext, sum_add, sum_map, sum_neg, sum_split, sum_pos, sum_nonneg}
use Rattle.touches.specs.declared.Point.{Point}
use Rattle.volume.specs.Volume.{Vol}
use Rattle.volume.proofs.VolumeLaws.{alt_ab, co}
use Rattle.rules.specs.Faces.{Face, Places, Side, side, corner, face_vol, visible, sides, border}
use Rattle.rules.specs.Building.{cone, seen, unseen, step}
use Rattle.rules.proofs.FaceLaws.{seen→}
use Rattle.rules.proofs.BorderLaws.{sum_border}
use Rattle.rules.proofs.Hull.{Hull}
use Rattle.rules.proofs.StepLaws.{seen_once}

-- the sum of V(face, o) over the faces, for any point o; the volume is that at touch 0
abbrev pub volume_at : Places → List Face → Point → ℤ
volume_at p h o = sum_z (λ f. face_vol p f o) h

-- ---- a sum over the sides, face by face
abbrev pub round : (Side → ℤ) → Face → ℤ
round g f = g (side (corner f 0) (corner f 1)) +ℤ g (side (corner f 1) (corner f 2)) +ℤ g (side (corner f 2) (corner f 0))

regroup : (x y z r s : ℤ) → r ≡ s → x +ℤ y +ℤ z +ℤ r ≡ x +ℤ (y +ℤ (z +ℤ s))
regroup x y z r s e = combine (x ∷ y ∷ z ∷ r ∷ s ∷ []) (eqn one (var 3) (var 4) ∷ []) (var 0 :+ var 1 :+ var 2 :+ var 3) (var 0 :+ (var 1 :+ (var 2 :+ var 4))) tt e

pub sum_sides : (g : Side → ℤ) (h : List Face) → sum_z (round g) h ≡ sum_z g (sides h)
sum_sides g [] = refl
sum_sides g (f ∷ h) = regroup (g (side (corner f 0) (corner f 1))) (g (side (corner f 1) (corner f 2))) (g (side (corner f 2) (corner f 0))) (sum_z (round g) h) (sum_z g (sides h)) (sum_sides g h)

add_up : (h s u b v c w : ℤ) → h ≡ s +ℤ u → s ≡ b +ℤ v → b ≡ c → w ≡ u +ℤ c → w +ℤ v ≡ h
add_up h s u b v c w e₁ e₂ e₃ e₄ = combine (h ∷ s ∷ u ∷ b ∷ v ∷ c ∷ w ∷ [])
    (eqn (neg one) (var 0) (var 1 :+ var 2) ∷ eqn (neg one) (var 1) (var 3 :+ var 4) ∷ eqn (neg one) (var 3) (var 5) ∷ eqn one (var 6) (var 2 :+ var 5) ∷ [])
    (var 6 :+ var 4) (var 0) tt e₁ e₂ e₃ e₄

less : (w v h n : ℤ) → w +ℤ v ≡ h → n ≡ neg_ℤ v → pos 0 <ℤ n → h <ℤ w
less w v h n e f l = omega (arith, zs, sum_is w v, up_neg v, dn_neg v, pos_is 0)

less_eq : (w v h n : ℤ) → w +ℤ v ≡ h → n ≡ neg_ℤ v → pos 0 ≤ℤ n → h ≤ℤ w
less_eq w v h n e f l = omega (arith, zs, sum_is w v, up_neg v, dn_neg v, pos_is 0)

module _ {p : Places} {done : List ℕ} {h : List Face} (H : Hull p done h) (k : ℕ) (o : Point) where
  at_k : Face → ℤ
  at_k f = face_vol p f (p k)

  -- V(p,q,k,o) of a side p→q: CO says what it sums to over a face
  fan : Side → ℤ
  fan s = Vol (p s.from) (p s.to) (p k) o

  seen_sum : volume_at p (seen p h k) o ≡ sum_z fan (sides (seen p h k)) +ℤ sum_z at_k (seen p h k)
  unfolding face_vol fan at_k
  seen_sum =
      sum_ext (λ f. face_vol p f o) (λ f. round fan f +ℤ at_k f) (seen p h k) (λ f m. co (p (corner f 0)) (p (corner f 1)) (p (corner f 2)) o (p k))
      ∙ sum_add (round fan) at_k (seen p h k) ∙ ap (λ (z : ℤ). z +ℤ sum_z at_k (seen p h k)) (sum_sides fan (seen p h k))

  new_sum : volume_at p (step p h k) o ≡ volume_at p (unseen p h k) o +ℤ sum_z fan (border (seen p h k))
  unfolding step face_vol fan
  new_sum =
      sum_append (λ f. face_vol p f o) (unseen p h k) (map (cone k) (border (seen p h k)))
      ∙ ap (λ (z : ℤ). volume_at p (unseen p h k) o +ℤ z) (sum_map (λ f. face_vol p f o) (cone k) (border (seen p h k)))

  old_sum : volume_at p h o ≡ volume_at p (seen p h k) o +ℤ volume_at p (unseen p h k) o
  unfolding seen unseen
  old_sum = sum_split (λ f. face_vol p f o) (visible p k) h

  border_sum : sum_z fan (sides (seen p h k)) ≡ sum_z fan (border (seen p h k))
  unfolding fan
  border_sum = sum_border (seen p h k) fan (λ s i. alt_ab (p s.from) (p s.to) (p k) o) (seen_once H k)

  -- the new volume and the sum of V(f,k) over the visible faces is the old volume
  pub step_volume : volume_at p (step p h k) o +ℤ sum_z (λ f. face_vol p f (p k)) (seen p h k) ≡ volume_at p h o
  unfolding at_k
  step_volume =
      add_up (volume_at p h o) (volume_at p (seen p h k) o) (volume_at p (unseen p h k) o) (sum_z fan (sides (seen p h k))) (sum_z at_k (seen p h k)) (sum_z fan (border (seen p h k))) (volume_at p (step p h k) o)
      old_sum seen_sum border_sum new_sum

  seen_neg : (f : Face) → In f (seen p h k) → pos 0 <ℤ neg_ℤ (face_vol p f (p k))
  unfolding seen
  seen_neg f m = neg_pos {a = face_vol p f (p k)} (seen→ p k f (in_keep (visible p k) h m).1)

  -- it never falls
  pub step_keeps : volume_at p h o ≤ℤ volume_at p (step p h k) o
  step_keeps = less_eq (volume_at p (step p h k) o) (sum_z (λ f. face_vol p f (p k)) (seen p h k)) (volume_at p h o) (sum_z (λ f. neg_ℤ (face_vol p f (p k))) (seen p h k)) step_volume
      (sum_neg (λ f. face_vol p f (p k)) (seen p h k)) (sum_nonneg (λ f. neg_ℤ (face_vol p f (p k))) (seen p h k) (λ f m. <→≤ (seen_neg f m)))

  -- it grows if a face is visible
  pub step_grows : (f : Face) → In f h → T (visible p k f) → volume_at p h o <ℤ volume_at p (step p h k) o
  unfolding seen
  step_grows f m t = less (volume_at p (step p h k) o) (sum_z (λ f. face_vol p f (p k)) (seen p h k)) (volume_at p h o) (sum_z (λ f. neg_ℤ (face_vol p f (p k))) (seen p h k)) step_volume
      (sum_neg (λ f. face_vol p f (p k)) (seen p h k))
      (sum_pos (λ f. neg_ℤ (face_vol p f (p k))) (seen p h k) (λ g i. <→≤ (seen_neg g i)) (keep_in (visible p k) h m t) (seen_neg f (keep_in (visible p k) h m t)))
