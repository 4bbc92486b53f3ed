-- Two places that are alike below n have the same hull there; places that agree below n are alike.
use mathlib.Core.Path.{◌≡◌, refl, sym, ◌∙◌, ap, ap₂, subst}
use mathlib.Core.Bool.{not, cond}
use mathlib.Core.List.Memᴰ
use mathlib.Core.List.{List, [], ◌∷◌, ◌++◌, map}
use mathlib.Core.Option.{Option, none, some}
use Prim.Native.Nat.{ℕ, ◌<◌}
use native.Mathlib.Omega.{arith}
use lib.IntN.{ℤ, pos}
use lib.Signed.{lt_z}
use Rattle.laws.specs.Lists.{In, first, upward}
use Rattle.laws.proofs.Members.{here, there, keep_ext}
use Rattle.laws.proofs.Sums.{sum_ext}
use Rattle.laws.proofs.Firsts.{first_some, first_ext, in_upward}
use Rattle.volume.specs.Volume.{Vol, in_line, is_zero}
use Rattle.rules.specs.Faces.{Face, Places, corner, face_vol, visible, border}
use Rattle.rules.specs.Start.{Start, then, same_place, find_s, find_r, start, corners, start_faces}
use Rattle.rules.specs.Building.{cone, seen, unseen, step, build, after, others, hull, volume}
use Rattle.rules.specs.Demands.{CornersIn}
use Rattle.rules.specs.Alike.{Alike}
use Rattle.rules.proofs.Hull.{hull_corners}
use Rattle.rules.proofs.StepLaws.{step_corners}
use Rattle.rules.proofs.StartLaws.{Started, started, differs, off_line, off_plane, from_0, S<n}
use Rattle.rules.proofs.CornerLaws.{starters_below}
use Rattle.rules.proofs.AfterLaws.{after_hull, taken_below, others_below, hull_built}

then_ext : {A B : Type 0} (x y : Option A) (k l : A → Option B) → x ≡ y → ((a : A) → x ≡ some a → k a ≡ l a) → then x k ≡ then y l
then_ext none y k l e h = ap (λ z. then z l) e
then_ext (some a) y k l e h = h a refl ∙ ap (λ z. then z l) e

pub agree_alike : {p r : Places} {n : ℕ} → ((t : ℕ) → t < n → p t ≡ r t) → Alike p r n
agree_alike {p} {r} {n} e = record {
  volumes = λ a b c d ha hb hc hd. λ i. Vol (e a ha i) (e b hb i) (e c hc i) (e d hd i);
  positions = λ a b ha hb. λ i. same_place (e a ha i) (e b hb i);
  lines = λ a b c ha hb hc. λ i. in_line (e a ha i) (e b hb i) (e c hc i);
}

module _ {p r : Places} {n : ℕ} (alike : Alike p r n) where
  pub face_alike : {f : Face} → CornersIn (λ t. t < n) f → (k : ℕ) → k < n → face_vol p f (p k) ≡ face_vol r f (r k)
  unfolding face_vol
  face_alike {f} c k l = alike.volumes (corner f 0) (corner f 1) (corner f 2) k c.a c.b c.c l

  -- ---- one step
  module _ (h : List Face) (c : (f : Face) → In f h → CornersIn (λ t. t < n) f) (k : ℕ) (l : k < n) where
    visible_alike : (f : Face) → In f h → visible p k f ≡ visible r k f
    unfolding visible
    visible_alike f m = ap (λ (z : ℤ). lt_z z (pos 0)) (face_alike (c f m) k l)

    step_alike : step p h k ≡ step r h k
    unfolding step seen unseen
    step_alike = ap₂ (λ (u v : List Face). u ++ map (cone k) (border v)) (keep_ext (λ f. not (visible p k f)) (λ f. not (visible r k f)) h (λ f m. ap not (visible_alike f m))) (keep_ext (visible p k) (visible r k) h visible_alike)

  build_alike : (h : List Face) → ((f : Face) → In f h → CornersIn (λ t. t < n) f) → (ks : List ℕ) → ((k : ℕ) → In k ks → k < n) → build p h ks ≡ build r h ks
  unfolding build
  build_alike h c [] l = refl
  build_alike h c (k ∷ ks) l =
      build_alike (step p h k) (step_corners p h k c (l k (here refl))) ks (λ j m. l j (there m))
      ∙ ap (λ (g : List Face). build r g ks) (step_alike h c k (l k (here refl)))

  -- ---- the start
  below : {k : ℕ} → In k (upward 0 n) → k < n
  below m = omega (arith, in_upward 0 n m)

  pub start_alike : start p n ≡ start r n
  start_alike =
      then_ext (first (differs p) (upward 0 n)) (first (differs r) (upward 0 n)) (λ q. find_r p 0 q (upward 0 n)) (λ q. find_r r 0 q (upward 0 n))
      (first_ext (differs p) (differs r) (upward 0 n) (λ q m. ap not (alike.positions 0 q (zero_below q (below m)) (below m)))) at_Q
    where
      zero_below : (k : ℕ) → k < n → 0 < n
      zero_below k l = omega arith

      at_R : (Q R : ℕ) → Q < n → R < n → find_s p 0 Q R (upward 0 n) ≡ find_s r 0 Q R (upward 0 n)
      at_R Q R hQ hR = ap (λ x. then x (λ k. some (from_0 Q R k)))
          (first_ext (off_plane p Q R) (off_plane r Q R) (upward 0 n)
          (λ s m. ap (λ (z : ℤ). not (is_zero z)) (alike.volumes 0 Q R s (zero_below Q hQ) hQ hR (below m))))

      at_Q : (Q : ℕ) → first (differs p) (upward 0 n) ≡ some Q → find_r p 0 Q (upward 0 n) ≡ find_r r 0 Q (upward 0 n)
      at_Q Q e =
          then_ext (first (off_line p Q) (upward 0 n)) (first (off_line r Q) (upward 0 n)) (λ x. find_s p 0 Q x (upward 0 n)) (λ x. find_s r 0 Q x (upward 0 n))
          (first_ext (off_line p Q) (off_line r Q) (upward 0 n) (λ x m. ap not (alike.lines 0 Q x (zero_below Q hQ) hQ (below m))))
          (λ R f. at_R Q R hQ (below (first_some (off_line p Q) (upward 0 n) f).0))
        where
          hQ : Q < n
          hQ = below (first_some (differs p) (upward 0 n) e).0

  corners_alike : {s : Start} → Started p n s → corners p s ≡ corners r s
  corners_alike {s} h = ap (λ (z : ℤ). cond (lt_z (pos 0) z) (s.P ∷ s.Q ∷ s.R ∷ s.S ∷ []) (s.Q ∷ s.P ∷ s.R ∷ s.S ∷ []))
      (alike.volumes s.P s.Q s.R s.S (at s.P (here refl)) (at s.Q (there (here refl))) (at s.R (there (there (here refl)))) (at s.S (there (there (there (here refl))))))
    where
      at : (t : ℕ) → In t (s.P ∷ s.Q ∷ s.R ∷ s.S ∷ []) → t < n
      at = starters_below h

  -- ---- the hull, and its volume
  after_alike : {s : Start} → Started p n s → (ks : List ℕ) → ((k : ℕ) → In k ks → k < n) → after p s ks ≡ after r s ks
  unfolding build
  after_alike {s} h ks l =
      build_alike (start_faces (corners p s)) (hull_corners (after_hull h []) n (taken_below h [] (λ k m. absurd (Memᴰ.not-nil m)))) ks l
      ∙ ap (λ (c : List ℕ). build r (start_faces c) ks) (corners_alike h)

  pub hull_alike : hull p n ≡ hull r n
  unfolding hull
  hull_alike = then_ext (start p n) (start r n) (λ s. some (after p s (others s n))) (λ s. some (after r s (others s n))) start_alike (λ s e. ap some (after_alike (started p n e) (others s n) (others_below s n)))

  pub volume_alike : {h : List Face} → hull p n ≡ some h → volume p h ≡ volume r h
  unfolding volume
  volume_alike {h} e = let b = hull_built p n e in let t = started p n b.1 in let c = hull_corners (after_hull t (others b.0 n)) n (taken_below t (others b.0 n) (others_below b.0 n)) in
      sum_ext (λ f. face_vol p f (p 0)) (λ f. face_vol r f (r 0)) h (λ f i. face_alike (c f (subst (λ (g : List Face). In f g) (sym b.2) i)) 0 (omega (arith, S<n t)))
