-- A, B, C, D: the starting faces of a start are a hull of P, Q, R and S.
use mathlib.Core.Path.{refl, sym, subst}
use mathlib.Core.Logic.{◌≢◌, ◌⊎◌, inl, inr}
use mathlib.Core.Bool.{Bool, true, false, not, ◌||◌, cond}
use mathlib.Core.List.{List, [], ◌∷◌}
use Prim.Native.Nat.{ℕ, ◌<◌}
use native.Mathlib.Omega.{arith}
use lib.Dec.{T, eqb, eqb→eq}
use lib.IntN.{ℤ, pos}
use lib.Signed.{◌≤ℤ◌, ◌<ℤ◌, lt_z, lt_z_yes, lt_z_no}
use Rattle.laws.specs.Lists.{In}
use Rattle.laws.proofs.Tests.{or_either}
use Rattle.laws.proofs.Order.{neg_pos, not_lt, Sign, minus, null, plus, sign}
use Rattle.laws.proofs.Members.{here, there, all→}
use Rattle.touches.specs.declared.Point.{Point}
use Rattle.volume.specs.Volume.{Vol}
use Rattle.volume.proofs.VolumeLaws.{alt_ab}
use Rattle.rules.specs.Faces.{Face, Places}
use Rattle.rules.specs.Start.{Start, corners, start_faces, is_start}
use Rattle.rules.proofs.Hull.{Hull, hull_touches}
use Rattle.rules.proofs.GrowthLaws.{volume_at}
use Rattle.rules.proofs.FourLaws.{four_hull, four_volume}
use Rattle.rules.proofs.StartLaws.{Started, Q<R, R<S, S<n}

abbrev pub starters : Start → List ℕ
starters s = s.P ∷ s.Q ∷ s.R ∷ s.S ∷ []

pub starters_below : {p : Places} {n : ℕ} {s : Start} → Started p n s → (t : ℕ) → In t (starters s) → t < n
starters_below {p} {n} {s} h = all→ (λ t. t < n) (starters s) (omega (arith, h.P_zero, S<n h), (omega (arith, Q<R h, R<S h, S<n h), (omega (arith, R<S h, S<n h), (S<n h, tt))))

pub starter_in : (s : Start) (k : ℕ) → T (is_start s k) → In k (starters s)
starter_in s k t = go₁ (or_either (eqb k s.P) (eqb k s.Q || (eqb k s.R || eqb k s.S)) t)
  where
    go₃ : T (eqb k s.R) ⊎ T (eqb k s.S) → In k (starters s)
    go₃ (inl t) = there (there (here (eqb→eq k s.R t)))
    go₃ (inr t) = there (there (there (here (eqb→eq k s.S t))))

    go₂ : T (eqb k s.Q) ⊎ T (eqb k s.R || eqb k s.S) → In k (starters s)
    go₂ (inl t) = there (here (eqb→eq k s.Q t))
    go₂ (inr t) = go₃ (or_either (eqb k s.R) (eqb k s.S) t)

    go₁ : T (eqb k s.P) ⊎ T (eqb k s.Q || (eqb k s.R || eqb k s.S)) → In k (starters s)
    go₁ (inl t) = here (eqb→eq k s.P t)
    go₁ (inr t) = go₂ (or_either (eqb k s.Q) (eqb k s.R || eqb k s.S) t)

negative : (z : ℤ) → z ≢ pos 0 → z ≤ℤ pos 0 → z <ℤ pos 0
negative z n h = go (sign z)
  where
    go : Sign z → z <ℤ pos 0
    go (minus x) = x
    go (null x) = absurd (n x)
    go (plus x) = absurd (not_lt h x)

-- they are a hull of P, Q, R, S, with a positive volume from any point
pub record Solid (p : Places) (s : Start) (h : List Face) : Type 0 where
  pub hull : Hull p (starters s) h
  pub volume : (o : Point) → pos 0 <ℤ volume_at p h o

pub start_solid : (p : Places) (s : Start) → Vol (p s.P) (p s.Q) (p s.R) (p s.S) ≢ pos 0 → Solid p s (start_faces (corners p s))
start_solid p s n = go (lt_z (pos 0) v) (λ t. lt_z_yes t) (λ t. lt_z_no t)
  where
    v : ℤ
    v = Vol (p s.P) (p s.Q) (p s.R) (p s.S)

    swap : (i j k l t : ℕ) → In t (i ∷ j ∷ k ∷ l ∷ []) → In t (j ∷ i ∷ k ∷ l ∷ [])
    swap i j k l = all→ (λ t. In t (j ∷ i ∷ k ∷ l ∷ [])) (i ∷ j ∷ k ∷ l ∷ []) (there (here refl), (here refl, (there (there (here refl)), (there (there (there (here refl))), tt))))

    go : (b : Bool) → (T b → pos 0 <ℤ v) → (T (not b) → v ≤ℤ pos 0) → Solid p s (start_faces (cond b (s.P ∷ s.Q ∷ s.R ∷ s.S ∷ []) (s.Q ∷ s.P ∷ s.R ∷ s.S ∷ [])))
    go true up down = record {
      hull = four_hull p s.P s.Q s.R s.S (up tt);
      volume = λ o. subst (λ (z : ℤ). pos 0 <ℤ z) (sym (four_volume p s.P s.Q s.R s.S o)) (up tt);
    }
    go false up down = record {
      hull = hull_touches (four_hull p s.Q s.P s.R s.S flipped) (swap s.Q s.P s.R s.S) (swap s.P s.Q s.R s.S);
      volume = λ o. subst (λ (z : ℤ). pos 0 <ℤ z) (sym (four_volume p s.Q s.P s.R s.S o)) flipped;
    }
      where
        flipped : pos 0 <ℤ Vol (p s.Q) (p s.P) (p s.R) (p s.S)
        flipped = subst (λ (z : ℤ). pos 0 <ℤ z) (sym (alt_ab (p s.P) (p s.Q) (p s.R) (p s.S))) (neg_pos (negative v n (down tt)))
