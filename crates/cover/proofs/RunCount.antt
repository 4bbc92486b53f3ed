-- Every run of the construction counts every clear place once.
use mathlib.Core.Path.{◌≡◌, refl, ◌∙◌}
use mathlib.Core.Logic.{◌≢◌}
use mathlib.Core.Bool.{Bool, true, false, cond}
use mathlib.Core.List.{List, [], ◌∷◌}
use Prim.Native.Nat.{ℕ}
use lib.IntN.{ℤ, pos, ◌+ℤ◌, ◌-ℤ◌, ◌*ℤ◌}
use lib.Signed.{lt_z, lt_z_yes}
use Rattle.laws.specs.Lists.{In}
use Rattle.laws.proofs.Ring.{Ex, o, lit, var, ◌:+◌, ◌:-◌, ◌:*◌, ring}
use Rattle.laws.proofs.Members.{here, there, cons_each}
use Rattle.touches.specs.declared.Point.{Point}
use Rattle.volume.specs.Volume.{Vol}
use Rattle.volume.proofs.Axes.{X, Y, Z, on}
use Rattle.rules.specs.Faces.{Face, Places, corner, face_vol}
use Rattle.rules.specs.Start.{Start, corners, start_faces}
use Rattle.rules.specs.Building.{build, after}
use Rattle.rules.proofs.FaceLaws.{seen→}
use Rattle.rules.proofs.Hull.{Hull}
use Rattle.rules.proofs.StepLaws.{step_hull}
use Rattle.rules.proofs.CornerLaws.{starters, start_solid}
use Rattle.cover.proofs.Hits.{hits, Outward, Clear}
use Rattle.cover.proofs.CentreLaws.{in_front, middle, ray, centre, turned}
use Rattle.cover.proofs.StartCount.{Zero, start_count}
use Rattle.cover.proofs.StepCount.{step_count}

-- the four vectors from a mean have the sum 0
none : (a b c d : ℤ) → (pos 4 *ℤ a -ℤ (a +ℤ b +ℤ c +ℤ d)) +ℤ (pos 4 *ℤ b -ℤ (a +ℤ b +ℤ c +ℤ d)) +ℤ (pos 4 *ℤ c -ℤ (a +ℤ b +ℤ c +ℤ d)) +ℤ (pos 4 *ℤ d -ℤ (a +ℤ b +ℤ c +ℤ d)) ≡ pos 0
none a b c d = ring (a ∷ b ∷ c ∷ d ∷ []) (gap 0 :+ gap 1 :+ gap 2 :+ gap 3) o tt
  where
    gap : ℕ → Ex
    gap i = lit (pos 4) :* var i :- (var 0 :+ var 1 :+ var 2 :+ var 3)

exchanged : (a b c d : ℤ) → a +ℤ b +ℤ c +ℤ d ≡ b +ℤ a +ℤ c +ℤ d
exchanged a b c d = ring (a ∷ b ∷ c ∷ d ∷ []) (var 0 :+ var 1 :+ var 2 :+ var 3) (var 1 :+ var 0 :+ var 2 :+ var 3) tt

module _ (p : Places) (s : Start) (solid : Vol (p s.P) (p s.Q) (p s.R) (p s.S) ≢ pos 0) {l : List ℕ} {x : Point} (g : Clear (ray p s) l x) (taken : (t : ℕ) → In t (starters s) → In t l) where
  -- the four starting faces, in either order of P and Q
  first_count : hits (ray p s) x (start_faces (corners p s)) ≡ pos 1
  first_count = go (lt_z (pos 0) (Vol (p s.P) (p s.Q) (p s.R) (p s.S))) (turned (centre p s solid (λ t i. i)) (start_solid p s solid).hull)
    where
      P_in : In s.P l
      P_in = taken s.P (here refl)

      Q_in : In s.Q l
      Q_in = taken s.Q (there (here refl))

      R_in : In s.R l
      R_in = taken s.R (there (there (here refl)))

      S_in : In s.S l
      S_in = taken s.S (there (there (there (here refl))))

      four : Bool → List ℕ
      four b = cond b (s.P ∷ s.Q ∷ s.R ∷ s.S ∷ []) (s.Q ∷ s.P ∷ s.R ∷ s.S ∷ [])

      zero : Zero (ray p s s.P) (ray p s s.Q) (ray p s s.R) (ray p s s.S)
      zero X = none (p s.P).x (p s.Q).x (p s.R).x (p s.S).x
      zero Y = none (p s.P).y (p s.Q).y (p s.R).y (p s.S).y
      zero Z = none (p s.P).z (p s.Q).z (p s.R).z (p s.S).z

      go : (b : Bool) → Outward (ray p s) (start_faces (four b)) → hits (ray p s) x (start_faces (four b)) ≡ pos 1
      go true up = start_count g s.P s.Q s.R s.S P_in Q_in R_in S_in zero (up (s.P ∷ s.Q ∷ s.R ∷ []) (here refl))
      go false up = start_count g s.Q s.P s.R s.S Q_in P_in R_in S_in
          (λ i. exchanged (on (ray p s s.Q) i) (on (ray p s s.P) i) (on (ray p s s.R) i) (on (ray p s s.S) i) ∙ zero i) (up (s.Q ∷ s.P ∷ s.R ∷ []) (here refl))

  -- each step keeps the count
  build_count : {done : List ℕ} {h : List Face} → Hull p done h → ((t : ℕ) → In t (starters s) → In t done) → ((t : ℕ) → In t done → In t l) → (ks : List ℕ) → ((k : ℕ) → In k ks → In k l) → hits (ray p s) x (build p h ks) ≡ hits (ray p s) x h
  unfolding build face_vol
  build_count H first inside [] more = refl
  build_count {done} {h} H first inside (k ∷ ks) more =
      build_count {done = k ∷ done} (step_hull H k) (λ t i. there (first t i)) (cons_each (λ t. In t l) (more k (here refl)) inside) ks (λ j i. more j (there i))
      ∙ step_count g H k inside (more k (here refl)) (turned (centre p s solid first) H)
      (λ f m t. in_front (pos 4) (middle p s) (p (corner f 0)) (p (corner f 1)) (p (corner f 2)) (p k) (lt_z_yes tt) (turned (centre p s solid first) H f m) (seen→ p k f t))

  pub run_count : (ks : List ℕ) → ((k : ℕ) → In k ks → In k l) → hits (ray p s) x (after p s ks) ≡ pos 1
  run_count ks more = build_count (start_solid p s solid).hull (λ t i. i) taken ks more ∙ first_count
