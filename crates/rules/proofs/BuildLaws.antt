-- Step after step: the invariant, inside and on or inside, and the volume, over any list of further touches.
use mathlib.Core.Path.{◌≡◌, refl, sym, ◌∙◌, ap, subst}
use mathlib.Core.Logic.{◌⊎◌, inl, inr}
use mathlib.Core.Bool.{not}
use mathlib.Core.List.Memᴰ
use mathlib.Core.List.{List, [], ◌∷◌, ◌++◌}
use Prim.Native.Nat.{ℕ}
use lib.Dec.{T, T_not}
use lib.Signed.{◌≤ℤ◌, ◌<ℤ◌, <ℤ-≤ℤ_trans}
use Rattle.laws.specs.Lists.{In}
use Rattle.laws.proofs.Order.{≤_refl, ≤_trans}
use Rattle.laws.proofs.Members.{here, there, find, in_append, append_l, append_r}
use Rattle.touches.specs.declared.Point.{Point}
use Rattle.rules.specs.Faces.{Face, Places, visible}
use Rattle.rules.specs.Building.{step, build}
use Rattle.rules.specs.Demands.{Inside, OnOrInside}
use Rattle.rules.proofs.Hull.{Hull, hull_touches}
use Rattle.rules.proofs.StepLaws.{step_hull, step_inside, step_within, step_same}
use Rattle.rules.proofs.GrowthLaws.{volume_at, step_keeps, step_grows}

pub build_append : (p : Places) (h : List Face) (ks ms : List ℕ) → build p h (ks ++ ms) ≡ build p (build p h ks) ms
unfolding build
build_append p h [] ms = refl
build_append p h (k ∷ ks) ms = build_append p (step p h k) ks ms

-- touches that are in front of no face change nothing
pub build_same : (p : Places) (h : List Face) (ks : List ℕ) → ((k : ℕ) → In k ks → (f : Face) → In f h → T (not (visible p k f))) → build p h ks ≡ h
unfolding build
build_same p h [] n = refl
build_same p h (k ∷ ks) n = ap (λ (g : List Face). build p g ks) (step_same p h k (n k (here refl))) ∙ build_same p h ks (λ j m. n j (there m))

pub build_hull : {p : Places} {done : List ℕ} {h : List Face} → Hull p done h → (ks : List ℕ) → Hull p (ks ++ done) (build p h ks)
unfolding build
build_hull H [] = H
build_hull {p} {done} {h} H (k ∷ ks) = hull_touches (build_hull {done = k ∷ done} (step_hull H k) ks) (λ t m. to t (in_append ks m)) (λ t m. from t (Memᴰ.cases_cons m))
  where
    to : (t : ℕ) → In t ks ⊎ In t (k ∷ done) → In t (k ∷ (ks ++ done))
    to t (inl i) = there (append_l done i)
    to t (inr i) = last (Memᴰ.cases_cons i)
      where
        last : (t ≡ k) ⊎ In t done → In t (k ∷ (ks ++ done))
        last (inl e) = here e
        last (inr j) = there (append_r ks j)

    from : (t : ℕ) → (t ≡ k) ⊎ In t (ks ++ done) → In t (ks ++ (k ∷ done))
    from t (inl e) = append_r ks (here e)
    from t (inr i) = last (in_append ks i)
      where
        last : In t ks ⊎ In t done → In t (ks ++ (k ∷ done))
        last (inl j) = append_l (k ∷ done) j
        last (inr j) = append_r ks (there j)

pub build_inside : {p : Places} {done : List ℕ} {h : List Face} → Hull p done h → (ks : List ℕ) (q : Point) → Inside p h q → Inside p (build p h ks) q
unfolding build
build_inside H [] q d = d
build_inside {done = done} H (k ∷ ks) q d = build_inside {done = k ∷ done} (step_hull H k) ks q (step_inside H k q d)

pub build_within : {p : Places} {done : List ℕ} {h : List Face} → Hull p done h → (ks : List ℕ) (q : Point) → OnOrInside p h q → OnOrInside p (build p h ks) q
unfolding build
build_within H [] q d = d
build_within {done = done} H (k ∷ ks) q d = build_within {done = k ∷ done} (step_hull H k) ks q (step_within H k q d)

-- the volume never falls
pub build_keeps : {p : Places} {done : List ℕ} {h : List Face} → Hull p done h → (ks : List ℕ) (o : Point) → volume_at p h o ≤ℤ volume_at p (build p h ks) o
unfolding build
build_keeps {p} {done} {h} H [] o = ≤_refl (volume_at p h o)
build_keeps {done = done} H (k ∷ ks) o = ≤_trans (step_keeps H k o) (build_keeps {done = k ∷ done} (step_hull H k) ks o)

-- it rises if a touch is in front of a face: at the first step that changes the list
pub build_grows : {p : Places} {done : List ℕ} {h : List Face} → Hull p done h → (ks : List ℕ) (o : Point) (k : ℕ) → In k ks → (f : Face) → In f h → T (visible p k f) → volume_at p h o <ℤ volume_at p (build p h ks) o
unfolding build
build_grows H [] o k m f i t = absurd (Memᴰ.not-nil m)
build_grows {p} {done} {h} H (j ∷ ks) o k m f i t = go (λ n. build_grows H ks o k n f i t) (find (visible p j) h)
  where
    go : (In k ks → volume_at p h o <ℤ volume_at p (build p h ks) o) → ((f : Face) × In f h × T (visible p j f)) ⊎ ((f : Face) → In f h → T (not (visible p j f))) → volume_at p h o <ℤ volume_at p (build p (step p h j) ks) o
    go r (inl u) = <ℤ-≤ℤ_trans (step_grows H j o u.0 u.1 u.2) (build_keeps (step_hull H j) ks o)
    go r (inr n) = subst (λ (g : List Face). volume_at p h o <ℤ volume_at p (build p g ks) o) (sym (step_same p h j n)) (r (later (Memᴰ.cases_cons m)))
      where
        later : (k ≡ j) ⊎ In k ks → In k ks
        later (inl e) = absurd (T_not (visible p k f) (subst (λ (z : ℕ). T (not (visible p z f))) (sym e) (n f i)) t)
        later (inr m) = m

-- one of the touches sees a face, or none sees any
pub someone_sees : (p : Places) (h : List Face) (ks : List ℕ) → ((k : ℕ) × In k ks × (f : Face) × In f h × T (visible p k f)) ⊎ ((k : ℕ) → In k ks → (f : Face) → In f h → T (not (visible p k f)))
someone_sees p h [] = inr (λ k m. absurd (Memᴰ.not-nil m))
someone_sees p h (j ∷ ks) = go (find (visible p j) h) (someone_sees p h ks)
  where
    Sees : List ℕ → Type 0
    Sees ks = ((k : ℕ) × In k ks × (f : Face) × In f h × T (visible p k f)) ⊎ ((k : ℕ) → In k ks → (f : Face) → In f h → T (not (visible p k f)))

    go : ((f : Face) × In f h × T (visible p j f)) ⊎ ((f : Face) → In f h → T (not (visible p j f))) → Sees ks → Sees (j ∷ ks)
    go (inl u) r = inl (j, here refl, u.0, u.1, u.2)
    go (inr n) (inl u) = inl (u.0, there u.1, u.2, u.3, u.4)
    go (inr n) (inr r) = inr (λ k m. last k (Memᴰ.cases_cons m))
      where
        last : (k : ℕ) → (k ≡ j) ⊎ In k ks → (f : Face) → In f h → T (not (visible p k f))
        last k (inl e) = subst (λ (i : ℕ). (f : Face) → In f h → T (not (visible p i f))) (sym e) n
        last k (inr m) = r k m
