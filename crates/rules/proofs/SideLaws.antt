-- Sides of faces: their equality, their members, and pairs of them by faces.
use mathlib.Core.Path.{◌≡◌, refl, sym, subst}
use mathlib.Core.Logic.{◌⊎◌, inl, inr}
use mathlib.Core.Bool.{Bool}
use mathlib.Core.List.Memᴰ
use mathlib.Core.List.{List, [], ◌∷◌}
use lib.Dec.{T, eqb, eqb→eq, eqb_refl}
use Rattle.laws.specs.Lists.{In, keep, Pw}
use Rattle.laws.proofs.Tests.{and_both, both_and}
use Rattle.laws.proofs.Members.{here, there, all→, in_append, append_l, append_r, in_keep, Pw-keep, Pw-split, Pw-append}
use Rattle.rules.specs.Faces.{Face, Side, side, corner, same_side, sides_of, sides}

-- ---- equality
pub side_ext : {s t : Side} → s.from ≡ t.from → s.to ≡ t.to → s ≡ t
side_ext e f = λ i. record { from = e i; to = f i }

pub same_sound : (s t : Side) → T (same_side s t) → s ≡ t
same_sound s t h = let b = and_both (eqb s.from t.from) (eqb s.to t.to) h in
    side_ext {s = s} {t = t} (eqb→eq s.from t.from b.0) (eqb→eq s.to t.to b.1)

pub same_self : (s : Side) → T (same_side s s)
same_self s = both_and (eqb s.from s.from) (eqb s.to s.to) (eqb_refl s.from) (eqb_refl s.to)

-- ---- members
-- what holds of a face's three sides holds of each
pub each : (P : Side → Type 0) (f : Face) → P (side (corner f 0) (corner f 1)) → P (side (corner f 1) (corner f 2)) → P (side (corner f 2) (corner f 0)) → (s : Side) → In s (sides_of f) → P s
each P f x y z = all→ P (sides_of f) (x, (y, (z, tt)))

pub in_sides : (h : List Face) {s : Side} → In s (sides h) → (f : Face) × In f h × In s (sides_of f)
in_sides [] m = absurd (Memᴰ.not-nil m)
in_sides (f ∷ h) {s} m = go (λ n. in_sides h n) (in_append (sides_of f) {m = sides h} m)
  where
    go : (In s (sides h) → (f : Face) × In f h × In s (sides_of f)) → In s (sides_of f) ⊎ In s (sides h) → (g : Face) × In g (f ∷ h) × In s (sides_of g)
    go r (inl n) = (f, here refl, n)
    go r (inr n) = let t = r n in (t.0, there t.1, t.2)

pub sides_in : (h : List Face) {f : Face} {s : Side} → In f h → In s (sides_of f) → In s (sides h)
sides_in [] m n = absurd (Memᴰ.not-nil m)
sides_in (g ∷ h) {f} {s} m n = go (λ i. sides_in h i n) (Memᴰ.cases_cons m)
  where
    go : (In f h → In s (sides h)) → (f ≡ g) ⊎ In f h → In s (sides (g ∷ h))
    go r (inl e) = append_l (sides h) (subst (λ (x : Face). In s (sides_of x)) e n)
    go r (inr i) = append_r (sides_of g) (r i)

-- ---- pairs, by faces: so filter, append and map act on faces
abbrev pub Between : (Side → Side → Type 0) → Face → Face → Type 0
Between R f g = (s t : Side) → In s (sides_of f) → In t (sides_of g) → R s t

pub to_faces : (R : Side → Side → Type 0) (h : List Face) → Pw R (sides h) → Pw (Between R) h × ((f : Face) → In f h → Pw R (sides_of f))
to_faces R [] w = (tt, (λ f m. absurd (Memᴰ.not-nil m)))
to_faces R (f ∷ h) w =
    let t = Pw-split R (sides_of f) (sides h) w in
    let r = to_faces R h t.1 in
    (((λ g m s u i j. t.2 s u i (sides_in h m j)), r.0), (λ g m. go g t.0 (r.1 g) (Memᴰ.cases_cons m)))
  where
    go : (g : Face) → Pw R (sides_of f) → (In g h → Pw R (sides_of g)) → (g ≡ f) ⊎ In g h → Pw R (sides_of g)
    go g x r (inl e) = subst (λ (u : Face). Pw R (sides_of u)) (sym e) x
    go g x r (inr m) = r m

pub of_faces : (R : Side → Side → Type 0) (h : List Face) → Pw (Between R) h → ((f : Face) → In f h → Pw R (sides_of f)) → Pw R (sides h)
of_faces R [] w k = tt
of_faces R (f ∷ h) w k = Pw-append {R = R} (sides_of f) (sides h) (k f (here refl)) (of_faces R h w.1 (λ g m. k g (there m)))
    (λ s t i j. let u = in_sides h j in w.0 u.0 u.1 s t i u.2)

pub sides_keep : (R : Side → Side → Type 0) (q : Face → Bool) (h : List Face) → Pw R (sides h) → Pw R (sides (keep q h))
sides_keep R q h w = let t = to_faces R h w in of_faces R (keep q h) (Pw-keep (Between R) q h t.0) (λ f m. t.1 f (in_keep q h m).0)
