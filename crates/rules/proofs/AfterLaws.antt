-- After the start and any further touches there is a hull of the touches taken; and what the steps of `hull` are.
use mathlib.Core.Path.{◌≡◌, sym, ◌∙◌, ap, subst}
use mathlib.Core.Logic.{◌⊎◌, inl, inr}
use mathlib.Core.Bool.{Bool, true, false, not}
use mathlib.Core.List.{List, [], ◌∷◌, ◌++◌}
use mathlib.Core.Option.{none, some, some-injective}
use Prim.Native.Nat.{ℕ, ◌+◌, ◌≤◌, ◌<◌}
use native.Mathlib.Nat.{zero-add}
use native.Mathlib.Omega.{arith}
use lib.Dec.{T, not_T}
use lib.IntN.{pos}
use lib.Signed.{◌<ℤ◌, <ℤ-≤ℤ_trans}
use Rattle.laws.specs.Lists.{In, only_if, keep, upward}
use Rattle.laws.proofs.Tests.{T-or}
use Rattle.laws.proofs.Members.{in_append, append_l, append_r, in_keep, keep_in, keep_all, keep_append}
use Rattle.laws.proofs.Firsts.{in_upward, upward_in, upward_append}
use Rattle.touches.specs.declared.Point.{Point}
use Rattle.rules.specs.Faces.{Face, Places}
use Rattle.rules.specs.Start.{Start, then, start, corners, start_faces, is_start}
use Rattle.rules.specs.Building.{step, build, after, others, hull}
use Rattle.rules.proofs.Hull.{Hull, hull_touches}
use Rattle.rules.proofs.GrowthLaws.{volume_at}
use Rattle.rules.proofs.BuildLaws.{build_append, build_hull, build_keeps}
use Rattle.rules.proofs.StartLaws.{then_some, Started, solid}
use Rattle.rules.proofs.CornerLaws.{starters, starters_below, starter_in, Solid, start_solid}

module _ {p : Places} {n : ℕ} {s : Start} (e : Started p n s) (ks : List ℕ) where
  first_four : Solid p s (start_faces (corners p s))
  first_four = start_solid p s (solid e)

  pub after_hull : Hull p (ks ++ starters s) (after p s ks)
  after_hull = build_hull first_four.hull ks

  pub after_positive : (o : Point) → pos 0 <ℤ volume_at p (after p s ks) o
  after_positive o = <ℤ-≤ℤ_trans (first_four.volume o) (build_keeps first_four.hull ks o)

  pub taken_below : ((k : ℕ) → In k ks → k < n) → (t : ℕ) → In t (ks ++ starters s) → t < n
  taken_below below t m = go (in_append ks m)
    where
      go : In t ks ⊎ In t (starters s) → t < n
      go (inl i) = below t i
      go (inr i) = starters_below e t i

-- ---- the steps of `hull`
pub others_below : (s : Start) (n : ℕ) (k : ℕ) → In k (others s n) → k < n
others_below s n k m = omega (arith, in_upward 0 n (in_keep (λ k. not (is_start s k)) (upward 0 n) m).0)

pub others_upto : (s : Start) {k n : ℕ} → k ≤ n → (j : ℕ) → In j (others s k) → j < n
others_upto s {k} l j m = omega (arith, others_below s k j m)

pub prefix_below : (s : Start) (n : ℕ) (ks ms : List ℕ) → others s n ≡ ks ++ ms → (k : ℕ) → In k ks → k < n
prefix_below s n ks ms e k m = others_below s n k (subst (λ (l : List ℕ). In k l) (sym e) (append_l ms m))

-- the next touch is one of the start and passed over, or it is taken
others_next : (s : Start) (k : ℕ) → others s (k + 1) ≡ others s k ++ only_if (not (is_start s k)) k
others_next s k = ap (keep (λ j. not (is_start s j))) (upward_append 0 k 1 ∙ ap (λ (i : ℕ). upward 0 k ++ (i ∷ [])) (zero-add k)) ∙ keep_append (λ j. not (is_start s j)) (upward 0 k) (k ∷ [])

module _ (p : Places) (s : Start) (k : ℕ) where
  after_next : after p s (others s (k + 1)) ≡ build p (after p s (others s k)) (only_if (not (is_start s k)) k)
  after_next = ap (after p s) (others_next s k) ∙ build_append p (start_faces (corners p s)) (others s k) (only_if (not (is_start s k)) k)

  pub after_skip : is_start s k ≡ true → after p s (others s (k + 1)) ≡ after p s (others s k)
  unfolding build
  after_skip e = after_next ∙ ap (λ (b : Bool). build p (after p s (others s k)) (only_if (not b) k)) e

  pub after_step : is_start s k ≡ false → after p s (others s (k + 1)) ≡ step p (after p s (others s k)) k
  unfolding build
  after_step e = after_next ∙ ap (λ (b : Bool). build p (after p s (others s k)) (only_if (not b) k)) e

pub hull_none : (p : Places) (n : ℕ) → start p n ≡ none → hull p n ≡ none
unfolding hull
hull_none p n e = ap (λ x. then x (λ s. some (after p s (others s n)))) e

pub hull_some : (p : Places) (n : ℕ) {s : Start} → start p n ≡ some s → hull p n ≡ some (after p s (others s n))
unfolding hull
hull_some p n e = ap (λ x. then x (λ s. some (after p s (others s n)))) e

-- a hull comes from its start
pub hull_built : (p : Places) (n : ℕ) {h : List Face} → hull p n ≡ some h → (s : Start) × (start p n ≡ some s) × (after p s (others s n) ≡ h)
unfolding hull
hull_built p n {h} e = let t = then_some (start p n) (λ s. some (after p s (others s n))) e in (t.0, t.1, some-injective (after p t.0 (others t.0 n)) h t.2)

-- every touch is one of the start or one of the others
pub all_taken : {p : Places} {n : ℕ} {s : Start} → Started p n s → Hull p (upward 0 n) (after p s (others s n))
all_taken {p} {n} {s} e = hull_touches (after_hull e (others s n)) (λ t m. upward_in 0 n t (omega arith) (omega (arith, taken_below e (others s n) (others_below s n) t m))) from
  where
    from : (t : ℕ) → In t (upward 0 n) → In t (others s n ++ starters s)
    from t m = go (T-or (is_start s t))
      where
        go : T (is_start s t) ⊎ T (not (is_start s t)) → In t (others s n ++ starters s)
        go (inl i) = append_r (others s n) (starter_in s t i)
        go (inr i) = append_l (starters s) (keep_in (λ k. not (is_start s k)) (upward 0 n) m i)

-- with m more touches at the end the steps go on with these m
pub others_more : {p : Places} {n : ℕ} {s : Start} → Started p n s → (m : ℕ) → others s (n + m) ≡ others s n ++ upward n m
others_more {p} {n} {s} e m =
    ap (keep (λ k. not (is_start s k))) (upward_append 0 n m ∙ ap (λ (j : ℕ). upward 0 n ++ upward j m) (zero-add n))
    ∙ keep_append (λ k. not (is_start s k)) (upward 0 n) (upward n m)
    ∙ ap (λ (l : List ℕ). others s n ++ l) (keep_all (λ k. not (is_start s k)) (upward n m) (λ k i. not_T (is_start s k) (λ t. late k (in_upward n m i) (starters_below e k (starter_in s k t)))))
  where
    late : (k : ℕ) → (n ≤ k) × (k < n + m) → k < n → ⊥
    late k a b = omega arith

pub after_more : {p : Places} {n : ℕ} {s : Start} → Started p n s → (m : ℕ) → after p s (others s (n + m)) ≡ build p (after p s (others s n)) (upward n m)
after_more {p} {n} {s} e m = ap (after p s) (others_more e m) ∙ build_append p (start_faces (corners p s)) (others s n) (upward n m)
