-- The start: Q, R, S are each the first of its kind, so 0 = P < Q < R < S and more touches do not change them.
use mathlib.Core.Path.{◌≡◌, refl, sym, ◌∙◌, ap, subst}
use mathlib.Core.Logic.{◌≢◌, ◌⊎◌, inl, inr}
use mathlib.Core.Bool.{Bool, not, ◌&&◌}
use mathlib.Core.List.{List}
use mathlib.Core.Option.{Option, none, some, some-injective}
use Prim.Native.Nat.{ℕ, ◌+◌, ◌≤◌, ◌<◌}
use native.Mathlib.Decide.{dec_lt, ℕ_discrete}
use native.Mathlib.Omega.{arith}
use lib.Dec.{T, T_not}
use lib.IntN.{ℤ, pos, neg_ℤ}
use Rattle.laws.specs.Numbers.{eq_z}
use Rattle.laws.specs.Lists.{In, first, upward}
use Rattle.laws.proofs.Tests.{and_both, both_and, not_not}
use Rattle.laws.proofs.Order.{eq_z→eq, eq_z_refl}
use Rattle.laws.proofs.Firsts.{no_some, first_some, first_append, first_before, in_upward, upward_append}
use Rattle.touches.specs.declared.Point.{Point}
use Rattle.volume.specs.Volume.{Vol, in_line, is_zero}
use Rattle.volume.proofs.Axes.{Axis, X, Y, Z, on, point_ext}
use Rattle.volume.proofs.VolumeLaws.{alt_cd, alt_c}
use Rattle.volume.proofs.LineLaws.{line_a, line_b, line_vol}
use Rattle.rules.specs.Faces.{Places}
use Rattle.rules.specs.Start.{same_place, Start, then, find_s, find_r, start}
use Rattle.rules.specs.Demands.{Flat}

-- ---- the test of one place
pub same→ : (p q : Point) → T (same_place p q) → p ≡ q
same→ p q t = point_ext {p = p} {q = q} (parts (and_both (eq_z p.x q.x) (eq_z p.y q.y && eq_z p.z q.z) t))
  where
    parts : T (eq_z p.x q.x) × T (eq_z p.y q.y && eq_z p.z q.z) → (i : Axis) → on p i ≡ on q i
    parts s X = eq_z→eq p.x q.x s.0
    parts s Y = eq_z→eq p.y q.y (and_both (eq_z p.y q.y) (eq_z p.z q.z) s.1).0
    parts s Z = eq_z→eq p.z q.z (and_both (eq_z p.y q.y) (eq_z p.z q.z) s.1).1

pub same_refl : (p : Point) → T (same_place p p)
same_refl p = both_and (eq_z p.x p.x) (eq_z p.y p.y && eq_z p.z p.z) (eq_z_refl p.x) (both_and (eq_z p.y p.y) (eq_z p.z p.z) (eq_z_refl p.y) (eq_z_refl p.z))

-- ---- one after another
pub then_some : {A B : Type 0} (x : Option A) (k : A → Option B) {y : B} → then x k ≡ some y → (a : A) × (x ≡ some a) × (k a ≡ some y)
then_some none k e = absurd (no_some e)
then_some (some a) k e = (a, refl, e)

pub then_none : {A B : Type 0} (x : Option A) (k : A → Option B) → then x k ≡ none → (x ≡ none) ⊎ ((a : A) × (x ≡ some a) × (k a ≡ none))
then_none none k e = inl refl
then_none (some a) k e = inr (a, refl, e)

-- ---- the three tests, and a start that was found by them
abbrev pub differs : Places → ℕ → Bool
differs p q = not (same_place (p 0) (p q))

abbrev pub off_line : Places → ℕ → ℕ → Bool
off_line p Q r = not (in_line (p 0) (p Q) (p r))

abbrev pub off_plane : Places → ℕ → ℕ → ℕ → Bool
off_plane p Q R s = not (is_zero (Vol (p 0) (p Q) (p R) (p s)))

abbrev pub from_0 : ℕ → ℕ → ℕ → Start
from_0 Q R S = record { P = 0; Q = Q; R = R; S = S }

pub record Started (p : Places) (n : ℕ) (s : Start) : Type 0 where
  pub P_zero : s.P ≡ 0
  pub Q_first : first (differs p) (upward 0 n) ≡ some s.Q
  pub R_first : first (off_line p s.Q) (upward 0 n) ≡ some s.R
  pub S_first : first (off_plane p s.Q s.R) (upward 0 n) ≡ some s.S

module _ (p : Places) (n : ℕ) where
  pub started : {s : Start} → start p n ≡ some s → Started p n s
  started {s} e = go (then_some (first (differs p) (upward 0 n)) (λ q. find_r p 0 q (upward 0 n)) e)
    where
      go : (q : ℕ) × (first (differs p) (upward 0 n) ≡ some q) × (find_r p 0 q (upward 0 n) ≡ some s) → Started p n s
      go t = go₂ (then_some (first (off_line p t.0) (upward 0 n)) (λ r. find_s p 0 t.0 r (upward 0 n)) t.2)
        where
          go₂ : (r : ℕ) × (first (off_line p t.0) (upward 0 n) ≡ some r) × (find_s p 0 t.0 r (upward 0 n) ≡ some s) → Started p n s
          go₂ u = go₃ (then_some (first (off_plane p t.0 u.0) (upward 0 n)) (λ k. some (from_0 t.0 u.0 k)) u.2)
            where
              go₃ : (k : ℕ) × (first (off_plane p t.0 u.0) (upward 0 n) ≡ some k) × (some (from_0 t.0 u.0 k) ≡ some s) → Started p n s
              go₃ w = subst (Started p n) (some-injective (from_0 t.0 u.0 w.0) s w.2) (record { P_zero = refl; Q_first = t.1; R_first = u.1; S_first = w.1 })

  pub start_is : {s : Start} → Started p n s → start p n ≡ some s
  start_is {s} h =
      ap (λ (x : Option ℕ). then x (λ q. find_r p 0 q (upward 0 n))) h.Q_first
      ∙ ap (λ (x : Option ℕ). then x (λ r. find_s p 0 s.Q r (upward 0 n))) h.R_first
      ∙ ap (λ (x : Option ℕ). then x (λ k. some (from_0 s.Q s.R k))) h.S_first
      ∙ ap some (λ i. record { P = sym h.P_zero i; Q = s.Q; R = s.R; S = s.S })

-- ---- a start that was found
module _ {p : Places} {n : ℕ} {s : Start} (h : Started p n s) where
  -- more touches do not change it
  pub started_more : (m : ℕ) → Started p (n + m) s
  started_more m = record { P_zero = h.P_zero; Q_first = more (differs p) h.Q_first; R_first = more (off_line p s.Q) h.R_first; S_first = more (off_plane p s.Q s.R) h.S_first }
    where
      more : (q : ℕ → Bool) {y : ℕ} → first q (upward 0 n) ≡ some y → first q (upward 0 (n + m)) ≡ some y
      more q {y} e = subst (λ (l : List ℕ). first q l ≡ some y) (sym (upward_append 0 n m)) (first_append q (upward 0 n) (upward (0 + n) m) e)

  Q_at : In s.Q (upward 0 n) × T (differs p s.Q)
  Q_at = first_some (differs p) (upward 0 n) h.Q_first

  R_at : In s.R (upward 0 n) × T (off_line p s.Q s.R)
  R_at = first_some (off_line p s.Q) (upward 0 n) h.R_first

  S_at : In s.S (upward 0 n) × T (off_plane p s.Q s.R s.S)
  S_at = first_some (off_plane p s.Q s.R) (upward 0 n) h.S_first

  -- ---- P = 0 < Q < R < S < n
  pub 0<Q : 0 < s.Q
  0<Q = go (dec_lt 0 s.Q)
    where
      none_below : (0 < s.Q → ⊥) → s.Q ≡ 0
      none_below f = omega arith

      go : Dec (0 < s.Q) → 0 < s.Q
      go (yes l) = l
      go (no f) = absurd (T_not (same_place (p 0) (p s.Q)) Q_at.1 (subst (λ (q : ℕ). T (same_place (p 0) (p q))) (sym (none_below f)) (same_refl (p 0))))

  -- up to Q every touch is in line with P and Q, so R comes later
  up_to_Q : (t : ℕ) → t ≤ s.Q → T (in_line (p 0) (p s.Q) (p t))
  up_to_Q t l = go (ℕ_discrete t s.Q)
    where
      before : t ≢ s.Q → t < s.Q
      before f = omega arith

      go : Dec (t ≡ s.Q) → T (in_line (p 0) (p s.Q) (p t))
      go (yes e) = subst (λ (i : ℕ). T (in_line (p 0) (p s.Q) (p i))) (sym e) (line_b (p 0) (p s.Q))
      go (no f) = subst (λ (q : Point). T (in_line (p 0) (p s.Q) q)) (same→ (p 0) (p t) (not_not (same_place (p 0) (p t)) (first_before (differs p) 0 n h.Q_first t (omega arith) (before f)))) (line_a (p 0) (p s.Q))

  pub Q<R : s.Q < s.R
  Q<R = go (dec_lt s.Q s.R)
    where
      up_to : (s.Q < s.R → ⊥) → s.R ≤ s.Q
      up_to f = omega arith

      go : Dec (s.Q < s.R) → s.Q < s.R
      go (yes l) = l
      go (no f) = absurd (T_not (in_line (p 0) (p s.Q) (p s.R)) R_at.1 (up_to_Q s.R (up_to f)))

  -- up to R every touch is on the plane of P, Q and R, so S comes later
  up_to_R : (t : ℕ) → t ≤ s.R → Vol (p 0) (p s.Q) (p s.R) (p t) ≡ pos 0
  up_to_R t l = go (ℕ_discrete t s.R)
    where
      before : t ≢ s.R → t < s.R
      before f = omega arith

      go : Dec (t ≡ s.R) → Vol (p 0) (p s.Q) (p s.R) (p t) ≡ pos 0
      go (yes e) = ap (λ (i : ℕ). Vol (p 0) (p s.Q) (p s.R) (p i)) e ∙ alt_c (p 0) (p s.Q) (p s.R)
      go (no f) = alt_cd (p 0) (p s.Q) (p t) (p s.R) ∙ ap neg_ℤ (line_vol (p 0) (p s.Q) (p t) (p s.R) (not_not (in_line (p 0) (p s.Q) (p t)) (first_before (off_line p s.Q) 0 n h.R_first t (omega arith) (before f))))

  pub R<S : s.R < s.S
  R<S = go (dec_lt s.R s.S)
    where
      up_to : (s.R < s.S → ⊥) → s.S ≤ s.R
      up_to f = omega arith

      go : Dec (s.R < s.S) → s.R < s.S
      go (yes l) = l
      go (no f) = absurd (T_not (is_zero (Vol (p 0) (p s.Q) (p s.R) (p s.S))) S_at.1 (subst (λ (z : ℤ). T (is_zero z)) (sym (up_to_R s.S (up_to f))) tt))

  pub S<n : s.S < n
  S<n = omega (arith, in_upward 0 n S_at.0)

  -- ---- not flat
  pub solid : Vol (p s.P) (p s.Q) (p s.R) (p s.S) ≢ pos 0
  solid z = T_not (is_zero (Vol (p 0) (p s.Q) (p s.R) (p s.S))) S_at.1 (subst (λ (y : ℤ). T (is_zero y)) (sym (ap (λ (i : ℕ). Vol (p i) (p s.Q) (p s.R) (p s.S)) (sym h.P_zero) ∙ z)) tt)

  pub not_flat : Flat p n → ⊥
  not_flat f = solid (f s.P s.Q s.R s.S (omega (arith, h.P_zero, S<n)) (omega (arith, Q<R, R<S, S<n)) (omega (arith, R<S, S<n)) S<n)
