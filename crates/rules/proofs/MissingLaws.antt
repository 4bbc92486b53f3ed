-- Where Q, R or S is missing, every four touches have V = 0.
use mathlib.Core.Path.{◌≡◌, sym, subst}
use mathlib.Core.Logic.{◌≢◌, ◌⊎◌, inl, inr}
use mathlib.Core.Option.{none, some}
use Prim.Native.Nat.{ℕ, ◌<◌}
use native.Mathlib.Omega.{arith}
use lib.Dec.{T, T_not}
use lib.IntN.{pos}
use Rattle.laws.specs.Lists.{In, first, upward}
use Rattle.laws.proofs.Tests.{not_not}
use Rattle.laws.proofs.Order.{eq_z→eq}
use Rattle.laws.proofs.Firsts.{no_some, first_some, first_none, upward_in}
use Rattle.touches.specs.declared.Point.{Point}
use Rattle.volume.specs.Volume.{Vol, in_line, is_zero}
use Rattle.volume.proofs.FlatLaws.{flat_point, flat_line, flat_plane}
use Rattle.rules.specs.Faces.{Places}
use Rattle.rules.specs.Start.{same_place, find_s, find_r, start}
use Rattle.rules.specs.Demands.{Flat}
use Rattle.rules.proofs.StartLaws.{same→, same_refl, then_none, differs, off_line, off_plane, from_0}

pub start_none : (p : Places) (n : ℕ) → start p n ≡ none → Flat p n
start_none p n e = go (then_none (first (differs p) (upward 0 n)) (λ q. find_r p 0 q (upward 0 n)) e)
  where
    at : (i : ℕ) → i < n → In i (upward 0 n)
    at i h = upward_in 0 n i (omega arith) (omega arith)

    no_Q : first (differs p) (upward 0 n) ≡ none → Flat p n
    no_Q f a b c d ha hb hc hd = flat_point (p 0) (p a) (p b) (p c) (p d) (same a ha) (same b hb)
      where
        same : (x : ℕ) → x < n → p x ≡ p 0
        same x h = sym (same→ (p 0) (p x) (not_not (same_place (p 0) (p x)) (first_none (differs p) (upward 0 n) f x (at x h))))

    no_R : (Q : ℕ) → p 0 ≢ p Q → first (off_line p Q) (upward 0 n) ≡ none → Flat p n
    no_R Q q f a b c d ha hb hc hd = flat_line (p 0) (p Q) q (p a) (p b) (p c) (p d) (line a ha) (line b hb) (line c hc)
      where
        line : (x : ℕ) → x < n → T (in_line (p 0) (p Q) (p x))
        line x h = not_not (in_line (p 0) (p Q) (p x)) (first_none (off_line p Q) (upward 0 n) f x (at x h))

    no_S : (Q R : ℕ) → T (off_line p Q R) → first (off_plane p Q R) (upward 0 n) ≡ none → Flat p n
    no_S Q R r f a b c d ha hb hc hd = flat_plane (p 0) (p Q) (p R) r (p a) (p b) (p c) (p d) (plane a ha) (plane b hb) (plane c hc) (plane d hd)
      where
        plane : (x : ℕ) → x < n → Vol (p 0) (p Q) (p R) (p x) ≡ pos 0
        plane x h = eq_z→eq (Vol (p 0) (p Q) (p R) (p x)) (pos 0) (not_not (is_zero (Vol (p 0) (p Q) (p R) (p x))) (first_none (off_plane p Q R) (upward 0 n) f x (at x h)))

    go₃ : (Q R : ℕ) → T (off_line p Q R) → (first (off_plane p Q R) (upward 0 n) ≡ none) ⊎ ((k : ℕ) × (first (off_plane p Q R) (upward 0 n) ≡ some k) × (some (from_0 Q R k) ≡ none)) → Flat p n
    go₃ Q R r (inl f) = no_S Q R r f
    go₃ Q R r (inr t) = absurd (no_some (sym t.2))

    go₂ : (Q : ℕ) → T (differs p Q) → (first (off_line p Q) (upward 0 n) ≡ none) ⊎ ((r : ℕ) × (first (off_line p Q) (upward 0 n) ≡ some r) × (find_s p 0 Q r (upward 0 n) ≡ none)) → Flat p n
    go₂ Q q (inl f) = no_R Q (λ z. T_not (same_place (p 0) (p Q)) q (subst (λ (x : Point). T (same_place (p 0) x)) z (same_refl (p 0)))) f
    go₂ Q q (inr t) = go₃ Q t.0 (first_some (off_line p Q) (upward 0 n) t.1).1 (then_none (first (off_plane p Q t.0) (upward 0 n)) (λ k. some (from_0 Q t.0 k)) t.2)

    go : (first (differs p) (upward 0 n) ≡ none) ⊎ ((q : ℕ) × (first (differs p) (upward 0 n) ≡ some q) × (find_r p 0 q (upward 0 n) ≡ none)) → Flat p n
    go (inl f) = no_Q f
    go (inr t) = go₂ t.0 (first_some (differs p) (upward 0 n) t.1).1 (then_none (first (off_line p t.0) (upward 0 n)) (λ r. find_s p 0 t.0 r (upward 0 n)) t.2)
