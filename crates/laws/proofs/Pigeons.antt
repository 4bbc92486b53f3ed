-- Pigeons: how many different numbers there are below n.
use mathlib.Core.Path.{◌≡◌, refl, sym, ◌∙◌, ap}
use mathlib.Core.Logic.{◌≢◌, ◌⊎◌, inl, inr}
use mathlib.Core.Bool.{Bool, true, false, not}
use mathlib.Core.List.{List, [], ◌∷◌, ◌++◌}
use Prim.Native.Nat.{ℕ, zero, suc, ◌+◌, ◌≤◌, ◌<◌}
use native.Mathlib.Omega.{arith}
use lib.Dec.{T, eqb, eqb→eq, eqb_refl}
use lib.ListN.{length, length-append}
use Rattle.laws.specs.Lists.{In, put, keep, Nodup}
use Rattle.laws.proofs.Tests.{T-or}
use Rattle.laws.proofs.Members.{here, keep_all, in_keep, in_append, Pw-keep, Pw-append, apart, apart→}

-- to leave a number out of a repeat-free list takes at most one element away
one_less : (n : ℕ) (l : List ℕ) → Nodup l → length l ≤ suc (length (keep (λ x. not (eqb n x)) l))
one_less n [] h = omega arith
one_less n (x ∷ l) h = go (T-or (eqb n x)) (one_less n l h.1)
  where
    rest : List ℕ
    rest = keep (λ x. not (eqb n x)) l

    put_yes : (b : Bool) → T b → length (put b x rest) ≡ suc (length rest)
    put_yes true t = refl
    put_yes false t = absurd t

    put_any : (b : Bool) → length rest ≤ length (put b x rest)
    put_any true = omega arith
    put_any false = omega arith

    go : T (eqb n x) ⊎ T (not (eqb n x)) → length l ≤ suc (length rest) → suc (length l) ≤ suc (length (put (not (eqb n x)) x rest))
    go (inl t) r = omega (arith, put_any (not (eqb n x)), ap length (keep_all (λ x. not (eqb n x)) l (λ z m. apart eqb eqb→eq eqb_refl n z (λ e. h.0 z m (sym (eqb→eq n x t) ∙ e)))))
    go (inr t) r = omega (arith, put_yes (not (eqb n x)) t)

pub pigeons : (n : ℕ) (l : List ℕ) → Nodup l → ((x : ℕ) → In x l → x < n) → length l ≤ n
pigeons zero [] h b = omega arith
pigeons zero (x ∷ l) h b = absurd (omega (arith, b x (here refl)))
pigeons (suc n) l h b = omega (arith, one_less n l h, pigeons n (keep (λ x. not (eqb n x)) l) (Pw-keep (λ x y. x ≢ y) (λ x. not (eqb n x)) l h) below)
  where
    below : (x : ℕ) → In x (keep (λ x. not (eqb n x)) l) → x < n
    below x m = let t = in_keep (λ x. not (eqb n x)) l m in omega (arith, b x t.0, apart→ eqb eqb→eq eqb_refl n x t.1)

-- two such lists that have no number in common
pub pigeons_two : (n : ℕ) (l m : List ℕ) → Nodup l → Nodup m → ((x y : ℕ) → In x l → In y m → x ≢ y) → ((x : ℕ) → In x l → x < n) → ((x : ℕ) → In x m → x < n) → length l + length m ≤ n
pigeons_two n l m h k d b c = omega (arith, length-append l m, pigeons n (l ++ m) (Pw-append {R = λ x y. x ≢ y} l m h k d) (λ x i. go x (in_append l i)))
  where
    go : (x : ℕ) → In x l ⊎ In x m → x < n
    go x (inl i) = b x i
    go x (inr i) = c x i
