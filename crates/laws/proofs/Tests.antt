-- Boolean tests by their two answers.
use mathlib.Core.Path.{◌≡◌, refl, subst}
use mathlib.Core.Logic.{◌⊎◌, inl, inr, ◌≢◌}
use mathlib.Core.Bool.{Bool, true, false, not, cond, ◌&&◌, ◌||◌}
use Prim.Native.Nat.{ℕ}
use lib.Dec.{T, T_not, eqb, eqb→eq, eqb_refl}

pub by_test {ℓ} : {X : Type 0} (c : Bool) (x y : X) (P : X → Type ℓ) → (T c → P x) → (T (not c) → P y) → P (cond c x y)
by_test true x y P f g = f tt
by_test false x y P f g = g tt

pub T-or : (b : Bool) → T b ⊎ T (not b)
T-or true = inl tt
T-or false = inr tt

-- two numbers are one or they differ
pub same_or : (j i : ℕ) → (j ≡ i) ⊎ (j ≢ i)
same_or j i = go (T-or (eqb j i))
  where
    go : T (eqb j i) ⊎ T (not (eqb j i)) → (j ≡ i) ⊎ (j ≢ i)
    go (inl t) = inl (eqb→eq j i t)
    go (inr t) = inr (λ e. absurd (T_not (eqb j i) t (subst (λ (x : ℕ). T (eqb j x)) e (eqb_refl j))))

pub is_true : (b : Bool) → T b → b ≡ true
is_true true t = refl
is_true false t = absurd t

pub is_false : (b : Bool) → T (not b) → b ≡ false
is_false true t = absurd t
is_false false t = refl

pub T_of : {b : Bool} → b ≡ true → T b
T_of {b} e = rw e tt

-- two tests that agree
pub same_test : (p q : Bool) → (T p → T q) → (T q → T p) → p ≡ q
same_test true true f g = refl
same_test true false f g = absurd (f tt)
same_test false true f g = absurd (g tt)
same_test false false f g = refl

pub and_both : (a b : Bool) → T (a && b) → T a × T b
and_both true true t = (tt, tt)
and_both true false t = absurd t
and_both false b t = absurd t

pub both_and : (a b : Bool) → T a → T b → T (a && b)
both_and true b t u = u
both_and false b t u = absurd t

pub and_true : (b : Bool) → b && true ≡ b
and_true true = refl
and_true false = refl

pub or_either : (a b : Bool) → T (a || b) → T a ⊎ T b
or_either true b t = inl tt
or_either false b t = inr t

pub or_left : (a b : Bool) → T a → T (a || b)
or_left true b t = tt
or_left false b t = absurd t

pub or_right : (a b : Bool) → T b → T (a || b)
or_right true b t = tt
or_right false b t = t

pub not_not : (b : Bool) → T (not (not b)) → T b
not_not true t = tt
not_not false t = absurd t

pub →not_not : (b : Bool) → T b → T (not (not b))
→not_not true t = tt
→not_not false t = absurd t
