use mathlib.Core.Path.{◌≡◌, ◌∙◌}
use Prim.Native.Nat.{ℕ, ◌/◌, ◌<◌, ◌≤◌}
use native.Mathlib.Omega.{arith}
use lib.IntN.{pos}
use Rattle.std.specs.Ordering.{nat_cmp}
use Rattle.std.specs.declared.cmp.Ordering.TheVariants.{Less, Equal, Greater}
use Rattle.std.proofs.lemmas.Cmp.{ranked, by_ranked}
use Rattle.laws.specs.Fractions.{compared}
use Rattle.laws.proofs.Fractions.{naturals_less, naturals_more, both_out, first_out, second_out, turned_over}
use Rattle.plumb.proofs.fractions.+compare_unsigned.Goals as goal

-- equal whole parts
even : (p q : ℕ) → Equal ≡ nat_cmp p q → (q ≤ p) × (p ≤ q)
even p q e = let h : p ≡ q = ranked p q Equal e in (omega arith, omega arith)

pub returns-in-0-eq0 : goal.returns-in-0-eq0
returns-in-0-eq0 t c =
    let s = c.args in
    let e = even (s.a / s.b) (s.c / s.d) c.in-Equal.ensures in
    both_out s.a s.b s.c s.d c.requires.0 c.requires.1 Less Equal Greater e.0 e.1 c.in-0-eq0.is-0 c.in-0-eq0.is-1

pub returns-in-0-default : goal.returns-in-0-default
returns-in-0-default t c =
    let s = c.args in
    let e = even (s.a / s.b) (s.c / s.d) c.in-Equal.ensures in
    first_out s.a s.b s.c s.d c.requires.0 c.requires.1 Less Equal Greater e.0 e.1 c.in-0-default.is-0 c.in-0-default.is-1.1

pub returns-in_default-eq0 : goal.returns-in_default-eq0
returns-in_default-eq0 t c =
    let s = c.args in
    let e = even (s.a / s.b) (s.c / s.d) c.in-Equal.ensures in
    second_out s.a s.b s.c s.d c.requires.0 c.requires.1 Less Equal Greater e.0 e.1 c.in_default-eq0.is-0.1 c.in_default-eq0.is-1

pub returns-in_default-2 : goal.returns-in_default-2
returns-in_default-2 t c =
    let s = c.args in
    let e = even (s.a / s.b) (s.c / s.d) c.in-Equal.ensures in
    c.compare_unsigned.ensures ∙ turned_over s.a s.b s.c s.d c.requires.0 c.requires.1 Less Equal Greater e.0 e.1

pub returns-in_default : goal.returns-in_default
returns-in_default t c =
    let s = c.args in
    let p = s.a / s.b in
    let q = s.c / s.d in
    by_ranked (p < q) (p ≡ q) (q < p) {G = c.cmp.result ≡ compared (pos s.a) (pos s.b) (pos s.c) (pos s.d) Less Equal Greater} c.cmp.result (ranked p q c.cmp.result c.cmp.ensures)
    (λ e h. e ∙ naturals_less s.a s.b s.c s.d c.requires.0 c.requires.1 Less Equal Greater h)
    (λ e h. absurd (c.in_default.not-Equal e))
    (λ e h. e ∙ naturals_more s.a s.b s.c s.d c.requires.0 c.requires.1 Less Equal Greater h)
