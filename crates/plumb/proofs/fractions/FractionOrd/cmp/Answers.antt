use mathlib.Core.Path.{◌≡◌, refl, sym, ap, ap₂, subst, ◌∙◌}
use Prim.Native.Nat.{ℕ}
use lib.IntN.{ℤ, pos}
use lib.Signed.{◌≤ℤ◌, ◌<ℤ◌, pos-nat_abs, yes_non_neg}
use mir.Syntax.{w64}
use mir.Val.{SFits}
use mir.ValLaws.{to_z-of_z}
use Rattle.std.specs.Int.{int_div_euclid, int_rem_euclid}
use Rattle.std.specs.Int.RustNames.{unsigned_abs}
use Rattle.std.specs.Ordering.{int_cmp}
use Rattle.std.specs.declared.cmp.Ordering.TheVariants.{Less, Equal, Greater}
use Rattle.std.proofs.Common.{rules}
use Rattle.std.proofs.lemmas.Cmp.{int_ranked, by_ranked}
use Rattle.laws.specs.Fractions.{compared, Parts}
use Rattle.laws.proofs.Order.{<→≤}
use Rattle.laws.proofs.Fractions.{whole_less, whole_more, whole_same}
use Rattle.points.proofs.NumberLaws.{rd, passed}
use Rattle.plumb.specs.Fractions.{fraction_cmp}
use Rattle.plumb.specs.declared.fractions.Fraction.{Fraction}
use Rattle.plumb.proofs.EuclidLaws.{parts_euclid}
use Rattle.plumb.proofs.fractions.FractionOrd.cmp.Goals as goal

-- a fraction's whole part and remainder as they are computed
parts : (s : Fraction) {p r : ℤ} → p ≡ int_div_euclid (rd s.top) (rd s.bottom) → r ≡ int_rem_euclid (rd s.top) (rd s.bottom) → Parts s.top s.bottom p r
parts s {p} {r} e f =
    let a = passed tt s.held.top in
    let b = passed tt s.held.bottom in
    subst (λ (z : ℤ). Parts s.top s.bottom z r) (sym (e ∙ ap₂ int_div_euclid a b))
    (subst (λ (z : ℤ). Parts s.top s.bottom (int_div_euclid s.top s.bottom) z) (sym (f ∙ ap₂ int_rem_euclid a b)) (parts_euclid s.top s.bottom s.held.proper))

-- a number that is not below 0 as a natural
natural : {z : ℤ} {u : ℕ} → u ≡ unsigned_abs (rd z) → SFits w64 z → pos 0 ≤ℤ z → pos u ≡ z
natural {z} e f h = ap pos (e ∙ ap unsigned_abs (to_z-of_z w64 z f)) ∙ pos-nat_abs z (yes_non_neg h)

pub returns-in-Equal : goal.returns-in-Equal
returns-in-Equal c =
    let s = c.args.self.now in
    let t = c.args.other.now in
    let p = c.div_euclid-whole.result in
    let q = c.div_euclid.result in
    let m = parts s c.div_euclid-whole.ensures c.rem_euclid.ensures.value in
    let n = parts t c.div_euclid.ensures c.rem_euclid-in-Equal.ensures.value in
    let e = sym (to_z-of_z w64 p (search rules)) ∙ int_ranked (rd p) (rd q) Equal c.in-Equal.ensures ∙ to_z-of_z w64 q (search rules) in
    let r = natural c.unsigned_abs.ensures.value (search rules) m.over in
    let b = natural c.unsigned_abs-in-Equal.ensures.value (search rules) (<→≤ s.held.proper) in
    let l = natural c.unsigned_abs-in-Equal-2.ensures.value (search rules) n.over in
    let d = natural c.unsigned_abs-in-Equal-3.ensures.value (search rules) (<→≤ t.held.proper) in
    c.compare_unsigned.ensures ∙ (λ i. compared (r i) (b i) (l i) (d i) Less Equal Greater) ∙ sym (whole_same m n Less Equal Greater e)

pub returns-in_default : goal.returns-in_default
returns-in_default c =
    let s = c.args.self.now in
    let t = c.args.other.now in
    let p = c.div_euclid-whole.result in
    let q = c.div_euclid.result in
    let m = parts s c.div_euclid-whole.ensures refl in
    let n = parts t c.div_euclid.ensures refl in
    let k = c.cmp.ensures ∙ ap₂ int_cmp (to_z-of_z w64 p (search rules)) (to_z-of_z w64 q (search rules)) in
    by_ranked (p <ℤ q) (p ≡ q) (q <ℤ p) {G = c.cmp.result ≡ fraction_cmp s t} c.cmp.result (int_ranked p q c.cmp.result k)
    (λ e h. e ∙ sym (whole_less m n Less Equal Greater h))
    (λ e h. absurd (c.in_default.not-Equal e))
    (λ e h. e ∙ sym (whole_more m n Less Equal Greater h))
