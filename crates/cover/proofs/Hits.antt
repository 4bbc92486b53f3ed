-- How the cone over three vectors counts a place: 1 inside it, 0 elsewhere, and the other way where it is turned round.
use mathlib.Core.Path.{◌≡◌, sym, ◌∙◌, ap, subst}
use mathlib.Core.Logic.{◌≢◌}
use mathlib.Core.Bool.{Bool, true, false, ◌&&◌}
use mathlib.Core.List.{List}
use Prim.Native.Nat.{ℕ}
use lib.Dec.{T}
use lib.IntN.{ℤ, pos, neg_ℤ}
use lib.Signed.{◌≤ℤ◌, ◌<ℤ◌, <ℤ_irrefl, le_z_yes, lt_z_yes}
use Rattle.laws.specs.Numbers.{eq_z}
use Rattle.laws.specs.Lists.{In, sum_z}
use Rattle.laws.proofs.Tests.{and_both}
use Rattle.laws.proofs.Order.{eq_z→eq}
use Rattle.laws.proofs.Signs.{Sg, below, level, above, sg, flip, is_above, is_below, sg_above, above→, sg_neg, Trio, trio, pick_trio}
use Rattle.touches.specs.declared.Point.{Point}
use Rattle.rules.specs.Faces.{Face, Places, corner}
use Rattle.cover.specs.Cones.{det}
use Rattle.cover.proofs.DetLaws.{det_swap}

-- ---- a cone with the sign e, and a place with the signs s, t, u to its sides: 1 within a cone above, −1 within one below
abbrev ind : Bool → ℤ
ind true = pos 1
ind false = pos 0

abbrev pub counts : Sg → Sg → Sg → Sg → ℤ
counts below s t u = neg_ℤ (ind (is_below s && (is_below t && is_below u)))
counts level s t u = pos 0
counts above s t u = ind (is_above s && (is_above t && is_above u))

-- turned round, it counts the other way
abbrev turned : Sg → Trio → Bool
turned e s = eq_z (counts (flip e) (flip s.a) (flip s.c) (flip s.b)) (neg_ℤ (counts e s.a s.b s.c))

each_turned : (e : Sg) (s : Trio) → T (turned e s)
each_turned below s = pick_trio (turned below) tt s
each_turned level s = pick_trio (turned level) tt s
each_turned above s = pick_trio (turned above) tt s

counts_turned : (e s t u : Sg) → counts (flip e) (flip s) (flip u) (flip t) ≡ neg_ℤ (counts e s t u)
counts_turned e s t u = eq_z→eq (counts (flip e) (flip s) (flip u) (flip t)) (neg_ℤ (counts e s t u)) (each_turned e (trio s t u))

-- ---- how the cone over a, b, c counts x
unfoldable pub hit : Point → Point → Point → Point → ℤ
hit x a b c = counts (sg (det a b c)) (sg (det a b x)) (sg (det b c x)) (sg (det c a x))

-- the cone of a face, and all those of a face list together, with the touches at v
abbrev pub face_hit : Places → Point → Face → ℤ
face_hit v x f = hit x (v (corner f 0)) (v (corner f 1)) (v (corner f 2))

abbrev pub hits : Places → Point → List Face → ℤ
hits v x h = sum_z (face_hit v x) h

-- the faces of h are turned outward
abbrev pub Outward : Places → List Face → Type 0
Outward v h = (f : Face) → In f h → pos 0 <ℤ det (v (corner f 0)) (v (corner f 1)) (v (corner f 2))

pub flipped : (a b x : Point) → sg (det b a x) ≡ flip (sg (det a b x))
flipped a b x = ap sg (det_swap a b x) ∙ sg_neg (det a b x)

pub hit_turned : (x a b k : Point) → hit x b a k ≡ neg_ℤ (hit x a b k)
unfolding hit
hit_turned x a b k = (λ i. counts (flipped a b k i) (flipped a b x i) (flipped k a x i) (flipped b k x i)) ∙ counts_turned (sg (det a b k)) (sg (det a b x)) (sg (det b k x)) (sg (det k a x))

-- ---- a cone that is turned outward counts what is inside, and nothing else
ind_true : (b : Bool) → pos 0 <ℤ ind b → T b
ind_true true h = tt
ind_true false h = <ℤ_irrefl h

above_three : (x y z : ℤ) → pos 0 <ℤ counts above (sg x) (sg y) (sg z) → (pos 0 <ℤ x) × (pos 0 <ℤ y) × (pos 0 <ℤ z)
above_three x y z h =
    let t = and_both (is_above (sg x)) (is_above (sg y) && is_above (sg z)) (ind_true (is_above (sg x) && (is_above (sg y) && is_above (sg z))) h) in
    let u = and_both (is_above (sg y)) (is_above (sg z)) t.1 in (above→ x t.0, above→ y u.0, above→ z u.1)

pub hit→ : (a b c x : Point) → pos 0 <ℤ det a b c → pos 0 <ℤ hit x a b c → (pos 0 <ℤ det a b x) × (pos 0 <ℤ det b c x) × (pos 0 <ℤ det c a x)
unfolding hit
hit→ a b c x up h = above_three (det a b x) (det b c x) (det c a x) (subst (λ (e : Sg). pos 0 <ℤ counts e (sg (det a b x)) (sg (det b c x)) (sg (det c a x))) (sg_above up) h)

pub →hit : (a b c x : Point) → pos 0 <ℤ det a b c → pos 0 <ℤ det a b x → pos 0 <ℤ det b c x → pos 0 <ℤ det c a x → pos 0 <ℤ hit x a b c
unfolding hit
→hit a b c x up r s t = subst (λ (z : ℤ). pos 0 <ℤ z) (λ i. counts (sym (sg_above up) i) (sym (sg_above r) i) (sym (sg_above s) i) (sym (sg_above t) i)) (lt_z_yes tt)

ind_nonneg : (b : Bool) → pos 0 ≤ℤ ind b
ind_nonneg true = le_z_yes tt
ind_nonneg false = le_z_yes tt

pub hit_nonneg : (a b c x : Point) → pos 0 <ℤ det a b c → pos 0 ≤ℤ hit x a b c
unfolding hit
hit_nonneg a b c x up = subst (λ (e : Sg). pos 0 ≤ℤ counts e (sg (det a b x)) (sg (det b c x)) (sg (det c a x))) (sym (sg_above up))
    (ind_nonneg (is_above (sg (det a b x)) && (is_above (sg (det b c x)) && is_above (sg (det c a x)))))

-- ---- a place on no plane through two touches, of the list l, that are not in line with the centre
pub record Clear (v : Places) (l : List ℕ) (x : Point) : Type 0 where
  pub off : (a b c : ℕ) → In a l → In b l → In c l → det (v a) (v b) (v c) ≢ pos 0 → det (v a) (v b) x ≢ pos 0
