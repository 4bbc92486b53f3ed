-- Points on one ray, and what V says of a ray: L3 of the hull's proof.
use mathlib.Core.Path.{◌≡◌, refl, sym, subst}
use mathlib.Core.Logic.{◌⊎◌, inl, inr}
use mathlib.Core.List.{[], ◌∷◌}
use lib.IntN.{ℤ, pos, neg_ℤ, ◌-ℤ◌, ◌*ℤ◌}
use lib.Signed.{◌≤ℤ◌, ◌<ℤ◌, lt_z_yes, <ℤ_irrefl}
use Rattle.laws.proofs.Ring.{o, one, var, ◌:-◌, ◌:*◌, neg}
use Rattle.laws.proofs.Order.{<→≤, not_lt, antisymm, mul_nonneg, mul_pos_neg, mul_zero, cancel_nonneg, neg_pos, of_sub_nonneg}
use Rattle.laws.proofs.Certificates.{order, combine, eqn, eq, le}
use Rattle.touches.specs.declared.Point.{Point}
use Rattle.volume.specs.Volume.{Vol}
use Rattle.volume.proofs.Axes.{Axis, on, point_ext}
use Rattle.volume.proofs.VolumeLaws.{aff}

-- p and q lie on one ray from v
pub record OnRay (v p q : Point) : Type 0 where
  pub m : ℤ
  pub n : ℤ
  pub m_pos : pos 0 <ℤ m
  pub n_pos : pos 0 <ℤ n
  pub along : (i : Axis) → m *ℤ (on p i -ℤ on v i) ≡ n *ℤ (on q i -ℤ on v i)

pub ray_self : (v p : Point) → OnRay v p p
ray_self v p = record { m = pos 1; n = pos 1; m_pos = lt_z_yes tt; n_pos = lt_z_yes tt; along = λ i. refl }

unfoldable pub ray_swap : {v p q : Point} → OnRay v p q → OnRay v q p
ray_swap r = record { m = r.n; n = r.m; m_pos = r.n_pos; n_pos = r.m_pos; along = λ i. sym (r.along i) }

-- V is affine along a ray
pub ray_aff : (a b c : Point) {v p q : Point} (r : OnRay v p q) → r.m *ℤ (Vol a b c p -ℤ Vol a b c v) ≡ r.n *ℤ (Vol a b c q -ℤ Vol a b c v)
ray_aff a b c {v} {p} {q} r = aff a b c q p v r.m r.n r.along

-- v on a face's plane, p not in front and k in front: v→p and v→k are not one ray
no_ray : (m n f g h : ℤ) → m *ℤ (f -ℤ h) ≡ n *ℤ (g -ℤ h) → h ≡ pos 0 → pos 0 <ℤ m → pos 0 <ℤ n → pos 0 ≤ℤ f → g <ℤ pos 0 → ⊥
no_ray m n f g h e z hm hn hf hg = not_lt (mul_nonneg (<→≤ hm) hf) (subst (λ (w : ℤ). w <ℤ pos 0) (sym same) (mul_pos_neg hn hg))
  where
    same : m *ℤ f ≡ n *ℤ g
    same = combine (m ∷ n ∷ f ∷ g ∷ h ∷ []) (eqn one (var 0 :* (var 2 :- var 4)) (var 1 :* (var 3 :- var 4)) ∷ eqn (var 0 :- var 1) (var 4) o ∷ []) (var 0 :* var 2) (var 1 :* var 3) tt e z

pub ray_front : (a b c : Point) {v p k : Point} → Vol a b c v ≡ pos 0 → pos 0 ≤ℤ Vol a b c p → Vol a b c k <ℤ pos 0 → OnRay v p k → ⊥
ray_front a b c {v} {p} {k} hv hp hk r = no_ray r.m r.n (Vol a b c p) (Vol a b c k) (Vol a b c v) (ray_aff a b c r) hv r.m_pos r.n_pos hp hk

-- ---- L3: k→p and k→q on one ray, each of p and q on a plane that has k in front and the other not in front: p and q are one
nearer : (m n f g h : ℤ) → m *ℤ (f -ℤ h) ≡ n *ℤ (g -ℤ h) → f ≡ pos 0 → pos 0 <ℤ n → pos 0 ≤ℤ g → h <ℤ pos 0 → n ≤ℤ m
nearer m n f g h e z hn hg hh = of_sub_nonneg (cancel_nonneg {a = neg_ℤ h} {b = m -ℤ n} (neg_pos hh)
    (order (m ∷ n ∷ f ∷ g ∷ h ∷ []) (eq one (var 0 :* (var 2 :- var 4)) (var 1 :* (var 3 :- var 4)) ∷ eq (neg (var 0)) (var 2) o ∷ le 1 o (var 1 :* var 3) ∷ []) 0 o (neg (var 4) :* (var 0 :- var 1)) tt
    e z (mul_nonneg (<→≤ hn) hg)))

ray_nearer : (a b c : Point) {k p q : Point} (r : OnRay k p q) → Vol a b c p ≡ pos 0 → pos 0 ≤ℤ Vol a b c q → Vol a b c k <ℤ pos 0 → r.n ≤ℤ r.m
ray_nearer a b c {k} {p} {q} r hp hq hk = nearer r.m r.n (Vol a b c p) (Vol a b c q) (Vol a b c k) (ray_aff a b c r) hp r.n_pos hq hk

cancel : (m n x y v : ℤ) → pos 0 <ℤ m → m ≡ n → m *ℤ (x -ℤ v) ≡ n *ℤ (y -ℤ v) → x ≡ y
cancel m n x y v h e f = go (mul_zero m (x -ℤ y) none)
  where
    none : m *ℤ (x -ℤ y) ≡ pos 0
    none = combine (m ∷ n ∷ x ∷ y ∷ v ∷ []) (eqn one (var 0 :* (var 2 :- var 4)) (var 1 :* (var 3 :- var 4)) ∷ eqn (neg (var 3 :- var 4)) (var 0) (var 1) ∷ []) (var 0 :* (var 2 :- var 3)) o tt f e

    go : (m ≡ pos 0) ⊎ (x -ℤ y ≡ pos 0) → x ≡ y
    go (inl z) = absurd (<ℤ_irrefl (subst (λ (w : ℤ). pos 0 <ℤ w) z h))
    go (inr z) = Rattle.laws.proofs.Integers.-ℤ-zero x y z

pub ray_same : {k p q : Point} (a b c a' b' c' : Point) → OnRay k p q →
    Vol a b c p ≡ pos 0 → pos 0 ≤ℤ Vol a b c q → Vol a b c k <ℤ pos 0 →
    Vol a' b' c' q ≡ pos 0 → pos 0 ≤ℤ Vol a' b' c' p → Vol a' b' c' k <ℤ pos 0 → p ≡ q
unfolding ray_swap
ray_same {k} {p} {q} a b c a' b' c' r h₁ h₂ h₃ g₁ g₂ g₃ = point_ext {p = p} {q = q} (λ i. cancel r.m r.n (on p i) (on q i) (on k i) r.m_pos equal (r.along i))
  where
    equal : r.m ≡ r.n
    equal = antisymm (ray_nearer a' b' c' (ray_swap r) g₁ g₂ g₃) (ray_nearer a b c r h₁ h₂ h₃)
