-- A hull of n touches has at most 2n − 4 faces: each has a middle corner, no touch is the middle of two faces that rise or of two that fall, and the highest
-- and the lowest touch are no middle.
use mathlib.Core.Path.{sym, subst}
use mathlib.Core.Logic.{◌≢◌, inl, inr}
use mathlib.Core.List.{List, [], ◌∷◌}
use Prim.Native.Nat.{ℕ, ◌+◌, ◌*◌, ◌≤◌, ◌<◌}
use native.Mathlib.Omega.{arith}
use lib.IntN.{ℤ, pos}
use lib.ListN.{length}
use lib.Signed.{◌≤ℤ◌}
use Rattle.laws.specs.Lists.{In, Nodup}
use Rattle.laws.proofs.Order.{≤-<_trans, <→≤, not_lt, mul_nonneg}
use Rattle.laws.proofs.Members.{all→}
use Rattle.laws.proofs.Leasts.{least_member, greatest_member}
use Rattle.laws.proofs.Pigeons.{pigeons_two}
use Rattle.laws.proofs.Labels.{Labels, Told, tell}
use Rattle.touches.specs.declared.Point.{Point}
use Rattle.rules.specs.Faces.{Face, Places, corner, face_vol}
use Rattle.rules.proofs.Hull.{Hull}
use Rattle.cover.specs.Cones.{Centre, rays, Covers, Once}
use Rattle.cover.proofs.DetLaws.{cube_pos, from_vol}
use Rattle.cover.proofs.CentreLaws.{turned}
use Rattle.cover.proofs.Heights.{height, telling}
use Rattle.cover.proofs.Middle.{Read, Middle, Rising, Falling, Sorted, sorted}
use Rattle.cover.proofs.OneMiddle.{one_rising, one_falling}

-- ---- a highest and a lowest touch
record Ends (m : Point) (v : Places) (l : List ℕ) : Type 0 where
  top : ℕ
  low : ℕ
  top_in : In top l
  low_in : In low l
  most : (t : ℕ) → In t l → height m (v t) ≤ℤ height m (v top)
  least : (t : ℕ) → In t l → height m (v low) ≤ℤ height m (v t)

ends : (m : Point) (v : Places) {l : List ℕ} {t : ℕ} → In t l → Ends m v l
ends m v {l} i = let T = greatest_member (λ t. height m (v t)) l i in let L = least_member (λ t. height m (v t)) l i in
    record { top = T.0; low = L.0; top_in = T.1; low_in = L.1; most = T.2; least = L.2 }

-- they are no middle, and where there is a middle they are two
module _ {m : Point} {v : Places} {l : List ℕ} (E : Ends m v l) {t : ℕ} (k : Middle m v l t) where
  not_top : E.top ≢ t
  not_top e = not_lt (rw e at (E.most k.u k.u_in)) k.over

  not_low : E.low ≢ t
  not_low e = not_lt (rw e at (E.least k.w k.w_in)) k.under

  two_ends : E.top ≢ E.low
  two_ends e = not_lt (rw e at (E.most k.u k.u_in)) (≤-<_trans (E.least t k.t_in) k.over)

-- so of n touches at most n − 2 are middles
few_middles : {m : Point} {v : Places} {l : List ℕ} → Ends m v l → {t : ℕ} → Middle m v l t → (n : ℕ) → ((t : ℕ) → In t l → t < n) → (k : List ℕ) → Nodup k → ((t : ℕ) → In t k → Middle m v l t) → 2 + length k ≤ n
few_middles E some n below k once mid = pigeons_two n both k (all→ (λ t. E.top ≢ t) (E.low ∷ []) (two_ends E some, tt), (all→ (λ t. E.low ≢ t) [] tt, tt)) once
    (λ s t i j. all→ (λ s. s ≢ t) both (not_top E (mid t j), (not_low E (mid t j), tt)) s i)
    (all→ (λ t. t < n) both (below E.top E.top_in, (below E.low E.low_in, tt))) (λ t i. below t (mid t i).t_in)
  where
    both : List ℕ
    both = E.top ∷ E.low ∷ []

-- ---- the faces of a hull, seen from a centre
module _ {p : Places} {done : List ℕ} {h : List Face} (H : Hull p done h) (c : Centre p done) where
  read : (f : Face) → In f h → Read (rays c) done f (corner f 0) (corner f 1) (corner f 2)
  unfolding face_vol
  read f i = let k = H.corners f i in record {
    a_in = k.a;
    b_in = k.b;
    c_in = k.c;
    outward = turned c H f i;
    behind = λ t j. subst (λ (z : ℤ). pos 0 ≤ℤ z) (sym (from_vol c.w c.s (p (corner f 0)) (p (corner f 1)) (p (corner f 2)) (p t))) (mul_nonneg (<→≤ (cube_pos c.positive)) (H.supporting f i t j));
    inside = λ x n. record { outward = n.outward; ab = n.ab; bc = n.bc; ca = n.ca };
  }

  pub few_faces : Covers c h → Once c h → (n : ℕ) → ((t : ℕ) → In t done → t < n) → length h + 4 ≤ 2 * n
  few_faces covers once n below = omega (arith, told.count, few told.one (λ f t a. a.0), few told.two (λ f t a. a.0))
    where
      m : Point
      m = (telling (rays c) done).0

      sort : (f : Face) → In f h → Sorted m (rays c) done f
      sort f i = sorted m (telling (rays c) done).1 (read f i)

      told : Told (Rising m (rays c) done) (Falling m (rays c) done) h
      told = tell (Rising m (rays c) done) (Falling m (rays c) done) h (one_rising c h once m) (one_falling c h once m) sort

      -- the middle of some face
      some : (t : ℕ) × Middle m (rays c) done t
      some = let f = covers c.s in go (sort f.0 f.1)
        where
          go : {f : Face} → Sorted m (rays c) done f → (t : ℕ) × Middle m (rays c) done t
          go (inl a) = (a.0, a.1.0)
          go (inr a) = (a.0, a.1.0)

      few : {P : Face → ℕ → Type 0} (L : Labels P h) → ((f : Face) (t : ℕ) → P f t → Middle m (rays c) done t) → 2 + length L.all ≤ n
      few L mid = few_middles (ends m (rays c) some.1.t_in) some.1 n below L.all L.once (λ t i. let a = L.of t i in mid a.0 t a.2)
