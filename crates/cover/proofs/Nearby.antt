-- Near each place there is one that is on none of finitely many planes through the origin.
use mathlib.Core.Path.{◌≡◌, refl, sym, ◌∙◌, ap, subst}
use mathlib.Core.Logic.{◌≢◌}
use mathlib.Core.List.Memᴰ
use mathlib.Core.List.{List, [], ◌∷◌, map, flat_map}
use Prim.Native.Nat.{ℕ, suc, ◌+◌, ◌≤◌}
use native.Mathlib.Omega.{arith}
use lib.Dec.{T}
use lib.IntN.{ℤ, pos, ◌+ℤ◌, ◌*ℤ◌}
use lib.Signed.{◌≤ℤ◌, ◌<ℤ◌}
use Rattle.laws.specs.Lists.{In}
use Rattle.laws.proofs.Integers.{up, dn, up_neg, dn_neg}
use Rattle.laws.proofs.Ring.{Ex, o, one, var, ◌:+◌, ◌:-◌, ◌:*◌, neg, ring}
use Rattle.laws.proofs.Order.{zs, pos_is, suc_pos, pos_ne, neg_ne, sub_nonneg, lt→le1, <→≤, ≡→≤, mul_nonneg, Sign, minus, null, plus, sign}
use Rattle.laws.proofs.Certificates.{strict, combine, eqn, le, lt}
use Rattle.laws.proofs.Members.{there, map_in, cons_each, flat_map_in}
use Rattle.laws.proofs.Signs.{Sg, is_above, sg, sg_above, sg_below, is_above_lem, above→, level→}
use Rattle.touches.specs.declared.Point.{Point}
use Rattle.volume.proofs.Quote.{Spot, pt}
use Rattle.rules.specs.Faces.{Places}
use Rattle.cover.specs.Cones.{det}
use Rattle.cover.proofs.DetLaws.{det_e, D, env_with}
use Rattle.cover.proofs.Hits.{Clear}

-- m·q + e
abbrev pub moved : ℤ → Point → Point → Point
moved m q e = record { x = m *ℤ q.x +ℤ e.x; y = m *ℤ q.y +ℤ e.y; z = m *ℤ q.z +ℤ e.z }

abbrev pub moved_e : Ex → Spot → Spot → Spot
moved_e m q e = record { x = m :* q.x :+ e.x; y = m :* q.y :+ e.y; z = m :* q.z :+ e.z }

pub det_moved : (u w q e : Point) (m : ℤ) → det u w (moved m q e) ≡ m *ℤ det u w q +ℤ det u w e
unfolding det
det_moved u w q e m = ring (env_with m (u ∷ w ∷ q ∷ e ∷ [])) (det_e (pt 0) (pt 1) (moved_e (var 12) (pt 2) (pt 3))) (var 12 :* D 0 1 2 :+ D 0 1 3) tt

-- a plane through the origin, where a linear form reads 0, and a place that may be off it
pub record Plane : Type 0 where
  pub reads : Point → ℤ
  pub linear : (q e : Point) (m : ℤ) → reads (moved m q e) ≡ m *ℤ reads q +ℤ reads e
  pub off : Point

-- r is on the same side as q, of each plane that q is not on
pub record Near (l : List Plane) (q r : Point) : Type 0 where
  pub same : (P : Plane) → In P l → P.reads q ≢ pos 0 → sg (P.reads r) ≡ sg (P.reads q)

near_self : (l : List Plane) (q : Point) → Near l q q
near_self l q = record { same = λ P m h. refl }

near_off : {l : List Plane} {q r : Point} → Near l q r → (P : Plane) → In P l → P.reads q ≢ pos 0 → P.reads r ≢ pos 0
near_off {l} {q} n P m h e = h (level→ (P.reads q) (sym (n.same P m h) ∙ ap sg e))

near_trans : {l : List Plane} {q r s : Point} → Near l q r → Near l r s → Near l q s
near_trans a b = record { same = λ P m h. b.same P m (near_off a P m h) ∙ a.same P m h }

-- what is above 0 at q is above 0 at r
pub near_above : {l : List Plane} {q r : Point} → Near l q r → (P : Plane) → In P l → pos 0 <ℤ P.reads q → pos 0 <ℤ P.reads r
near_above {l} {q} {r} n P m h = above→ (P.reads r) (subst (λ (s : Sg). T (is_above s)) (sym (n.same P m (pos_ne h))) (is_above_lem h))

-- what is above 0 at r is not below 0 at q
pub near_back : {l : List Plane} {q r : Point} → Near l q r → (P : Plane) → In P l → pos 0 <ℤ P.reads r → pos 0 ≤ℤ P.reads q
near_back {l} {q} {r} n P m h = go (sign (P.reads q))
  where
    go : Sign (P.reads q) → pos 0 ≤ℤ P.reads q
    go (minus x) = <→≤ (above→ (P.reads q) (subst (λ (s : Sg). T (is_above s)) (n.same P m (neg_ne x)) (is_above_lem h)))
    go (null x) = ≡→≤ (sym x)
    go (plus x) = <→≤ x

-- ---- a large multiple of q, moved by e, is near q
most : List Plane → Point → ℕ
most [] e = 0
most (P ∷ l) e = up (P.reads e) + dn (P.reads e) + most l e

at_most : (l : List Plane) (e : Point) (P : Plane) → In P l → up (P.reads e) + dn (P.reads e) ≤ most l e
unfolding most
at_most [] e P m = absurd (Memᴰ.not-nil m)
at_most (Q ∷ l) e P m = cons_each (λ (R : Plane). up (R.reads e) + dn (R.reads e) ≤ most (Q ∷ l) e) (omega arith) (λ R n. omega (arith, at_most l e R n)) P m

stays : (m : ℕ) (x y : ℤ) → up y + dn y ≤ m → x ≢ pos 0 → sg (pos (suc m) *ℤ x +ℤ y) ≡ sg x
stays m x y h n = go (sign x)
  where
    M : ℤ
    M = pos (suc m)

    M_times : {a : ℤ} → pos 0 ≤ℤ a → pos 0 ≤ℤ (M *ℤ a)
    M_times k = mul_nonneg (<→≤ (suc_pos m)) k

    go : Sign x → sg (M *ℤ x +ℤ y) ≡ sg x
    go (minus k) = sg_below (strict (M ∷ x ∷ y ∷ []) (le 1 o (var 0 :* (o :- (var 1 :+ one))) ∷ lt 1 (var 2) (var 0) ∷ []) 0 (var 0 :* var 1 :+ var 2) o tt
        (M_times (sub_nonneg (lt→le1 k))) (omega (arith, zs, pos_is (suc m)))) ∙ sym (sg_below k)
    go (null k) = absurd (n k)
    go (plus k) = sg_above (strict (M ∷ x ∷ y ∷ []) (le 1 o (var 0 :* (var 1 :- (o :+ one))) ∷ lt 1 (neg (var 2)) (var 0) ∷ []) 0 o (var 0 :* var 1 :+ var 2) tt
        (M_times (sub_nonneg (lt→le1 k))) (omega (arith, zs, pos_is (suc m), up_neg y, dn_neg y))) ∙ sym (sg_above k)

pub near_moved : (l : List Plane) (q e : Point) → (m : ℤ) × (pos 0 <ℤ m) × Near l q (moved m q e)
near_moved l q e = (M, suc_pos (most l e), record { same = λ P i h. ap sg (P.linear q e M) ∙ stays (most l e) (P.reads q) (P.reads e) (at_most l e P i) h })
  where
    M : ℤ
    M = pos (suc (most l e))

-- ---- off one plane after another: where q is on it, it is moved by the place that is off it
abbrev pub Away : Plane → Point → Type 0
Away P r = P.reads P.off ≢ pos 0 → P.reads r ≢ pos 0

only_shift : (m x y : ℤ) → x ≡ pos 0 → m *ℤ x +ℤ y ≡ y
only_shift m x y e = combine (m ∷ x ∷ y ∷ []) (eqn (var 0) (var 1) o ∷ []) (var 0 :* var 1 :+ var 2) (var 2) tt e

off_one : (l : List Plane) (Q : Plane) (q : Point) → (r : Point) × Near l q r × Away Q r
off_one l Q q = go (sign (Q.reads q))
  where
    away : (m : ℤ) → Q.reads q ≡ pos 0 → Away Q (moved m q Q.off)
    away m h n e = n (sym (Q.linear q Q.off m ∙ only_shift m (Q.reads q) (Q.reads Q.off) h) ∙ e)

    go : Sign (Q.reads q) → (r : Point) × Near l q r × Away Q r
    go (minus x) = (q, near_self l q, (λ n. neg_ne x))
    go (null x) = let t = near_moved l q Q.off in (moved t.0 q Q.off, t.2, away t.0 x)
    go (plus x) = (q, near_self l q, (λ n. pos_ne x))

off_all : (l ks : List Plane) → ((P : Plane) → In P ks → In P l) → (q : Point) → (r : Point) × Near l q r × ((P : Plane) → In P ks → Away P r)
off_all l [] s q = (q, near_self l q, (λ P m. absurd (Memᴰ.not-nil m)))
off_all l (Q ∷ ks) s q = let t = off_all l ks (λ P m. s P (there m)) q in let u = off_one l Q t.0 in
    (u.0, near_trans t.1 u.1, cons_each (λ (P : Plane). Away P u.0) u.2 (λ P m n. near_off u.1 P (s P (there m)) (t.2 P m n)))

-- ---- a plane for each three touches of a list
module _ (plane : ℕ → ℕ → ℕ → Plane) (l : List ℕ) where
  abbrev pub by_three : List Plane
  by_three = flat_map (λ a. flat_map (λ b. map (plane a b) l) l) l

  three_in : {a b c : ℕ} → In a l → In b l → In c l → In (plane a b c) by_three
  three_in {a} {b} {c} i j m = flat_map_in (λ a. flat_map (λ b. map (plane a b) l) l) l i (flat_map_in (λ b. map (plane a b) l) l j (map_in (plane a b) l m))

  pub off_three : (q : Point) → (r : Point) × Near by_three q r × ((a b c : ℕ) → In a l → In b l → In c l → Away (plane a b c) r)
  off_three q = let t = off_all by_three by_three (λ P m. m) q in (t.0, t.1, (λ a b c i j m. t.2 (plane a b c) (three_in i j m)))

-- ---- the planes through two touches each of a list
module _ (v : Places) (l : List ℕ) where
  abbrev pub plane : ℕ → ℕ → ℕ → Plane
  plane a b c = record { reads = det (v a) (v b); linear = det_moved (v a) (v b); off = v c }

  abbrev pub planes : List Plane
  planes = by_three plane l

  pub plane_in : {a b c : ℕ} → In a l → In b l → In c l → In (plane a b c) planes
  plane_in = three_in plane l

  -- near each place there is one on none of these planes, but for those of touches in line with the origin
  pub clear_near : (q : Point) → (r : Point) × Near planes q r × Clear v l r
  clear_near q = let t = off_three plane l q in (t.0, t.1, record { off = t.2 })
