-- Each face has a corner in the middle by height; read from it the face rises, or falls.
use mathlib.Core.Path.{sym, subst}
use mathlib.Core.Logic.{◌⊎◌, inl, inr}
use mathlib.Core.List.{List, [], ◌∷◌}
use Prim.Native.Nat.{ℕ}
use lib.IntN.{ℤ, pos}
use lib.Signed.{◌≤ℤ◌, ◌<ℤ◌}
use Rattle.laws.specs.Lists.{In}
use Rattle.laws.proofs.Order.{less_or, pos_ne}
use Rattle.touches.specs.declared.Point.{Point}
use Rattle.volume.specs.Volume.{Vol}
use Rattle.volume.proofs.VolumeLaws.{turn_abc}
use Rattle.rules.specs.Faces.{Face, Places}
use Rattle.cover.specs.Cones.{det, InsideCone}
use Rattle.cover.proofs.DetLaws.{turn_pos}
use Rattle.cover.proofs.Heights.{height, down, down_lt, Tells}

-- face f read from its corner a, with the touches of the list l at v: it is turned outward, no touch is in front of it, and its cone is that of f
pub record Read (v : Places) (l : List ℕ) (f : Face) (a b c : ℕ) : Type 0 where
  pub a_in : In a l
  pub b_in : In b l
  pub c_in : In c l
  pub outward : pos 0 <ℤ det (v a) (v b) (v c)
  pub behind : (t : ℕ) → In t l → pos 0 ≤ℤ Vol (v a) (v b) (v c) (v t)
  pub inside : (x : Point) → InsideCone v (a ∷ b ∷ c ∷ []) x → InsideCone v f x

-- touch t is in the middle by height: u is above it, and w below
pub record Middle (m : Point) (v : Places) (l : List ℕ) (t : ℕ) : Type 0 where
  pub u : ℕ
  pub w : ℕ
  pub t_in : In t l
  pub u_in : In u l
  pub w_in : In w l
  pub over : height m (v t) <ℤ height m (v u)
  pub under : height m (v w) <ℤ height m (v t)

-- t is the middle corner of face f, and read from t the face goes up first, or down first
abbrev pub Rising : Point → Places → List ℕ → Face → ℕ → Type 0
Rising m v l f t = (k : Middle m v l t) × Read v l f t k.u k.w

abbrev pub Falling : Point → Places → List ℕ → Face → ℕ → Type 0
Falling m v l f t = (k : Middle m v l t) × Read v l f t k.w k.u

abbrev pub Sorted : Point → Places → List ℕ → Face → Type 0
Sorted m v l f = ((t : ℕ) × Rising m v l f t) ⊎ ((t : ℕ) × Falling m v l f t)

module _ {v : Places} {l : List ℕ} {f : Face} where
  -- what falls rises by the form the other way up
  pub fall_rise : {m : Point} {t : ℕ} → Falling m v l f t → Rising (down m) v l f t
  fall_rise {m} {t} (k, r) = (record { u = k.w; w = k.u; t_in = k.t_in; u_in = k.w_in; w_in = k.u_in; over = down_lt m (v k.w) (v t) k.under; under = down_lt m (v t) (v k.u) k.over }, r)

  -- read from the next corner
  next : {a b c : ℕ} → Read v l f a b c → Read v l f b c a
  next {a} {b} {c} r = record {
    a_in = r.b_in;
    b_in = r.c_in;
    c_in = r.a_in;
    outward = turn_pos (v a) (v b) (v c) r.outward;
    behind = λ t i. subst (λ (z : ℤ). pos 0 ≤ℤ z) (sym (turn_abc (v a) (v b) (v c) (v t))) (r.behind t i);
    inside = λ x n. r.inside x (record { outward = r.outward; ab = n.ca; bc = n.ab; ca = n.bc });
  }

  module _ (m : Point) where
    rising : {a b c : ℕ} → Read v l f a b c → height m (v a) <ℤ height m (v b) → height m (v c) <ℤ height m (v a) → Sorted m v l f
    rising {a} {b} {c} r h k = inl (a, (record { u = b; w = c; t_in = r.a_in; u_in = r.b_in; w_in = r.c_in; over = h; under = k }, r))

    falling : {a b c : ℕ} → Read v l f a b c → height m (v b) <ℤ height m (v a) → height m (v a) <ℤ height m (v c) → Sorted m v l f
    falling {a} {b} {c} r h k = inr (a, (record { u = c; w = b; t_in = r.a_in; u_in = r.c_in; w_in = r.b_in; over = k; under = h }, r))

    -- the corners are at three heights, so one of them is the middle
    pub sorted : Tells m v l → {a b c : ℕ} → Read v l f a b c → Sorted m v l f
    sorted tells {a} {b} {c} r = go (order r) (order (next r)) (order (next (next r)))
      where
        order : {a b c : ℕ} → Read v l f a b c → (height m (v a) <ℤ height m (v b)) ⊎ (height m (v b) <ℤ height m (v a))
        order {a} {b} {c} r = less_or (height m (v a)) (height m (v b)) (tells a b c r.a_in r.b_in r.c_in (pos_ne r.outward))

        A : ℤ
        A = height m (v a)

        B : ℤ
        B = height m (v b)

        C : ℤ
        C = height m (v c)

        go : (A <ℤ B) ⊎ (B <ℤ A) → (B <ℤ C) ⊎ (C <ℤ B) → (C <ℤ A) ⊎ (A <ℤ C) → Sorted m v l f
        go (inl ab) (inl bc) ca = rising (next r) bc ab
        go (inr ba) (inr cb) ca = falling (next r) cb ba
        go (inl ab) (inr cb) (inl ca) = rising r ab ca
        go (inl ab) (inr cb) (inr ac) = falling (next (next r)) ac cb
        go (inr ba) (inl bc) (inl ca) = rising (next (next r)) ca bc
        go (inr ba) (inl bc) (inr ac) = falling r ba ac
