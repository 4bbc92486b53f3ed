-- A side of the border of what k sees: the face there that k sees, the face there that it does not, and the new face over the side (L1 to L4).
use mathlib.Core.Path.{◌≡◌, sym, ◌∙◌, ap, subst}
use mathlib.Core.Logic.{◌⊎◌, inl, inr}
use mathlib.Core.Bool.{not}
use mathlib.Core.List.{List}
use Prim.Native.Nat.{ℕ}
use lib.Dec.{T}
use lib.IntN.{ℤ, pos}
use lib.Signed.{◌≤ℤ◌, ◌<ℤ◌}
use Rattle.laws.specs.Lists.{In}
use Rattle.laws.proofs.Tests.{T-or}
use Rattle.laws.proofs.Order.{not_lt}
use Rattle.laws.proofs.Members.{in_keep, keep_in}
use Rattle.touches.specs.declared.Point.{Point}
use Rattle.volume.specs.Volume.{Vol}
use Rattle.volume.proofs.VolumeLaws.{alt_a, alt_b}
use Rattle.volume.proofs.Rays.{OnRay, ray_front, ray_same}
use Rattle.volume.proofs.Wings.{Wings, wings, new_weak, new_strict}
use Rattle.volume.proofs.Turn.{Bracket, neg-Vol, vol_bracket, neg_bracket, mirror, turn}
use Rattle.rules.specs.Faces.{Face, Places, Side, side, reversed, face_vol, visible, sides_of, sides, border}
use Rattle.rules.specs.Building.{cone, seen}
use Rattle.rules.proofs.SideLaws.{in_sides, sides_in}
use Rattle.rules.proofs.FaceLaws.{cone_vol, seen→, unseen→}
use Rattle.rules.proofs.BorderLaws.{in_border}
use Rattle.rules.proofs.Hull.{Ray, Apart, Hull, Edge, edge}

pub record Horizon (p : Places) (done : List ℕ) (h : List Face) (k : ℕ) (s : Side) : Type 0 where
  pub f : Face
  pub f_in : In f h
  pub g : Face
  pub g_in : In g h
  pub s_in : In s (sides h)
  pub back_in : In (reversed s) (sides h)
  pub F : Edge p done f s
  pub G : Edge p done g (reversed s)
  pub two : Wings (p s.from) (p s.to) (p F.y) (p G.y) (p k)

pub horizon : {p : Places} {done : List ℕ} {h : List Face} → Hull p done h → (k : ℕ) (s : Side) → In s (border (seen p h k)) → Horizon p done h k s
unfolding seen
horizon {p} {done} {h} H k s m = go (in_sides (seen p h k) r.0)
  where
    r : In s (sides (seen p h k)) × (In (reversed s) (sides (seen p h k)) → ⊥)
    r = in_border (seen p h k) m

    go : (f : Face) × In f (seen p h k) × In s (sides_of f) → Horizon p done h k s
    go u = last (in_sides h back)
      where
        f_at : In u.0 h × T (visible p k u.0)
        f_at = in_keep (visible p k) h u.1

        s_at : In s (sides h)
        s_at = sides_in h f_at.0 u.2

        back : In (reversed s) (sides h)
        back = H.back s s_at

        hidden : (g : Face) → In g h → In (reversed s) (sides_of g) → T (visible p k g) ⊎ T (not (visible p k g)) → T (not (visible p k g))
        hidden g i j (inl t) = absurd (r.1 (sides_in (seen p h k) (keep_in (visible p k) h i t) j))
        hidden g i j (inr t) = t

        last : (g : Face) × In g h × In (reversed s) (sides_of g) → Horizon p done h k s
        last v = record { f = u.0; f_in = f_at.0; g = v.0; g_in = v.1; s_in = s_at; back_in = back; F = E; G = E'; two = bent }
          where
            E : Edge p done u.0 s
            E = edge H u.0 f_at.0 s u.2

            E' : Edge p done v.0 (reversed s)
            E' = edge H v.0 v.1 (reversed s) v.2

            bent : Wings (p s.from) (p s.to) (p E.y) (p E'.y) (p k)
            bent = let t = E'.some in
                wings (p s.from) (p s.to) (p E.y) (p E'.y) (p k)
                (subst (λ (z : ℤ). z <ℤ pos 0) (E.is (p k)) (seen→ p k u.0 f_at.1))
                (subst (λ (z : ℤ). pos 0 ≤ℤ z) (E'.is (p k)) (unseen→ p k v.0 (hidden v.0 v.1 v.2 (T-or (visible p k v.0)))))
                (p t.0) (E.supp t.0 t.1) t.2 (E.supp E'.y E'.y_in)

module _ {p : Places} {done : List ℕ} {h : List Face} {k : ℕ} {s : Side} (z : Horizon p done h k s) where
  -- L2: a place on or behind the two faces is so to the new face; the same strictly
  pub cone_weak : (q : Point) → pos 0 ≤ℤ face_vol p z.f q → pos 0 ≤ℤ face_vol p z.g q → pos 0 ≤ℤ face_vol p (cone k s) q
  cone_weak q u v = subst (λ (w : ℤ). pos 0 ≤ℤ w) (sym (cone_vol p k s q)) (new_weak z.two q (subst (λ (w : ℤ). pos 0 ≤ℤ w) (z.F.is q) u) (subst (λ (w : ℤ). pos 0 ≤ℤ w) (z.G.is q) v))

  pub cone_strict : (q : Point) → pos 0 ≤ℤ face_vol p z.f q → pos 0 <ℤ face_vol p z.g q → pos 0 <ℤ face_vol p (cone k s) q
  cone_strict q u v = subst (λ (w : ℤ). pos 0 <ℤ w) (sym (cone_vol p k s q)) (new_strict z.two q (subst (λ (w : ℤ). pos 0 ≤ℤ w) (z.F.is q) u) (subst (λ (w : ℤ). pos 0 <ℤ w) (z.G.is q) v))

  -- L1: the touches taken are on or behind the new face, and one is behind it
  pub new_supp : (t : ℕ) → In t done → pos 0 ≤ℤ Vol (p s.from) (p s.to) (p k) (p t)
  new_supp t m = new_weak z.two (p t) (z.F.supp t m) (z.G.supp t m)

  pub new_body : (t : ℕ) × In t done × (pos 0 <ℤ Vol (p s.from) (p s.to) (p k) (p t))
  new_body = let b = z.G.some in (b.0, b.1, new_strict z.two (p b.0) (z.F.supp b.0 b.1) b.2)

  -- no touch taken is where k is
  pub not_k : (i : ℕ) → In i done → p i ≡ p k → ⊥
  not_k i m e = not_lt (subst (λ (q : Point). pos 0 ≤ℤ Vol (p s.from) (p s.to) (p z.F.y) q) e (z.F.supp i m)) z.two.front

  -- a side between touches taken does not run along s .to → k
  pub not_to_k : (t : Side) → In t.to done → Apart p t (side s.to k)
  not_to_k t m r = ray_front (p s.from) (p s.to) (p z.F.y)
      (ap (λ (q : Point). Vol (p s.from) (p s.to) (p z.F.y) q) r.start ∙ alt_b (p s.from) (p s.to) (p z.F.y))
      (z.F.supp t.to m) z.two.front r.way

-- ---- L4, over a bracket: a face (A,B,y) with k in front, and the touches taken on or behind the new face (A,B,k)
record Turning (W : Point → Point → Point → Point → ℤ) (p : Places) (done : List ℕ) (k A B : Point) : Type 0 where
  y : Point
  front : W A B y k <ℤ pos 0
  supp : (t : ℕ) → In t done → pos 0 ≤ℤ W A B y (p t)
  new : (t : ℕ) → In t done → pos 0 ≤ℤ W A B k (p t)
  some : (t : ℕ) × In t done × (pos 0 <ℤ W A B k (p t))

turn_ray : {W : Point → Point → Point → Point → ℤ} → Bracket W → {p : Places} {done : List ℕ} {k A : Point} (b b' : ℕ) → In b done → In b' done → Turning W p done k A (p b) → Turning W p done k A (p b') → OnRay A (p b) (p b')
turn_ray L {p} {done} {k} {A} b b' m m' t t' = let x = t.some in
    turn L A (p b) t.y (p b') t'.y k (p x.0) t.front t'.front (t.supp b' m') (t'.supp b m) (t.new b' m') (t'.new b m) x.2 (t'.new x.0 x.1)

module _ {p : Places} {done : List ℕ} {h : List Face} {k : ℕ} where
  forward : {s : Side} → Horizon p done h k s → Turning Vol p done (p k) (p s.from) (p s.to)
  forward {s} z = record { y = p z.F.y; front = z.two.front; supp = z.F.supp; new = new_supp z; some = new_body z }

  backward : {s : Side} → Horizon p done h k s → Turning neg-Vol p done (p k) (p s.to) (p s.from)
  backward {s} z = record {
    y = p z.F.y;
    front = subst (λ (w : ℤ). w <ℤ pos 0) (m (p z.F.y) (p k)) z.two.front;
    supp = λ t i. subst (λ (w : ℤ). pos 0 ≤ℤ w) (m (p z.F.y) (p t)) (z.F.supp t i);
    new = λ t i. subst (λ (w : ℤ). pos 0 ≤ℤ w) (m (p k) (p t)) (new_supp z t i);
    some = let b = new_body z in (b.0, b.1, subst (λ (w : ℤ). pos 0 <ℤ w) (m (p k) (p b.0)) b.2);
  }
    where
      m : (c d : Point) → Vol (p s.from) (p s.to) c d ≡ neg-Vol (p s.to) (p s.from) c d
      m c d = sym (mirror (p s.from) (p s.to) c d)

  -- two sides of the border that start at one position lie on one ray; and two that end at one position
  pub fan_out : {s t : Side} → Horizon p done h k s → Horizon p done h k t → p s.from ≡ p t.from → Ray p s t
  fan_out {s} {t} z w e = record {
    start = e;
    way = turn_ray vol_bracket s.to t.to z.F.to_in w.F.to_in (forward z) (subst (λ (q : Point). Turning Vol p done (p k) q (p t.to)) (sym e) (forward w));
  }

  pub fan_in : {s t : Side} → Horizon p done h k s → Horizon p done h k t → p s.to ≡ p t.to → Ray p (reversed s) (reversed t)
  fan_in {s} {t} z w e = record {
    start = e;
    way = turn_ray neg_bracket s.from t.from z.F.from_in w.F.from_in (backward z) (subst (λ (q : Point). Turning neg-Vol p done (p k) q (p t.from)) (sym e) (backward w));
  }

  -- L3: k → s.from and k → t.from on one ray
  pub same_start : {s t : Side} → Horizon p done h k s → Horizon p done h k t → Ray p (side k s.from) (side k t.from) → p s.from ≡ p t.from
  same_start {s} {t} z w r =
      ray_same (p s.from) (p s.to) (p z.F.y) (p t.from) (p t.to) (p w.F.y) r.way
      (alt_a (p s.from) (p s.to) (p z.F.y)) (z.F.supp t.from w.F.from_in) z.two.front
      (alt_a (p t.from) (p t.to) (p w.F.y)) (w.F.supp s.from z.F.from_in) w.two.front
