-- One step: which faces the new list has, that it keeps the invariant, and that a place inside or on stays so.
use mathlib.Core.Path.{◌≡◌, refl, sym, ◌∙◌, ap, ap₂, subst}
use mathlib.Core.Logic.{◌≢◌, ◌⊎◌, inl, inr}
use mathlib.Core.Bool.{true, false, not}
use mathlib.Core.List.Memᴰ
use mathlib.Core.List.{List, [], ◌∷◌, ◌++◌, map, append-nil}
use Prim.Native.Nat.{ℕ}
use lib.Dec.{T, T_not}
use lib.IntN.{ℤ, pos}
use lib.Signed.{◌≤ℤ◌, ◌<ℤ◌}
use Rattle.laws.specs.Lists.{In, Pw, Nodup}
use Rattle.laws.proofs.Tests.{T-or}
use Rattle.laws.proofs.Order.{≤_refl, <→≤}
use Rattle.laws.proofs.Members.{here, there, all→, in_keep, keep_in, keep_all, keep_none, in_map, map_in, in_append, append_l, append_r, Pw-keep, Pw-map, Pw-weak, Pw-append, Pw-get}
use Rattle.touches.specs.declared.Point.{Point}
use Rattle.volume.proofs.VolumeLaws.{alt_c}
use Rattle.rules.specs.Faces.{Face, Places, Side, side, reversed, face_vol, visible, sides_of, sides, border}
use Rattle.rules.specs.Building.{cone, seen, unseen, step}
use Rattle.rules.specs.Demands.{CornersIn, Inside, OnOrInside}
use Rattle.rules.proofs.SideLaws.{each, in_sides, sides_in, Between, to_faces, of_faces, sides_keep}
use Rattle.rules.proofs.FaceLaws.{cone_vol, unseen→, corners_map, side_corners}
use Rattle.rules.proofs.BorderLaws.{in_border, border_in, border_nodup, goes_on}
use Rattle.rules.proofs.Hull.{Apart, Hull, ray_sym, apart_sym, apart_ne, one_side, sides_once, edge_of}
use Rattle.rules.proofs.Horizon.{Horizon, horizon, cone_weak, cone_strict, new_supp, new_body, not_k, not_to_k, fan_out, fan_in, same_start}

-- with no face visible nothing changes
pub step_same : (p : Places) (h : List Face) (k : ℕ) → ((f : Face) → In f h → T (not (visible p k f))) → step p h k ≡ h
unfolding step seen unseen
step_same p h k n = ap₂ (λ (u v : List Face). u ++ map (cone k) (border v)) (keep_all (λ f. not (visible p k f)) h n) (keep_none (visible p k) h n) ∙ append-nil h

-- ---- a face of the new list stays, or is the cone over a side of the border
pub data New (p : Places) (h : List Face) (k : ℕ) (f : Face) : Type 0 where
  stays : In f h → T (not (visible p k f)) → New p h k f
  comes : (s : Side) → In s (border (seen p h k)) → f ≡ cone k s → New p h k f

module _ (p : Places) (h : List Face) (k : ℕ) where
  pub new_face : {f : Face} → In f (step p h k) → New p h k f
  unfolding step unseen
  new_face {f} m = go (in_append (unseen p h k) m)
    where
      go : In f (unseen p h k) ⊎ In f (map (cone k) (border (seen p h k))) → New p h k f
      go (inl i) = let t = in_keep (λ f. not (visible p k f)) h i in stays t.0 t.1
      go (inr i) = let t = in_map (cone k) (border (seen p h k)) i in comes t.0 t.1 t.2

  stay_in : {f : Face} → In f (unseen p h k) → In f (step p h k)
  unfolding step
  stay_in m = append_l (map (cone k) (border (seen p h k))) m

  come_in : {s : Side} → In s (border (seen p h k)) → In (cone k s) (step p h k)
  unfolding step
  come_in m = append_r (unseen p h k) (map_in (cone k) (border (seen p h k)) m)

  unseen_at : {f : Face} → In f (unseen p h k) → In f h × T (not (visible p k f))
  unfolding unseen
  unseen_at m = in_keep (λ f. not (visible p k f)) h m

  unseen_in : {f : Face} → In f h → T (not (visible p k f)) → In f (unseen p h k)
  unfolding unseen
  unseen_in m t = keep_in (λ f. not (visible p k f)) h m t

  seen_at : {f : Face} → In f (seen p h k) → In f h × T (visible p k f)
  unfolding seen
  seen_at m = in_keep (visible p k) h m

  -- a side is on a face that stays or on one that is visible
  stays_or : {s : Side} → In s (sides h) → In s (sides (unseen p h k)) ⊎ In s (sides (seen p h k))
  unfolding seen
  stays_or {s} m = go (in_sides h m)
    where
      go : (f : Face) × In f h × In s (sides_of f) → In s (sides (unseen p h k)) ⊎ In s (sides (seen p h k))
      go u = last (T-or (visible p k u.0))
        where
          last : T (visible p k u.0) ⊎ T (not (visible p k u.0)) → In s (sides (unseen p h k)) ⊎ In s (sides (seen p h k))
          last (inl t) = inr (sides_in (seen p h k) (keep_in (visible p k) h u.1 t) u.2)
          last (inr t) = inl (sides_in (unseen p h k) (unseen_in u.1 t) u.2)

  side_stays : {s : Side} → In s (sides (unseen p h k)) → In s (sides (step p h k))
  side_stays {s} m = let u = in_sides (unseen p h k) m in sides_in (step p h k) (stay_in u.1) u.2

  side_was : {s : Side} → In s (sides (unseen p h k)) → In s (sides h)
  side_was {s} m = let u = in_sides (unseen p h k) m in sides_in h (unseen_at u.1).0 u.2

  -- the corners stay where they are, but for k
  pub step_corners : {M : ℕ → Type 0} → ((f : Face) → In f h → CornersIn M f) → M k → (f : Face) → In f (step p h k) → CornersIn M f
  step_corners {M} c d f m = go (new_face m)
    where
      go : New p h k f → CornersIn M f
      go (stays i t) = c f i
      go (comes s i e) =
          let u = in_sides (seen p h k) (in_border (seen p h k) i).0 in
          let w = side_corners (c u.0 (seen_at u.1).0) s u.2 in
          subst (CornersIn M) (sym e) (record { three = refl; a = w.0; b = w.1; c = d })

-- ---- the invariant
module _ {p : Places} {done : List ℕ} {h : List Face} (H : Hull p done h) (k : ℕ) where
  over : (s : Side) → In s (border (seen p h k)) → Horizon p done h k s
  over s m = horizon H k s m

  pub seen_once : Nodup (sides (seen p h k))
  unfolding seen
  seen_once = sides_keep (λ s t. s ≢ t) (visible p k) h (sides_once H)

  -- I1
  new_corners : (f : Face) → In f (step p h k) → CornersIn (λ t. In t (k ∷ done)) f
  new_corners = step_corners p h k (λ f m. corners_map (λ t i. there i) (H.corners f m)) (here refl)

  -- I2
  new_supporting : (f : Face) → In f (step p h k) → (t : ℕ) → In t (k ∷ done) → pos 0 ≤ℤ face_vol p f (p t)
  new_supporting f m t n = go (new_face p h k m) (Memᴰ.cases_cons n)
    where
      on_own : (s : Side) → pos 0 ≤ℤ face_vol p (cone k s) (p k)
      on_own s = subst (λ (z : ℤ). pos 0 ≤ℤ z) (sym (cone_vol p k s (p k) ∙ alt_c (p s.from) (p s.to) (p k))) (≤_refl (pos 0))

      go : New p h k f → (t ≡ k) ⊎ In t done → pos 0 ≤ℤ face_vol p f (p t)
      go (stays i u) (inl e) = subst (λ (j : ℕ). pos 0 ≤ℤ face_vol p f (p j)) (sym e) (unseen→ p k f u)
      go (stays i u) (inr j) = H.supporting f i t j
      go (comes s i e) (inl e') = subst (λ (z : ℤ). pos 0 ≤ℤ z) (sym (ap₂ (λ (g : Face) (j : ℕ). face_vol p g (p j)) e e')) (on_own s)
      go (comes s i e) (inr j) = subst (λ (z : ℤ). pos 0 ≤ℤ z) (sym (ap (λ (g : Face). face_vol p g (p t)) e ∙ cone_vol p k s (p t))) (new_supp (over s i) t j)

  -- I3
  new_has_body : (f : Face) → In f (step p h k) → (t : ℕ) × In t (k ∷ done) × (pos 0 <ℤ face_vol p f (p t))
  new_has_body f m = go (new_face p h k m)
    where
      go : New p h k f → (t : ℕ) × In t (k ∷ done) × (pos 0 <ℤ face_vol p f (p t))
      go (stays i t) = let b = H.body f i in (b.0, there b.1, b.2)
      go (comes s i e) = let b = new_body (over s i) in
          (b.0, there b.1, subst (λ (z : ℤ). pos 0 <ℤ z) (sym (ap (λ (g : Face). face_vol p g (p b.0)) e ∙ cone_vol p k s (p b.0))) b.2)

  -- I4
  unseen_seen_apart : {s t : Side} → In s (sides (unseen p h k)) → In t (sides (seen p h k)) → Apart p s t
  unseen_seen_apart {s} {t} m n = go (in_sides (unseen p h k) m) (in_sides (seen p h k) n)
    where
      go : (f : Face) × In f (unseen p h k) × In s (sides_of f) → (f : Face) × In f (seen p h k) × In t (sides_of f) → Apart p s t
      go u v = last (Pw-get (λ f g r x y i j. apart_sym y x (r y x j i)) h (to_faces (Apart p) h H.rays).0 (unseen_at p h k u.1).0 (seen_at p h k v.1).0)
        where
          last : (u.0 ≡ v.0) ⊎ Between (Apart p) u.0 v.0 → Apart p s t
          last (inl e) = absurd (T_not (visible p k u.0) (unseen_at p h k u.1).1 (subst (λ (f : Face). T (visible p k f)) (sym e) (seen_at p h k v.1).1))
          last (inr r) = r s t u.2 v.2

  new_back : (s : Side) → In s (sides (step p h k)) → In (reversed s) (sides (step p h k))
  new_back s m = go (in_sides (step p h k) m)
    where
      -- of a side that stays
      stay : In s (sides (unseen p h k)) → In (reversed s) (sides (unseen p h k)) ⊎ In (reversed s) (sides (seen p h k)) → In (reversed s) (sides (step p h k))
      stay i (inl j) = side_stays p h k j
      stay i (inr j) = sides_in (step p h k) (come_in p h k {s = reversed s} (border_in (seen p h k) j (λ n. apart_ne (unseen_seen_apart i n) refl))) (here refl)

      -- of a side of the border: its reverse is on a face that stays
      turned : (t : Side) → In t (border (seen p h k)) → In (reversed t) (sides (step p h k))
      turned t i = last (stays_or p h k (over t i).back_in)
        where
          last : In (reversed t) (sides (unseen p h k)) ⊎ In (reversed t) (sides (seen p h k)) → In (reversed t) (sides (step p h k))
          last (inl j) = side_stays p h k j
          last (inr j) = absurd ((in_border (seen p h k) i).1 j)

      -- of b→k, since a side of the border starts at b; of k→a, since one ends at a
      up : (t : Side) → In t (border (seen p h k)) → In (side k t.to) (sides (step p h k))
      up t i = let u = goes_on (seen p h k) seen_once true t i in sides_in (step p h k) (come_in p h k u.1) (there (there (here (ap (λ (j : ℕ). side k j) (sym u.2)))))

      down : (t : Side) → In t (border (seen p h k)) → In (side t.from k) (sides (step p h k))
      down t i = let u = goes_on (seen p h k) seen_once false t i in sides_in (step p h k) (come_in p h k u.1) (there (here (ap (λ (j : ℕ). side j k) (sym u.2))))

      go : (f : Face) × In f (step p h k) × In s (sides_of f) → In (reversed s) (sides (step p h k))
      go u = last (new_face p h k u.1)
        where
          last : New p h k u.0 → In (reversed s) (sides (step p h k))
          last (stays i t) = let j = sides_in (unseen p h k) (unseen_in p h k i t) u.2 in stay j (stays_or p h k (H.back s (side_was p h k j)))
          last (comes t i e) = each (λ v. In (reversed v) (sides (step p h k))) (cone k t) (turned t i) (up t i) (down t i) s (subst (λ (f : Face). In s (sides_of f)) e u.2)

  -- I5: a side between touches taken against the sides of a cone
  old_new : (s t : Side) → In s.from done → In s.to done → In t (border (seen p h k)) → (v : Side) → In v (sides_of (cone k t)) → Apart p s t → Apart p s v
  old_new s t i j m v n r = each (λ w. Apart p s w) (cone k t) r (not_to_k (over t m) s j) (λ x. not_k (over t m) s.from i x.start) v n

  -- the sides of two cones
  fan : (s t : Side) → In s (border (seen p h k)) → In t (border (seen p h k)) → s ≢ t → Between (Apart p) (cone k s) (cone k t)
  fan s t m n ne u v i j = each (λ w. Apart p w v) (cone k s) first second third u i
    where
      z : Horizon p done h k s
      z = over s m

      w : Horizon p done h k t
      w = over t n

      first : Apart p s v
      first = old_new s t z.F.from_in z.F.to_in n v j (λ r. ne (one_side H z.s_in w.s_in r))

      second : Apart p (side s.to k) v
      second = each (λ x. Apart p (side s.to k) x) (cone k t) (λ r. not_to_k z t w.F.to_in (ray_sym r))
          (λ r. ne (ap reversed (one_side H z.back_in w.back_in (fan_in z w r.start))))
          (λ r. not_k z s.to z.F.to_in r.start) v j

      third : Apart p (side k s.from) v
      third = each (λ x. Apart p (side k s.from) x) (cone k t) (λ r. not_k z t.from w.F.from_in (sym r.start))
          (λ r. not_k z t.to w.F.to_in (sym r.start))
          (λ r. ne (one_side H z.s_in w.s_in (fan_out z w (same_start z w r)))) v j

  -- the sides of one cone
  own : (s : Side) → In s (border (seen p h k)) → Pw (Apart p) (sides_of (cone k s))
  own s m = (
    all→ (λ v. Apart p s v) (side s.to k ∷ side k s.from ∷ []) (not_to_k z s z.F.to_in, ((λ r. not_k z s.from z.F.from_in r.start), tt)),
    (all→ (λ v. Apart p (side s.to k) v) (side k s.from ∷ []) ((λ r. not_k z s.to z.F.to_in r.start), tt), ((λ v n. absurd (Memᴰ.not-nil n)), tt)),
  )
    where
      z : Horizon p done h k s
      z = over s m

  new_rays : Pw (Apart p) (sides (step p h k))
  unfolding step unseen
  new_rays = of_faces (Apart p) (step p h k)
      (Pw-append {R = Between (Apart p)} (unseen p h k) (map (cone k) (border (seen p h k))) kept
      (Pw-map (Between (Apart p)) (cone k) (border (seen p h k)) (Pw-weak {R = λ s t. s ≢ t} (border (seen p h k)) fan (border_nodup (seen p h k) seen_once))) cross) alone
    where
      old : Pw (Between (Apart p)) h × ((f : Face) → In f h → Pw (Apart p) (sides_of f))
      old = to_faces (Apart p) h H.rays

      kept : Pw (Between (Apart p)) (unseen p h k)
      kept = Pw-keep (Between (Apart p)) (λ f. not (visible p k f)) h old.0

      cross : (f g : Face) → In f (unseen p h k) → In g (map (cone k) (border (seen p h k))) → Between (Apart p) f g
      cross f g i j s t m n = let u = in_map (cone k) (border (seen p h k)) j in let e = (edge_of H s (side_was p h k (sides_in (unseen p h k) i m))).2 in
          old_new s u.0 e.from_in e.to_in u.1 t (subst (λ (x : Face). In t (sides_of x)) u.2 n) (unseen_seen_apart (sides_in (unseen p h k) i m) (in_border (seen p h k) u.1).0)

      alone : (f : Face) → In f (step p h k) → Pw (Apart p) (sides_of f)
      alone f m = go (new_face p h k m)
        where
          go : New p h k f → Pw (Apart p) (sides_of f)
          go (stays i t) = old.1 f i
          go (comes s i e) = subst (λ (g : Face). Pw (Apart p) (sides_of g)) (sym e) (own s i)

  pub step_hull : Hull p (k ∷ done) (step p h k)
  step_hull = record { corners = new_corners; supporting = new_supporting; body = new_has_body; back = new_back; rays = new_rays }

  -- ---- L2: inside stays inside, and on or inside stays so
  pub step_inside : (q : Point) → Inside p h q → Inside p (step p h k) q
  step_inside q d f m = go (new_face p h k m)
    where
      go : New p h k f → pos 0 <ℤ face_vol p f q
      go (stays i t) = d f i
      go (comes s i e) = let z = over s i in subst (λ (g : Face). pos 0 <ℤ face_vol p g q) (sym e) (cone_strict z q (<→≤ (d z.f z.f_in)) (d z.g z.g_in))

  pub step_within : (q : Point) → OnOrInside p h q → OnOrInside p (step p h k) q
  step_within q d f m = go (new_face p h k m)
    where
      go : New p h k f → pos 0 ≤ℤ face_vol p f q
      go (stays i t) = d f i
      go (comes s i e) = let z = over s i in subst (λ (g : Face). pos 0 ≤ℤ face_vol p g q) (sym e) (cone_weak z q (d z.f z.f_in) (d z.g z.g_in))
