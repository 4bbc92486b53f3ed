-- The four starting faces of A, B, C, D with V(A,B,C,D) > 0 are a hull of these four touches, and V(A,B,C,D) is their volume.
use mathlib.Core.Path.{◌≡◌, refl, sym, ◌∙◌, ap, subst}
use mathlib.Core.Logic.{◌⊎◌, inl, inr}
use mathlib.Core.Bool.{Bool, true, false, not, ◌&&◌, ◌||◌}
use mathlib.Core.List.Memᴰ
use mathlib.Core.List.{List, [], ◌∷◌}
use Prim.Native.Nat.{ℕ, zero, suc}
use lib.Dec.{T, eqb}
use lib.IntN.{ℤ, pos, ◌-ℤ◌, ◌*ℤ◌}
use lib.Signed.{◌≤ℤ◌, ◌<ℤ◌, <ℤ_irrefl}
use Rattle.laws.specs.Lists.{In, Pw, has}
use Rattle.laws.proofs.Tests.{and_both, or_either, is_false}
use Rattle.laws.proofs.Order.{≤_refl, <→≤, mul_pos_pos}
use Rattle.laws.proofs.Ring.{o, one, var, ◌:+◌, ◌:-◌, ◌:*◌, neg}
use Rattle.laws.proofs.Certificates.{combine, eqn}
use Rattle.laws.proofs.Members.{here, there, all→, in_map, map_in, has→, Pw-map}
use Rattle.laws.proofs.Checks.{every→, pairs→}
use Rattle.touches.specs.declared.Point.{Point}
use Rattle.volume.specs.Volume.{Vol}
use Rattle.volume.proofs.VolumeLaws.{alt_a, alt_b, alt_c, alt_bc, turn_bdc, turn_abd, swap_both, co}
use Rattle.rules.specs.Faces.{Face, Places, Side, side, reversed, same_side, face_vol, sides}
use Rattle.rules.specs.Start.{start_table, start_faces}
use Rattle.rules.specs.Demands.{CornersIn}
use Rattle.rules.proofs.SideLaws.{same_sound, same_self}
use Rattle.rules.proofs.FaceLaws.{face_aff}
use Rattle.rules.proofs.Hull.{Apart, Hull}
use Rattle.rules.proofs.GrowthLaws.{volume_at}

-- ---- the corners by name, and by their place in the fixed table
data Corner : Type 0 where
  A B C D : Corner

abbrev place : Corner → ℕ
place A = 0
place B = 1
place C = 2
place D = 3

abbrev named : ℕ → Corner
named zero = A
named (suc zero) = B
named (suc (suc zero)) = C
named (suc (suc (suc i))) = D

abbrev is : Corner → Corner → Bool
is x y = eqb (place x) (place y)

-- no two sides of the table are from one corner to one corner, and none from a corner to itself
abbrev proper : Side → Side → Bool
proper s t = not (is (named s.to) (named s.from)) && (not (is (named s.from) (named t.from)) || not (is (named s.to) (named t.to)))

no_line : (m n x y z : ℤ) → m *ℤ (x -ℤ y) ≡ n *ℤ (z -ℤ y) → y ≡ pos 0 → z ≡ pos 0 → pos 0 <ℤ m → pos 0 <ℤ x → ⊥
no_line m n x y z e ey ez hm hx = <ℤ_irrefl (subst (λ (w : ℤ). pos 0 <ℤ w) none (mul_pos_pos hm hx))
  where
    none : m *ℤ x ≡ pos 0
    none = combine (m ∷ n ∷ x ∷ y ∷ z ∷ []) (eqn one (var 0 :* (var 2 :- var 3)) (var 1 :* (var 4 :- var 3)) ∷ eqn (var 0 :- var 1) (var 3) o ∷ eqn (var 1) (var 4) o ∷ []) (var 0 :* var 2) o tt e ey ez

module _ (p : Places) (a b c d : ℕ) where
  abbrev four : List ℕ
  four = a ∷ b ∷ c ∷ d ∷ []

  abbrev vol : ℤ
  vol = Vol (p a) (p b) (p c) (p d)

  abbrev touch : Corner → ℕ
  touch A = a
  touch B = b
  touch C = c
  touch D = d

  -- the face opposite a corner
  abbrev opposite : Corner → Face
  opposite A = b ∷ d ∷ c ∷ []
  opposite B = c ∷ d ∷ a ∷ []
  opposite C = a ∷ d ∷ b ∷ []
  opposite D = a ∷ b ∷ c ∷ []

  abbrev weight : Bool → ℤ
  weight true = vol
  weight false = pos 0

  -- it has V(A,B,C,D) at that corner, and 0 at its own
  value : (x y : Corner) → face_vol p (opposite x) (p (touch y)) ≡ weight (is x y)
  unfolding face_vol
  value A A = turn_abd (p a) (p b) (p c) (p d)
  value A B = alt_a (p b) (p d) (p c)
  value A C = alt_c (p b) (p d) (p c)
  value A D = alt_b (p b) (p d) (p c)
  value B A = alt_c (p c) (p d) (p a)
  value B B = swap_both (p a) (p b) (p c) (p d)
  value B C = alt_a (p c) (p d) (p a)
  value B D = alt_b (p c) (p d) (p a)
  value C A = alt_a (p a) (p d) (p b)
  value C B = alt_c (p a) (p d) (p b)
  value C C = turn_bdc (p a) (p b) (p c) (p d)
  value C D = alt_b (p a) (p d) (p b)
  value D A = alt_a (p a) (p b) (p c)
  value D B = alt_b (p a) (p b) (p c)
  value D C = alt_c (p a) (p b) (p c)
  value D D = refl

  none_at : (x y : Corner) → T (not (is x y)) → face_vol p (opposite x) (p (touch y)) ≡ pos 0
  none_at x y t = value x y ∙ ap weight (is_false (is x y) t)

  -- the volume, from any point
  pub four_volume : (q : Point) → volume_at p (start_faces four) q ≡ vol
  unfolding face_vol
  four_volume q =
      combine (Vol (p a) (p b) (p c) q ∷ Vol (p a) (p d) (p b) q ∷ Vol (p b) (p d) (p c) q ∷ Vol (p c) (p d) (p a) q ∷ Vol (p a) (p b) (p d) q ∷ Vol (p b) (p c) (p d) q ∷ Vol (p c) (p a) (p d) q ∷ vol ∷ [])
      (eqn one (var 0) (var 4 :+ var 5 :+ var 6 :+ var 7) ∷ eqn one (var 1) (neg (var 4)) ∷ eqn one (var 2) (neg (var 5)) ∷ eqn one (var 3) (neg (var 6)) ∷ [])
      (var 0 :+ (var 1 :+ (var 2 :+ (var 3 :+ o)))) (var 7) tt
      (co (p a) (p b) (p c) q (p d)) (alt_bc (p a) (p b) (p d) q) (alt_bc (p b) (p c) (p d) q) (alt_bc (p c) (p a) (p d) q)

  module _ (up : pos 0 <ℤ vol) where
    own_pos : (x : Corner) → pos 0 <ℤ face_vol p (opposite x) (p (touch x))
    own_pos x = subst (λ (z : ℤ). pos 0 <ℤ z) (sym (value x x ∙ ap weight (same x))) up
      where
        same : (x : Corner) → is x x ≡ true
        same A = refl
        same B = refl
        same C = refl
        same D = refl

    any_nonneg : (x y : Corner) → pos 0 ≤ℤ face_vol p (opposite x) (p (touch y))
    any_nonneg x y = subst (λ (z : ℤ). pos 0 ≤ℤ z) (sym (value x y)) (go (is x y))
      where
        go : (t : Bool) → pos 0 ≤ℤ weight t
        go true = <→≤ up
        go false = ≤_refl (pos 0)

    -- the faces are those opposite D, C, A, B
    by_corner : (P : Face → Type 0) → ((x : Corner) → P (opposite x)) → (f : Face) → In f (start_faces four) → P f
    by_corner P h = all→ P (start_faces four) (h D, (h C, (h A, (h B, tt))))

    taken : (x : Corner) → In (touch x) four
    taken A = here refl
    taken B = there (here refl)
    taken C = there (there (here refl))
    taken D = there (there (there (here refl)))

    four_corners : (x : Corner) → CornersIn (λ t. In t four) (opposite x)
    four_corners A = record { three = refl; a = taken B; b = taken D; c = taken C }
    four_corners B = record { three = refl; a = taken C; b = taken D; c = taken A }
    four_corners C = record { three = refl; a = taken A; b = taken D; c = taken B }
    four_corners D = record { three = refl; a = taken A; b = taken B; c = taken C }

    -- the table's sides, of the touches
    abbrev placed : Side → Side
    placed s = side (touch (named s.from)) (touch (named s.to))

    four_back : (s : Side) → In s (sides (start_faces four)) → In (reversed s) (sides (start_faces four))
    four_back s m = let u = in_map placed (sides start_table) m in
        Memᴰ.cast (ap reversed u.2) (map_in placed (sides start_table) (has→ same_side same_sound same_self (reversed u.0) (sides start_table) (every→ (λ t. has same_side (reversed t) (sides start_table)) (sides start_table) tt u.0 u.1)))

    proper_apart : (s t : Side) → T (proper s t) → Apart p (placed s) (placed t)
    proper_apart s t v r = go (and_both (not (is s₁ s₀)) (not (is s₀ t₀) || not (is s₁ t₁)) v)
      where
        s₀ : Corner
        s₀ = named s.from

        s₁ : Corner
        s₁ = named s.to

        t₀ : Corner
        t₀ = named t.from

        t₁ : Corner
        t₁ = named t.to

        -- from two corners: the face opposite the first tells them apart; to two corners: the face opposite the first end would be 0 along the ray
        last : T (not (is s₁ s₀)) → T (not (is s₀ t₀)) ⊎ T (not (is s₁ t₁)) → ⊥
        last h (inl n) = <ℤ_irrefl (subst (λ (z : ℤ). pos 0 <ℤ z) (ap (λ (q : Point). face_vol p (opposite s₀) q) r.start ∙ none_at s₀ t₀ n) (own_pos s₀))
        last h (inr n) = no_line r.way.m r.way.n (face_vol p (opposite s₁) (p (touch s₁))) (face_vol p (opposite s₁) (p (touch s₀))) (face_vol p (opposite s₁) (p (touch t₁)))
            (face_aff p (opposite s₁) r.way) (none_at s₁ s₀ h) (none_at s₁ t₁ n) r.way.m_pos (own_pos s₁)

        go : T (not (is s₁ s₀)) × T (not (is s₀ t₀) || not (is s₁ t₁)) → ⊥
        go w = last w.0 (or_either (not (is s₀ t₀)) (not (is s₁ t₁)) w.1)

    four_rays : Pw (Apart p) (sides (start_faces four))
    four_rays = Pw-map (Apart p) placed (sides start_table) (pairs→ (λ s t. Apart p (placed s) (placed t)) proper proper_apart (sides start_table) tt)

    pub four_hull : Hull p four (start_faces four)
    four_hull = record {
      corners = by_corner (CornersIn (λ t. In t four)) four_corners;
      supporting = by_corner (λ f. (t : ℕ) → In t four → pos 0 ≤ℤ face_vol p f (p t))
          (λ x. all→ (λ t. pos 0 ≤ℤ face_vol p (opposite x) (p t)) four (any_nonneg x A, (any_nonneg x B, (any_nonneg x C, (any_nonneg x D, tt)))));
      body = by_corner (λ f. (t : ℕ) × In t four × (pos 0 <ℤ face_vol p f (p t))) (λ x. (touch x, taken x, own_pos x));
      back = four_back;
      rays = four_rays;
    }
