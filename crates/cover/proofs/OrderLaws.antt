-- 02 A12: a hull is the least there is, so two hulls over one set of positions have the same places inside, on and outside.
use mathlib.Core.Path.{◌≡◌, refl, sym, ◌∙◌}
use mathlib.Core.Logic.{◌↔◌, inl, inr}
use mathlib.Core.List.{List}
use mathlib.Core.Option.{some}
use Prim.Native.Nat.{ℕ}
use native.Mathlib.Omega.{arith}
use lib.IntN.{ℤ, pos}
use lib.Signed.{◌≤ℤ◌, ◌<ℤ◌}
use Rattle.laws.specs.Lists.{In, upward}
use Rattle.laws.proofs.Order.{<→≤, not_lt, add_nonneg, nonneg_add, mul_nonneg, mul_pos_pos, cancel_nonneg, cancel_pos}
use Rattle.laws.proofs.Firsts.{upward_in}
use Rattle.touches.specs.declared.Point.{Point}
use Rattle.volume.specs.Volume.{Vol}
use Rattle.rules.specs.Faces.{Face, Places, corner, face_vol}
use Rattle.rules.specs.Building.{hull}
use Rattle.rules.specs.Placing.{Lies, outside, on, inside, astray, lies}
use Rattle.rules.specs.Demands.{Flat, Inside, OnOrInside, on_case, case_of}
use Rattle.rules.proofs.Hull.{Hull, off_line}
use Rattle.rules.proofs.SurfaceLaws.{whole_hull, number_below}
use Rattle.rules.proofs.PlaceLaws.{lies_outside, lies_inside, lies_within, case_inside, case_on, case_outside}
use Rattle.cover.specs.Cones.{det, from, Centre, Covers}
use Rattle.cover.specs.Sets.{Among, SamePlaces}
use Rattle.cover.proofs.DetLaws.{cube_pos}
use Rattle.cover.proofs.Blends.{Blend, blend}
use Rattle.cover.proofs.MixedLaws.{corners_behind}
use Rattle.cover.proofs.CoverLaws.{hull_covered}

-- ---- one way: h is a hull over the touches done, g one over the touches more, and each position of done is one of more
module _ {p r : Places} {done more : List ℕ} {h g : List Face} (H : Hull p done h) (c : Centre p done) (covers : Covers c h) (G : Hull r more g)
    (among : (t : ℕ) → In t done → (u : ℕ) × In u more × (p t ≡ r u)) (q : Point) where
  -- a face of g has no touch of h in front, nor the centre; V of q for its plane is that of a blend
  module _ (f : Face) (i : In f g) where
    abbrev at : ℕ → Point
    at n = r (corner f n)

    behind : (t : ℕ) → In t done → pos 0 ≤ℤ Vol (at 0) (at 1) (at 2) (p t)
    unfolding face_vol
    behind t j = let u = among t j in rw u.2 (G.supporting f i u.0 u.1)

    front : pos 0 <ℤ det (from c.w c.s (at 0)) (from c.w c.s (at 1)) (from c.w c.s (at 2))
    front = c.amid (at 0) (at 1) (at 2) (off_line G f i) behind

    abbrev m : Blend p h c.w c.s q
    m = blend c covers q

    on_behind : OnOrInside p h q → pos 0 ≤ℤ Vol (at 0) (at 1) (at 2) q
    on_behind o = cancel_nonneg (cube_pos c.positive) (cancel_nonneg m.whole_pos (rw (m.volume (at 0) (at 1) (at 2))
        (add_nonneg (corners_behind H c m (at 0) (at 1) (at 2) behind) (mul_nonneg (mul_nonneg (<→≤ (cube_pos c.positive)) (o m.face m.face_in)) (<→≤ front)))))

    inside_behind : Inside p h q → pos 0 <ℤ Vol (at 0) (at 1) (at 2) q
    inside_behind o = cancel_pos (cube_pos c.positive) (cancel_pos m.whole_pos (rw (m.volume (at 0) (at 1) (at 2))
        (nonneg_add (corners_behind H c m (at 0) (at 1) (at 2) behind) (mul_pos_pos (mul_pos_pos (cube_pos c.positive) (o m.face m.face_in)) front))))

  on_goes : OnOrInside p h q → OnOrInside r g q
  unfolding face_vol
  on_goes o f i = on_behind f i o

  inside_goes : Inside p h q → Inside r g q
  unfolding face_vol
  inside_goes o f i = inside_behind f i o

-- ---- of the hulls of n touches at p and of m at r
module _ (p r : Places) (n m : ℕ) {h g : List Face} (e : hull p n ≡ some h) (f : hull r m ≡ some g) (among : Among p n r m) (q : Point) where
  one_of : (t : ℕ) → In t (upward 0 n) → (u : ℕ) × In u (upward 0 m) × (p t ≡ r u)
  one_of t i = let u = among t (number_below p n e t i) in (u.0, upward_in 0 m u.0 (omega arith) (omega (arith, u.1)), u.2)

  stays_within : OnOrInside p h q → OnOrInside r g q
  stays_within = let c = hull_covered p n e in on_goes (whole_hull p n e) c.0 c.1 (whole_hull r m f) one_of q

  stays_inside : Inside p h q → Inside r g q
  stays_inside = let c = hull_covered p n e in inside_goes (whole_hull p n e) c.0 c.1 (whole_hull r m f) one_of q

-- ---- over one set of positions every place is inside, on or outside alike
pub order_alike : (p r : Places) (n m : ℕ) {h g : List Face} → hull p n ≡ some h → hull r m ≡ some g → SamePlaces p n r m → (q : Point) → case_of (lies p h q) ≡ case_of (lies r g q)
order_alike p r n m {h} {g} e f same q = go (lies p h q) refl
  where
    on_both : OnOrInside p h q → (Inside p h q → ⊥) → on_case ≡ case_of (lies r g q)
    on_both d k = sym (case_on r g q (stays_within p r n m e f same.to q d) (λ o. k (stays_inside r p m n f e same.back q o)))

    no_inside : {l : Lies} → lies p h q ≡ l → (inside ≡ l → ⊥) → Inside p h q → ⊥
    no_inside k d o = d (sym ((lies_inside p h q).1 o) ∙ k)

    go : (l : Lies) → lies p h q ≡ l → case_of l ≡ case_of (lies r g q)
    go (outside i d) k = sym (case_outside r g q (λ o. not_within (i, d, k) (stays_within r p m n f e same.back q o)))
      where
        not_within : (i : ℕ) × (d : ℤ) × (lies p h q ≡ outside i d) → OnOrInside p h q → ⊥
        not_within u o = let w = (lies_outside p h q).0 u in not_lt (o w.0 w.1) w.2
    go (on i) k = on_both ((lies_within p h q).0 (inr (inl (i, k)))) (no_inside k (λ z. let y : ◌≡◌ {A = ℕ} 0 1 = cc in omega arith))
    go inside k = sym (case_inside r g q (stays_inside p r n m e f same.to q ((lies_inside p h q).0 k)))
    go astray k = on_both ((lies_within p h q).0 (inr (inr k))) (no_inside k (λ z. let y : ◌≡◌ {A = ℕ} 0 1 = cc in omega arith))

-- one of the lists is flat exactly if the other is
flat_goes : (p r : Places) (n m : ℕ) → Among r m p n → Flat p n → Flat r m
flat_goes p r n m among flat a b c d ha hb hc hd = let i = among a ha in let j = among b hb in let k = among c hc in let l = among d hd in
    (λ x. Vol (i.2 x) (j.2 x) (k.2 x) (l.2 x)) ∙ flat i.0 j.0 k.0 l.0 i.1 j.1 k.1 l.1

pub order_flat : (p r : Places) (n m : ℕ) → SamePlaces p n r m → Flat p n ↔ Flat r m
order_flat p r n m same = (flat_goes p r n m same.back, flat_goes r p m n same.to)
