-- Where a place lies: each answer says what Inside, OnOrInside, Outside, Worst, FirstHolding and Astray say.
use mathlib.Core.Path.{◌≡◌, refl, sym, ap, ap₂, subst, ◌∙◌}
use mathlib.Core.Logic.{◌↔◌, ◌⊎◌, inl, inr}
use mathlib.Core.Bool.{Bool, true, false, not, cond}
use mathlib.Core.List.{List, []}
use mathlib.Core.Option.{Option, none, some}
use Prim.Native.Nat.{ℕ}
use native.Mathlib.Omega.{arith}
use lib.Dec.{T, T_not}
use lib.IntN.{ℤ, pos, neg_ℤ, neg_ℤ-neg_ℤ}
use lib.Signed.{◌≤ℤ◌, ◌<ℤ◌, lt_z, lt_z_yes, lt_z_no, <ℤ_irrefl}
use lib.ListN.{get_or, length}
use Rattle.laws.specs.Lists.{Least, first_from}
use Rattle.laws.proofs.Tests.{and_both}
use Rattle.laws.proofs.Order.{≤_trans, <→≤, not_lt, neg_pos, neg_neg, lt_true, lt_false, false_lt, eq_z→eq, Sign, minus, null, plus, sign}
use Rattle.laws.proofs.Members.{get_or_in, in_get_or}
use Rattle.laws.proofs.Firsts.{from_none, from_some, first_at, first_one}
use Rattle.laws.proofs.Leasts.{least_some, least_none, least_one}
use Rattle.touches.specs.declared.Point.{Point}
use Rattle.volume.specs.Volume.{is_zero}
use Rattle.volume.specs.Triangle.{contains}
use Rattle.rules.specs.Faces.{Face, Places, corner, face_vol}
use Rattle.rules.specs.Placing.{Lies, outside, on, inside, astray, worst, holds, first_holding, first_plane, not_outside, by_worst, lies}
use Rattle.rules.specs.Demands.{Inside, OnOrInside, OnPlane, Outside, Worst, FirstHolding, Astray, outside_case, on_case, inside_case, by_firsts, case_before, case_of}

-- a face that holds a place holds it on its plane
pub holds_plane : (p : Places) (f : Face) (q : Point) → T (holds p f q) → face_vol p f q ≡ pos 0
unfolding holds
holds_plane p f q t = eq_z→eq (face_vol p f q) (pos 0) (and_both (is_zero (face_vol p f q)) (contains (p (corner f 0)) (p (corner f 1)) (p (corner f 2)) q) t).0

module _ (p : Places) (h : List Face) (q : Point) where
  abbrev vol : Face → ℤ
  vol f = face_vol p f q

  abbrev flat : Face → Bool
  flat f = is_zero (face_vol p f q)

  abbrev held : Face → Bool
  held f = holds p f q

  not_both : Outside p h q → OnOrInside p h q → ⊥
  not_both u d = not_lt (d u.0 u.1) u.2

  not_inside : OnPlane p h q → Inside p h q → ⊥
  not_inside t d = <ℤ_irrefl (subst (λ (z : ℤ). pos 0 <ℤ z) t.2 (d t.0 t.1))

  -- the worst face is in front, or none is
  in_front : {i : ℕ} {d : ℤ} → Worst p h q i (neg_ℤ d) → pos 0 <ℤ d → Outside p h q
  in_front {i} {d} w l = (get_or h i [], get_or_in h i [] w.within, rw w.is (neg_neg l))

  behind : {i : ℕ} {v : ℤ} → Worst p h q i v → pos 0 ≤ℤ v → OnOrInside p h q
  behind w l f m = let u = in_get_or h [] m in rw (sym u.2) (≤_trans l (w.least u.0 u.1))

  behind_none : length h ≡ 0 → OnOrInside p h q
  behind_none e f m = let u = in_get_or h [] m in absurd (omega (arith, u.1))

  -- a face that holds q is on its plane
  on_plane : {i : ℕ} → FirstHolding p h q i → OnPlane p h q
  on_plane {i} u = (get_or h i [], get_or_in h i [] u.within, holds_plane p (get_or h i []) q u.here)

  plane_some : {i : ℕ} → first_from flat 0 h ≡ some i → OnPlane p h q
  plane_some e = let u = from_some flat 0 h e in (u.0, u.1, eq_z→eq (vol u.0) (pos 0) u.2)

  plane_none : first_from flat 0 h ≡ none → OnPlane p h q → ⊥
  plane_none e t = T_not (flat t.0) (from_none flat 0 h e t.0 t.1) (subst (λ (z : ℤ). T (is_zero z)) (sym t.2) tt)

  abbrev Says : Lies → Type 0
  Says (outside i d) = Worst p h q i (neg_ℤ d) × (pos 0 <ℤ d)
  Says (on i) = OnOrInside p h q × FirstHolding p h q i
  Says inside = Inside p h q
  Says astray = Astray p h q

  -- in front of no face: by the first that holds q, and the first whose plane does
  says_behind : OnOrInside p h q → (x y : Option ℕ) → first_from held 0 h ≡ x → first_from flat 0 h ≡ y → Says (not_outside x y)
  says_behind d (some i) y a b = (d, first_at held [] h a)
  says_behind d none (some j) a b = (d, plane_some b, from_none held 0 h a)
  says_behind d none none a b = λ g m. strictly (vol g) (d g m) (from_none flat 0 h b g m) (sign (vol g))
    where
      strictly : (z : ℤ) → pos 0 ≤ℤ z → T (not (is_zero z)) → Sign z → pos 0 <ℤ z
      strictly z l t (minus n) = absurd (not_lt l n)
      strictly z l t (null e) = absurd (T_not (is_zero z) t (subst (λ (y : ℤ). T (is_zero y)) (sym e) tt))
      strictly z l t (plus n) = n

  abbrev rest : Lies
  rest = not_outside (first_holding p h q) (first_plane p h q)

  says : Says (lies p h q)
  unfolding lies worst first_holding first_plane
  says = go (worst p h q) refl
    where
      go : (x : Option Least) → worst p h q ≡ x → Says (by_worst x rest)
      go none e = says_behind (behind_none (least_none vol [] h e)) (first_holding p h q) (first_plane p h q) refl refl
      go (some w) e = by (lt_z w.value (pos 0)) refl
        where
          by : (b : Bool) → lt_z w.value (pos 0) ≡ b → Says (cond b (outside w.place (neg_ℤ w.value)) rest)
          by true t = (rw (neg_ℤ-neg_ℤ w.value) (least_some vol [] h e), neg_pos {a = w.value} (lt_true t))
          by false t = says_behind (behind (least_some vol [] h e) (lt_false t)) (first_holding p h q) (first_plane p h q) refl refl

  -- outside with the worst face and minus its V
  pub lies_worst : (i : ℕ) (d : ℤ) → (lies p h q ≡ outside i d) ↔ (Worst p h q i (neg_ℤ d) × (pos 0 <ℤ d))
  lies_worst i d = ((λ e. subst Says e says), from (lies p h q) says)
    where
      from : (l : Lies) → Says l → Worst p h q i (neg_ℤ d) × (pos 0 <ℤ d) → l ≡ outside i d
      from (outside j c) u w = let s = least_one vol [] h u.0 w.0 in ap₂ outside s.0 (sym (neg_ℤ-neg_ℤ c) ∙ ap neg_ℤ s.1 ∙ neg_ℤ-neg_ℤ d)
      from (on j) u w = absurd (not_both (in_front w.0 w.1) u.0)
      from inside u w = absurd (not_both (in_front w.0 w.1) (λ f m. <→≤ (u f m)))
      from astray u w = absurd (not_both (in_front w.0 w.1) u.0)

  pub lies_outside : ((i : ℕ) × (d : ℤ) × (lies p h q ≡ outside i d)) ↔ Outside p h q
  lies_outside = ((λ u. let w = subst Says u.2 says in in_front w.0 w.1), from (lies p h q) says)
    where
      from : (l : Lies) → Says l → Outside p h q → (i : ℕ) × (d : ℤ) × (l ≡ outside i d)
      from (outside i d) u o = (i, d, refl)
      from (on i) u o = absurd (not_both o u.0)
      from inside u o = absurd (not_both o (λ f m. <→≤ (u f m)))
      from astray u o = absurd (not_both o u.0)

  -- on with the first face that holds q
  pub lies_on : (i : ℕ) → (lies p h q ≡ on i) ↔ (OnOrInside p h q × FirstHolding p h q i)
  lies_on i = ((λ e. subst Says e says), from (lies p h q) says)
    where
      from : (l : Lies) → Says l → OnOrInside p h q × FirstHolding p h q i → l ≡ on i
      from (outside j d) u o = absurd (not_both (in_front u.0 u.1) o.0)
      from (on j) u o = ap on (first_one held [] h u.1 o.1)
      from inside u o = absurd (not_inside (on_plane o.1) u)
      from astray u o = absurd (T_not (held (get_or h i [])) (u.2 (get_or h i []) (get_or_in h i [] o.1.within)) o.1.here)

  pub lies_inside : (lies p h q ≡ inside) ↔ Inside p h q
  lies_inside = ((λ e. subst Says e says), from (lies p h q) says)
    where
      from : (l : Lies) → Says l → Inside p h q → l ≡ inside
      from (outside i c) u d = absurd (not_both (in_front u.0 u.1) (λ f m. <→≤ (d f m)))
      from (on i) u d = absurd (not_inside (on_plane u.1) d)
      from inside u d = refl
      from astray u d = absurd (not_inside u.1 d)

  pub lies_astray : (lies p h q ≡ astray) ↔ Astray p h q
  lies_astray = ((λ e. subst Says e says), from (lies p h q) says)
    where
      from : (l : Lies) → Says l → Astray p h q → l ≡ astray
      from (outside i c) u d = absurd (not_both (in_front u.0 u.1) d.0)
      from (on i) u d = absurd (T_not (held (get_or h i [])) (d.2 (get_or h i []) (get_or_in h i [] u.1.within)) u.1.here)
      from inside u d = absurd (not_inside d.1 u)
      from astray u d = refl

  pub lies_within : ((lies p h q ≡ inside) ⊎ ((i : ℕ) × (lies p h q ≡ on i)) ⊎ (lies p h q ≡ astray)) ↔ OnOrInside p h q
  lies_within = (to, from (lies p h q) says)
    where
      to : (lies p h q ≡ inside) ⊎ ((i : ℕ) × (lies p h q ≡ on i)) ⊎ (lies p h q ≡ astray) → OnOrInside p h q
      to (inl e) = λ f m. <→≤ (subst Says e says f m)
      to (inr (inl u)) = (subst Says u.1 says).0
      to (inr (inr e)) = (subst Says e says).0

      from : (l : Lies) → Says l → OnOrInside p h q → (l ≡ inside) ⊎ ((i : ℕ) × (l ≡ on i)) ⊎ (l ≡ astray)
      from (outside i c) u d = absurd (not_both (in_front u.0 u.1) d)
      from (on i) u d = inr (inl (i, refl))
      from inside u d = inl refl
      from astray u d = inr (inr refl)

  -- the case by what holds of all faces
  pub case_inside : Inside p h q → case_of (lies p h q) ≡ inside_case
  case_inside d = ap case_of (lies_inside.1 d)

  pub case_on : OnOrInside p h q → (Inside p h q → ⊥) → case_of (lies p h q) ≡ on_case
  case_on d n = go (lies_within.1 d)
    where
      go : (lies p h q ≡ inside) ⊎ ((i : ℕ) × (lies p h q ≡ on i)) ⊎ (lies p h q ≡ astray) → case_of (lies p h q) ≡ on_case
      go (inl e) = absurd (n (lies_inside.0 e))
      go (inr (inl u)) = ap case_of u.1
      go (inr (inr e)) = ap case_of e

  pub case_outside : (OnOrInside p h q → ⊥) → case_of (lies p h q) ≡ outside_case
  case_outside n = go (lies p h q) refl
    where
      go : (l : Lies) → lies p h q ≡ l → case_of l ≡ outside_case
      go (outside i d) e = refl
      go (on i) e = absurd (n (lies_within.0 (inr (inl (i, e)))))
      go inside e = absurd (n (lies_within.0 (inl e)))
      go astray e = absurd (n (lies_within.0 (inr (inr e))))

  -- in front of no face: only the first that holds q and the first whose plane does decide
  pub lies_behind : OnOrInside p h q → lies p h q ≡ rest
  unfolding lies worst
  lies_behind d = go (worst p h q) refl
    where
      go : (x : Option Least) → worst p h q ≡ x → by_worst x rest ≡ rest
      go none e = refl
      go (some w) e =
          let l = least_some vol [] h e in
          let v : pos 0 ≤ℤ w.value = rw l.is at (d (get_or h w.place []) (get_or_in h w.place [] l.within)) in
          ap (λ (b : Bool). cond b (outside w.place (neg_ℤ w.value)) rest) (false_lt v)

  -- the places are those of 01's three cases, astray being on
  pub same_cases : case_of (lies p h q) ≡ case_before p h q
  unfolding first_plane first_holding
  same_cases = go (first_from (λ f. lt_z (vol f) (pos 0)) 0 h) refl
    where
      none_front : first_from (λ f. lt_z (vol f) (pos 0)) 0 h ≡ none → OnOrInside p h q
      none_front e f m = lt_z_no (from_none (λ f. lt_z (vol f) (pos 0)) 0 h e f m)

      by : (x y : Option ℕ) → first_from held 0 h ≡ x → first_from flat 0 h ≡ y → case_of (not_outside x y) ≡ by_firsts none y
      by (some i) (some j) a b = refl
      by (some i) none a b = absurd (plane_none b (on_plane (first_at held [] h a)))
      by none (some j) a b = refl
      by none none a b = refl

      go : (x : Option ℕ) → first_from (λ f. lt_z (vol f) (pos 0)) 0 h ≡ x → case_of (lies p h q) ≡ by_firsts x (first_from flat 0 h)
      go (some i) e = let u = from_some (λ f. lt_z (vol f) (pos 0)) 0 h e in ap case_of (lies_outside.1 (u.0, u.1, lt_z_yes u.2)).2
      go none e = ap case_of (lies_behind (none_front e)) ∙ by (first_holding p h q) (first_plane p h q) refl refl
