-- Placing that was not refused answers as the rules say of the table's faces, and against what building wrote it is never refused.
use mathlib.Core.Path.{◌≡◌, refl, sym, ap, ◌∙◌}
use mathlib.Core.Logic.{◌↔◌, ◌⊎◌, inl, inr}
use mathlib.Core.Bool.{Bool, true, false}
use mathlib.Core.List.{List, []}
use mathlib.Core.Option.{some}
use Prim.Native.Nat.{ℕ}
use native.Mathlib.Omega.{arith}
use lib.IntN.{ℤ}
use lib.ListN.{get_or}
use Rattle.std.specs.Prelude.{Result, Ok, Err}
use Rattle.laws.proofs.Members.{get_or_in}
use Rattle.touches.specs.declared.FaceNo.{FaceNo}
use Rattle.touches.specs.declared.Point.{Point}
use Rattle.touches.specs.declared.refusal.Refusal.{Refusal}
use Rattle.touches.specs.declared.refusal.Refusal.TheVariants.{NoSuchFace, PlaceInNoTriangle, PlaceOutOfRange}
use Rattle.touches.specs.Limits.{place_in_range}
use Rattle.touches.specs.Touches.{touch, touch_count, face_no}
use Rattle.touches.specs.Refusals.{place_in_no_triangle}
use Rattle.touches.specs.Check.{pick, checked, if_accepted}
use Rattle.rules.specs.Faces.{Face}
use Rattle.rules.specs.Placing.{Lies, outside, on, inside, astray, lies}
use Rattle.rules.specs.Demands.{OnOrInside, Astray, on_case, case_before, case_of}
use Rattle.rules.proofs.HoldsLaws.{holds_exact}
use Rattle.rules.proofs.PlaceLaws.{lies_worst, lies_outside, lies_on, lies_inside, lies_astray, lies_within, same_cases}
use Rattle.cover.specs.Triangles.{InsideOneOrOnBorder}
use Rattle.cover.proofs.Theorems.{never_astray, hull_inside_one}
use Rattle.table.specs.Table.{faces_in, usable}
use Rattle.hull.specs.Place.{placed_by, placed}
use Rattle.hull.specs.declared.place.Placed.{Placed}
use Rattle.hull.specs.declared.place.Placed.TheVariants.{On, Inside}
use Rattle.hull.proofs.Inversion.{Inverted}
use Rattle.hull.proofs.CallLaws.{by_inside, by_on, by_outside}
use Rattle.demands.specs.Demands.{first, never, at0, front, triangles, place, case_answered, IsPlaced}
use Rattle.demands.proofs.FirstLaws.{past}
use Rattle.demands.proofs.CallFirsts.{place_never, place_first}
use Rattle.demands.proofs.BuiltLaws.{triangles_are, place_is}

-- 01's case of an answer is that of the rules
by_case : (l : Lies) → (l ≡ astray → ⊥) → case_answered (placed_by l) ≡ some (case_of l)
by_case (outside i d) n = refl
by_case (on i) n = refl
by_case inside n = refl
by_case astray n = absurd (n refl)

module _ (cs : List ℤ) (t : List ℕ) (q : Point) where
  abbrev rules : Lies
  rules = lies (touch cs) (faces_in t) q

  abbrev answer : Result (List ℤ) Refusal → Bool → Bool → Result Placed Refusal
  answer k u b = if_accepted k (pick u (pick b (placed_by rules) (Err PlaceOutOfRange)) (Err NoSuchFace))

  answered_is : ((r : Refusal) → placed cs t q ≡ Err r → ⊥) → placed cs t q ≡ placed_by rules
  answered_is d = go (checked cs) (usable (touch_count cs) t) (place_in_range q) d
    where
      go : (k : Result (List ℤ) Refusal) (u b : Bool) → ((r : Refusal) → answer k u b ≡ Err r → ⊥) → answer k u b ≡ placed_by rules
      go (Err r) u b d = absurd (d r refl)
      go (Ok l) false b d = absurd (d NoSuchFace refl)
      go (Ok l) true false d = absurd (d PlaceOutOfRange refl)
      go (Ok l) true true d = refl

  pub placings : ((r : Refusal) → placed cs t q ≡ Err r → ⊥) → IsPlaced cs t q (placed cs t q)
  placings n = let e = answered_is n in let p = touch cs in let h = faces_in t in record {
    outside = (
      (λ u. (lies_outside p h q).0 (u.0.0, u.1, by_outside rules (sym e ∙ u.2))),
      (λ o. let u = (lies_outside p h q).1 o in (face_no u.0, u.1, e ∙ ap placed_by u.2)),
    );
    inside = ((λ u. (lies_inside p h q).0 (by_inside rules (sym e ∙ u))), (λ o. e ∙ ap placed_by ((lies_inside p h q).1 o)));
    on = λ f. ((λ u. (lies_on p h q f.0).0 (by_on rules (sym e ∙ u))), (λ o. e ∙ ap placed_by ((lies_on p h q f.0).1 o)));
    contained = λ f u. (holds_exact p (get_or h f.0 []) q).0 ((lies_on p h q f.0).0 (by_on rules (sym e ∙ u))).1.here;
    as_before = ap case_answered e ∙ by_case rules (λ a. n PlaceInNoTriangle (e ∙ ap placed_by a)) ∙ ap some (same_cases p h q);
    worst = λ f d. ((λ u. (lies_worst p h q f.0 d).0 (by_outside rules (sym e ∙ u))), (λ o. e ∙ ap placed_by ((lies_worst p h q f.0 d).1 o)));
  }

  -- what is refused 17 is astray
  pub astray_on : placed cs t q ≡ Err PlaceInNoTriangle → case_before (touch cs) (faces_in t) q ≡ on_case
  astray_on e =
      let o = (place_first cs t q PlaceInNoTriangle).0 e in
      let u = past (λ u. omega (arith, u.0)) (past (λ u. omega (arith, u.0)) (past (λ u. omega (arith, u.0)) (past (λ u. omega (arith, u.0)) (past (λ u. omega (arith, u.0)) o)))) in
      sym (same_cases (touch cs) (faces_in t) q) ∙ ap case_of ((lies_astray (touch cs) (faces_in t) q).1 (reason u))
    where
      reason : first place_in_no_triangle (at0 (Astray (touch cs) (faces_in t) q)) never PlaceInNoTriangle → Astray (touch cs) (faces_in t) q
      reason (inl u) = u.1.1
      reason (inr u) = absurd u.1

-- ---- against what building wrote
module _ {cs : List ℤ} {old : List ℕ} {n : ℕ} {v : ℤ} {h : List Face} (i : Inverted cs old n v h) (q : Point) (w : place_in_range q ≡ true) where
  not_astray : lies (touch cs) h q ≡ astray → ⊥
  not_astray = never_astray (touch cs) (touch_count cs) i.is q

  pub hull_answers : (r : Refusal) → place cs old q ≡ Err r → ⊥
  hull_answers r e = (place_never (lies (touch cs) h q) not_astray r).0 (sym (place_is i q w) ∙ e)

  pub hull_case : case_answered (place cs old q) ≡ some (case_of (lies (touch cs) h q))
  hull_case = ap case_answered (place_is i q w) ∙ by_case (lies (touch cs) h q) not_astray

  -- on or inside, by the answer and by the rules
  pub hull_within : ((place cs old q ≡ Ok Inside) ⊎ ((f : FaceNo) × (place cs old q ≡ Ok (On f)))) ↔ OnOrInside (touch cs) h q
  hull_within = (to, (λ d. from ((lies_within (touch cs) h q).1 d)))
    where
      to : (place cs old q ≡ Ok Inside) ⊎ ((f : FaceNo) × (place cs old q ≡ Ok (On f))) → OnOrInside (touch cs) h q
      to (inl e) = (lies_within (touch cs) h q).0 (inl (by_inside (lies (touch cs) h q) (sym (place_is i q w) ∙ e)))
      to (inr u) = (lies_within (touch cs) h q).0 (inr (inl (u.0.0, by_on (lies (touch cs) h q) (sym (place_is i q w) ∙ u.1))))

      from : (lies (touch cs) h q ≡ inside) ⊎ ((j : ℕ) × (lies (touch cs) h q ≡ on j)) ⊎ (lies (touch cs) h q ≡ astray) → (place cs old q ≡ Ok Inside) ⊎ ((f : FaceNo) × (place cs old q ≡ Ok (On f)))
      from (inl e) = inl (place_is i q w ∙ ap placed_by e)
      from (inr (inl u)) = inr (face_no u.0, place_is i q w ∙ ap placed_by u.1)
      from (inr (inr e)) = absurd (not_astray e)

-- ---- the triangle that on names
pub inside_one : {cs : List ℤ} {old : List ℕ} {n : ℕ} {v : ℤ} {h : List Face} → Inverted cs old n v h → (q : Point) (f : FaceNo) → place cs old q ≡ Ok (On f) → InsideOneOrOnBorder (touch cs) (triangles cs old) (get_or (triangles cs old) f.0 []) q
inside_one {cs} {old} {n} {v} {h} i q f e = hull_inside_one (touch cs) (touch_count cs) (i.is ∙ ap some (sym (triangles_are i))) (get_or_in (triangles cs old) f.0 [] ((a.on f).0 e).1.within) (a.contained f e)
  where
    not_refused : (r : Refusal) → place cs old q ≡ Err r → ⊥
    not_refused r k = cc

    a : IsPlaced cs (front cs old) q (place cs old q)
    a = placings cs (front cs old) q not_refused
