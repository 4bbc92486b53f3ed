-- The plumb line by its bounds, where it has both: which places are between them, which reading it is, and what that says.
use mathlib.Core.Path.{◌≡◌, refl, sym, ◌∙◌, ap₂, subst}
use mathlib.Core.Logic.Iff
use mathlib.Core.Logic.{◌↔◌, ◌⊎◌, inl, inr}
use mathlib.Core.Bool.{Bool, true, false, not, cond}
use mathlib.Core.List.{List}
use mathlib.Core.Option.{Option}
use lib.Dec.{T}
use lib.IntN.{ℤ}
use lib.Signed.{lt_z_yes, lt_z_no}
use Rattle.laws.proofs.Order.{<→≤, ≡→≤, not_lt, antisymm}
use Rattle.rules.specs.Faces.{Face, Places}
use Rattle.rules.specs.Demands.{OnOrInside}
use Rattle.rules.specs.Plumb.{Fraction, less, unbounded, bounds, Plumb, misses, touches, through, between, met, plumb}
use Rattle.rules.specs.Heights.{over, whole, AtMost, Below, Equal, Says, NoneRefuses, Spans}
use Rattle.rules.proofs.HeightLaws.{at_most_trans, whole_height}

-- what a reading tells of the bounds, A being that no upright face refuses
abbrev Told : Type 0 → Fraction → Fraction → Plumb → Type 0
Told A l u misses = (A → ⊥) ⊎ Below u l
Told A l u (touches t) = A × Equal l u × (touches t ≡ touches u)
Told A l u (through s t) = A × Below l u × (through s t ≡ through u l)

told : {A : Type 0} (a : Bool) → T a ↔ A → (l u : Fraction) → Told A l u (cond a (between u l) misses)
told false e l u = inl e.1
told {A} true e l u = go (less l u) (less u l) lt_z_yes lt_z_no lt_z_yes lt_z_no
  where
    go : (b c : Bool) → (T b → Below l u) → (T (not b) → AtMost u l) → (T c → Below u l) → (T (not c) → AtMost l u) → Told A l u (cond b (through u l) (cond c misses (touches u)))
    go true c f g i j = (e.0 tt, f tt, refl)
    go false true f g i j = inr (i tt)
    go false false f g i j = (e.0 tt, antisymm (j tt) (g tt), refl)

-- no two readings tell the same
module _ (A : Type 0) (l u : Fraction) where
  refused : Told A l u misses → A → AtMost l u → ⊥
  refused (inl f) a k = f a
  refused (inr b) a k = not_lt k b

  one_told : (r t : Plumb) → Told A l u r → Told A l u t → r ≡ t
  one_told misses misses c d = refl
  one_told misses (touches w) c d = absurd (refused c d.0 (≡→≤ d.1))
  one_told misses (through w z) c d = absurd (refused c d.0 (<→≤ d.1))
  one_told (touches v) misses c d = absurd (refused d c.0 (≡→≤ c.1))
  one_told (touches v) (touches w) c d = c.2 ∙ sym d.2
  one_told (touches v) (through w z) c d = absurd (not_lt (≡→≤ (sym c.1)) d.1)
  one_told (through v w) misses c d = absurd (refused d c.0 (<→≤ c.1))
  one_told (through v w) (touches z) c d = absurd (not_lt (≡→≤ (sym d.1)) c.1)
  one_told (through v w) (through y z) c d = c.2 ∙ sym d.2

module _ {p : Places} {h : List Face} {x y : ℤ} {l u : Fraction} (s : Spans p h x y l u) where
  abbrev Tells : Plumb → Type 0
  Tells r = Told (NoneRefuses p h x y) l u r

  tells : Tells (plumb p h x y)
  unfolding plumb
  tells = subst Tells (ap₂ (λ (a b : Option Fraction). cond (bounds p x y unbounded h).admits (met a b) misses) (sym s.upper.is) (sym s.lower.is)) (told (bounds p x y unbounded h).admits s.admits l u)

  -- the bounds are the heights of the reading
  pub three_readings : (plumb p h x y ≡ misses) ⊎ (plumb p h x y ≡ touches u) ⊎ (plumb p h x y ≡ through u l)
  three_readings = go (plumb p h x y) tells
    where
      go : (r : Plumb) → Tells r → (r ≡ misses) ⊎ (r ≡ touches u) ⊎ (r ≡ through u l)
      go misses t = inl refl
      go (touches v) t = inr (inl t.2)
      go (through v w) t = inr (inr t.2)

  -- a place over x and y is on or inside exactly if no upright face refuses and its height is from l to u
  pub places_between : (z : ℤ) → OnOrInside p h (over x y z) ↔ (NoneRefuses p h x y × AtMost l (whole z) × AtMost (whole z) u)
  places_between z = Iff.trans (Iff.symm (whole_height p h x y z)) (s.heights (whole z) (record { lt = tt }))

  -- the line goes through exactly if the bound above is the greater, touches exactly if they are equal, and else misses
  pub through_exact : (plumb p h x y ≡ through u l) ↔ (NoneRefuses p h x y × Below l u)
  through_exact = ((λ e. let t = subst Tells e tells in (t.0, t.1)), (λ c. one_told (NoneRefuses p h x y) l u (plumb p h x y) (through u l) tells (c.0, c.1, refl)))

  pub touches_exact : (plumb p h x y ≡ touches u) ↔ (NoneRefuses p h x y × Equal l u)
  touches_exact = ((λ e. let t = subst Tells e tells in (t.0, t.1)), (λ c. one_told (NoneRefuses p h x y) l u (plumb p h x y) (touches u) tells (c.0, c.1, refl)))

  pub misses_exact : (plumb p h x y ≡ misses) ↔ ((NoneRefuses p h x y → ⊥) ⊎ Below u l)
  misses_exact = ((λ e. subst Tells e tells), one_told (NoneRefuses p h x y) l u (plumb p h x y) misses tells)

  -- the reading says at which heights the line is on or inside
  pub spans_say : Says p h x y (plumb p h x y)
  spans_say = go (plumb p h x y) tells
    where
      go : (r : Plumb) → Tells r → Says p h x y r
      go misses (inl t) = λ z hz d. t ((s.heights z hz).0 d).0
      go misses (inr b) = λ z hz d. let c = (s.heights z hz).0 d in not_lt (at_most_trans l z u s.lower.proper hz s.upper.proper c.1 c.2) b
      go (touches v) t = subst (Says p h x y) (sym t.2) (record {
        lower = s.upper.proper;
        upper = s.upper.proper;
        heights = λ z hz. (
          (λ d. let c = (s.heights z hz).0 d in (at_most_trans u l z s.upper.proper s.lower.proper hz (≡→≤ (sym t.1)) c.1, c.2)),
          (λ c. (s.heights z hz).1 (t.0, at_most_trans l u z s.lower.proper s.upper.proper hz (≡→≤ t.1) c.0, c.1)),
        );
      })
      go (through v w) t = subst (Says p h x y) (sym t.2) (
        t.1,
        record {
          lower = s.lower.proper;
          upper = s.upper.proper;
          heights = λ z hz. ((λ d. let c = (s.heights z hz).0 d in (c.1, c.2)), (λ c. (s.heights z hz).1 (t.0, c.0, c.1)));
        },
      )
