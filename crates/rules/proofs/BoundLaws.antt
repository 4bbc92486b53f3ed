-- The faces one after another: the bounds of a plumb line are the tightest, and admit what every face admits.
use mathlib.Core.Path.{◌≡◌, refl, sym, subst}
use mathlib.Core.Logic.Iff
use mathlib.Core.Logic.{◌↔◌, ◌⊎◌, inl, inr}
use mathlib.Core.List.Memᴰ
use mathlib.Core.List.{List, [], ◌∷◌}
use mathlib.Core.Option.{Option, none, some}
use lib.Dec.{T}
use lib.IntN.{ℤ, pos}
use lib.Signed.{◌≤ℤ◌}
use Rattle.laws.specs.Lists.{In}
use Rattle.laws.proofs.Members.{here, there}
use Rattle.rules.specs.Faces.{Face, Places}
use Rattle.rules.specs.Plumb.{facing, rest, Fraction, Bounds, unbounded, bounded, bounds}
use Rattle.rules.specs.Heights.{Proper, Way, up, down, Looks, bound, Admits, meets, vol_at, OnOrInsideAt, Tightest, NoneRefuses}
use Rattle.rules.proofs.HeightLaws.{behind_at}
use Rattle.rules.proofs.TurnLaws.{Has, Known, admits_self, height_proper, bounded_has, bounded_known, bounded_admits, bounded_upright, face_admits}

-- what is so after a face exactly if it was before and P holds of the face, is so after all of them exactly if P holds of each
in_turn : {P : Face → Type 0} (f : Face) (h : List Face) {last next first : Type 0} → last ↔ (next × ((g : Face) → In g h → P g)) → next ↔ (first × P f) → last ↔ (first × ((g : Face) → In g (f ∷ h) → P g))
in_turn {P} f h later now = (
  (λ a. let u = later.0 a in let w = now.0 u.0 in (w.0, (λ g m. either g w.1 (u.1 g) (Memᴰ.cases_cons m)))),
  (λ a. later.1 (now.1 (a.0, a.1 f (here refl)), (λ g m. a.1 g (there m)))),
)
  where
    either : (g : Face) → P f → (In g h → P g) → (g ≡ f) ⊎ In g h → P g
    either g k r (inl e) = subst P (sym e) k
    either g k r (inr m) = r m

module _ (p : Places) (x y : ℤ) where
  abbrev next : Face → Bounds → Bounds
  next f b = bounded (facing p f) (rest p x y f) b

  bounds_upright : (h : List Face) (b : Bounds) → T (bounds p x y b h).admits ↔ (T b.admits × NoneRefuses p h x y)
  unfolding bounds
  bounds_upright [] b = ((λ a. (a, (λ f m. absurd (Memᴰ.not-nil m)))), (λ a. a.0))
  bounds_upright (f ∷ h) b = in_turn f h (bounds_upright h (next f b)) (bounded_upright (facing p f) (rest p x y f) b)

  module _ (w : Way) where
    bounds_has : (P : Fraction → Type 0) (h : List Face) (b : Bounds) → ((f : Face) → In f h → Looks w (facing p f) → P (meets p x y f)) → Has P (bound w b) → Has P (bound w (bounds p x y b h))
    unfolding bounds
    bounds_has P [] b k d = d
    bounds_has P (f ∷ h) b k d = bounds_has P h (next f b) (λ g m. k g (there m)) (bounded_has w (facing p f) (rest p x y f) b P (k f (here refl)) d)

    bounds_admit : (z : Fraction) → Proper z → (h : List Face) (b : Bounds) → Has Proper (bound w b) → Has (Admits w z) (bound w (bounds p x y b h)) ↔ (Has (Admits w z) (bound w b) × ((f : Face) → In f h → Looks w (facing p f) → Admits w z (meets p x y f)))
    unfolding bounds
    bounds_admit z hz [] b d = ((λ a. (a, (λ f m. absurd (Memᴰ.not-nil m)))), (λ a. a.0))
    bounds_admit z hz (f ∷ h) b d = in_turn f h (bounds_admit z hz h (next f b) (bounded_has w (facing p f) (rest p x y f) b Proper (height_proper w (facing p f) (rest p x y f)) d)) (bounded_admits w (facing p f) (rest p x y f) b z hz d)

    bounds_stay : (h : List Face) (b : Bounds) → Known (bound w b) → Known (bound w (bounds p x y b h))
    unfolding bounds
    bounds_stay [] b k = k
    bounds_stay (f ∷ h) b k = bounds_stay h (next f b) (bounded_known w (facing p f) (rest p x y f) b (inl k))

    -- a face that looks this way gives a bound
    bounds_known : (h : List Face) (b : Bounds) {f : Face} → In f h → Looks w (facing p f) → Known (bound w (bounds p x y b h))
    unfolding bounds
    bounds_known [] b m l = absurd (Memᴰ.not-nil m)
    bounds_known (g ∷ h) b {f} m l = go (λ n. bounds_known h (next g b) n l) (Memᴰ.cases_cons m)
      where
        go : (In f h → Known (bound w (bounds p x y (next g b) h))) → (f ≡ g) ⊎ In f h → Known (bound w (bounds p x y (next g b) h))
        go r (inl e) = bounds_stay h (next g b) (bounded_known w (facing p g) (rest p x y g) b (inr (subst (λ (i : Face). Looks w (facing p i)) e l)))
        go r (inr n) = r n

  -- ---- from no bounds on
  module _ (h : List Face) where
    pub none_refuses : T (bounds p x y unbounded h).admits ↔ NoneRefuses p h x y
    none_refuses = let t = bounds_upright h unbounded in ((λ a. (t.0 a).1), (λ d. t.1 (tt, d)))

    module _ (w : Way) where
      no_bound : (P : Fraction → Type 0) → Has P (bound w unbounded)
      no_bound P = go w
        where
          go : (w : Way) → Has P (bound w unbounded)
          go up = tt
          go down = tt

      pub all_have : (P : Fraction → Type 0) → ((f : Face) → In f h → Looks w (facing p f) → P (meets p x y f)) → {s : Fraction} → bound w (bounds p x y unbounded h) ≡ some s → P s
      all_have P k e = subst (Has P) e (bounds_has w P h unbounded k (no_bound P))

      -- the bound admits what each face that looks this way admits
      pub bound_admits : {s : Fraction} → bound w (bounds p x y unbounded h) ≡ some s → (z : Fraction) → Proper z → Admits w z s ↔ ((f : Face) → In f h → Looks w (facing p f) → Admits w z (meets p x y f))
      bound_admits e z hz = let t = bounds_admit w z hz h unbounded (no_bound Proper) in (
        (λ a. (t.0 (subst (Has (Admits w z)) (sym e) a)).1),
        (λ c. subst (Has (Admits w z)) e (t.1 (no_bound (Admits w z), c))),
      )

      pub tightest : {f : Face} → In f h → Looks w (facing p f) → (s : Fraction) × Tightest p h x y w s
      tightest m l = go (bound w (bounds p x y unbounded h)) refl (bounds_known w h unbounded m l)
        where
          at : (s : Fraction) → bound w (bounds p x y unbounded h) ≡ some s → Tightest p h x y w s
          at s e = let d = all_have Proper (λ f i. height_proper w (facing p f) (rest p x y f)) e in record {
            is = e;
            proper = d;
            from = all_have (λ t. (f : Face) × In f h × Looks w (facing p f) × (t ≡ meets p x y f)) (λ f i k. (f, i, k, refl)) e;
            best = (bound_admits e s d).0 (admits_self w s);
          }

          go : (a : Option Fraction) → bound w (bounds p x y unbounded h) ≡ a → Known a → (s : Fraction) × Tightest p h x y w s
          go none e k = absurd k
          go (some s) e k = (s, at s e)

    -- at a height the line is on or inside exactly if every face admits it
    pub each_admits : (z : Fraction) → Proper z → OnOrInsideAt p h x y z ↔ (NoneRefuses p h x y × ((w : Way) (f : Face) → In f h → Looks w (facing p f) → Admits w z (meets p x y f)))
    each_admits z hz = (
      (λ d. ((λ f m. ((admits f).0 (d f m)).0), (λ w f m. ((admits f).0 (d f m)).1 w))),
      (λ c f m. (admits f).1 (c.0 f m, (λ w. c.1 w f m))),
    )
      where
        admits : (f : Face) → (pos 0 ≤ℤ vol_at p f x y z) ↔ ((facing p f ≡ pos 0 → pos 0 ≤ℤ rest p x y f) × ((w : Way) → Looks w (facing p f) → Admits w z (meets p x y f)))
        admits f = Iff.trans (behind_at p f x y z) (face_admits (facing p f) (rest p x y f) z hz)
