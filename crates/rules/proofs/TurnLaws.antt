-- One face and the bounds of a plumb line, above and below by one law: it moves the bound of the way in which it looks to the tighter, and no other.
use mathlib.Core.Path.{◌≡◌, refl, sym, subst}
use mathlib.Core.Logic.{◌↔◌, ◌⊎◌, inl, inr}
use mathlib.Core.Bool.{Bool, true, false, not, cond}
use mathlib.Core.List.{[], ◌∷◌}
use mathlib.Core.Option.{Option, none, some}
use Prim.Native.Nat.{zero, suc}
use lib.Dec.{T}
use lib.IntN.{ℤ, pos, negsuc, neg_ℤ, ◌*ℤ◌}
use lib.Signed.{◌≤ℤ◌, ◌<ℤ◌, le_z, le_z_yes, lt_z_yes, lt_z_no}
use Rattle.laws.proofs.Tests.{and_both, both_and}
use Rattle.laws.proofs.Order.{≤_refl, <→≤, suc_pos, pos_ne, neg_ne, nat_not_neg, mul_nonneg, cancel_nonneg}
use Rattle.laws.proofs.Ring.{o, var, ◌:*◌, neg}
use Rattle.laws.proofs.Certificates.{order, le}
use Rattle.rules.specs.Plumb.{Fraction, less, more, height, Bounds, tighter, bounded}
use Rattle.rules.specs.Heights.{Proper, AtMost, Way, up, down, Looks, bound, Admits}
use Rattle.rules.proofs.HeightLaws.{at_most_trans}

-- ---- which of two bounds is the tighter
abbrev beats : Way → Fraction → Fraction → Bool
beats up = less
beats down = more

pub admits_self : (w : Way) (s : Fraction) → Admits w s s
admits_self up s = ≤_refl (s.top *ℤ s.bottom)
admits_self down s = ≤_refl (s.top *ℤ s.bottom)

admits_trans : (w : Way) (s t u : Fraction) → Proper s → Proper t → Proper u → Admits w s t → Admits w t u → Admits w s u
admits_trans up s t u hs ht hu k l = at_most_trans s t u hs ht hu k l
admits_trans down s t u hs ht hu k l = at_most_trans u t s hu ht hs l k

-- what beats a bound is admitted by it, and admits it if it does not
beaten : (w : Way) (s t : Fraction) → T (beats w t s) → Admits w t s
beaten up s t h = <→≤ (lt_z_yes h)
beaten down s t h = <→≤ (lt_z_yes h)

unbeaten : (w : Way) (s t : Fraction) → T (not (beats w t s)) → Admits w s t
unbeaten up s t h = lt_z_no h
unbeaten down s t h = lt_z_no h

-- ---- the tighter of two bounds
-- the bound, where there is one, has P
abbrev pub Has : (Fraction → Type 0) → Option Fraction → Type 0
Has P none = Unit {0}
Has P (some s) = P s

abbrev pub Known : Option Fraction → Type 0
Known none = ⊥
Known (some s) = Unit {0}

tighter_known : (better : Fraction → Fraction → Bool) (a : Option Fraction) (t : Fraction) → Known (tighter better a t)
tighter_known better none t = tt
tighter_known better (some s) t = tt

tighter_has : (P : Fraction → Type 0) (better : Fraction → Fraction → Bool) (a : Option Fraction) (t : Fraction) → Has P a → P t → Has P (tighter better a t)
tighter_has P better none t h k = k
tighter_has P better (some s) t h k = go (better t s)
  where
    go : (b : Bool) → P (cond b t s)
    go true = k
    go false = h

-- it admits what both admit
tighter_admits : (w : Way) (a : Option Fraction) (z t : Fraction) → Proper z → Proper t → Has Proper a → Has (Admits w z) (tighter (beats w) a t) ↔ (Has (Admits w z) a × Admits w z t)
tighter_admits w none z t hz ht d = ((λ h. (tt, h)), (λ h. h.1))
tighter_admits w (some s) z t hz ht d = (go (beats w t s) (beaten w s t) (unbeaten w s t), (λ h. tighter_has (Admits w z) (beats w) (some s) t h.0 h.1))
  where
    go : (b : Bool) → (T b → Admits w t s) → (T (not b) → Admits w s t) → Admits w z (cond b t s) → Admits w z s × Admits w z t
    go true f g h = (admits_trans w z t s hz ht d h (f tt), h)
    go false f g h = (h, admits_trans w z s t hz d ht h (g tt))

-- ---- one face: it moves the bound of the way in which it looks, and no other
data Turn (w : Way) (s r : ℤ) (b : Bounds) : Type 0 where
  moved : Looks w s → bound w (bounded s r b) ≡ tighter (beats w) (bound w b) (height s r) → Turn w s r b
  kept : (Looks w s → ⊥) → bound w (bounded s r b) ≡ bound w b → Turn w s r b

turn : (w : Way) (s r : ℤ) (b : Bounds) → Turn w s r b
turn up (pos zero) r b = kept (λ l. l.lt) refl
turn up (pos (suc n)) r b = moved (suc_pos n) refl
turn up (negsuc n) r b = kept (λ l. l.lt) refl
turn down (pos zero) r b = kept (nat_not_neg 0) refl
turn down (pos (suc n)) r b = kept (nat_not_neg (suc n)) refl
turn down (negsuc n) r b = moved (record { lt = tt }) refl

pub height_proper : (w : Way) (s r : ℤ) → Looks w s → Proper (height s r)
height_proper up (pos n) r l = l
height_proper up (negsuc n) r l = absurd l.lt
height_proper down (pos n) r l = absurd (nat_not_neg n l)
height_proper down (negsuc n) r l = suc_pos n

module _ (w : Way) (s r : ℤ) (b : Bounds) where
  pub bounded_has : (P : Fraction → Type 0) → (Looks w s → P (height s r)) → Has P (bound w b) → Has P (bound w (bounded s r b))
  bounded_has P k h = go (turn w s r b)
    where
      go : Turn w s r b → Has P (bound w (bounded s r b))
      go (moved l e) = subst (Has P) (sym e) (tighter_has P (beats w) (bound w b) (height s r) h (k l))
      go (kept n e) = subst (Has P) (sym e) h

  pub bounded_known : Known (bound w b) ⊎ Looks w s → Known (bound w (bounded s r b))
  bounded_known k = go (turn w s r b) k
    where
      go : Turn w s r b → Known (bound w b) ⊎ Looks w s → Known (bound w (bounded s r b))
      go (moved l e) k = subst Known (sym e) (tighter_known (beats w) (bound w b) (height s r))
      go (kept n e) (inl k) = subst Known (sym e) k
      go (kept n e) (inr l) = absurd (n l)

  pub bounded_admits : (z : Fraction) → Proper z → Has Proper (bound w b) → Has (Admits w z) (bound w (bounded s r b)) ↔ (Has (Admits w z) (bound w b) × (Looks w s → Admits w z (height s r)))
  bounded_admits z hz d = go (turn w s r b)
    where
      go : Turn w s r b → Has (Admits w z) (bound w (bounded s r b)) ↔ (Has (Admits w z) (bound w b) × (Looks w s → Admits w z (height s r)))
      go (moved l e) = let t = tighter_admits w (bound w b) z (height s r) hz (height_proper w s r l) d in (
        (λ a. let c = t.0 (subst (Has (Admits w z)) e a) in (c.0, (λ k. c.1))),
        (λ c. subst (Has (Admits w z)) (sym e) (t.1 (c.0, c.1 l))),
      )
      go (kept n e) = ((λ a. (subst (Has (Admits w z)) e a, (λ l. absurd (n l)))), (λ c. subst (Has (Admits w z)) (sym e) c.0))

-- ---- an upright face looks neither way, and admits the line or not
level : (w : Way) (s : ℤ) → s ≡ pos 0 → Looks w s → ⊥
level up s e l = pos_ne l e
level down s e l = neg_ne l e

pub bounded_upright : (s r : ℤ) (b : Bounds) → T (bounded s r b).admits ↔ (T b.admits × (s ≡ pos 0 → pos 0 ≤ℤ r))
bounded_upright (pos zero) r b = (
  (λ a. let w = and_both b.admits (le_z (pos 0) r) a in (w.0, (λ e. le_z_yes w.1))),
  (λ c. both_and b.admits (le_z (pos 0) r) c.0 (c.1 refl).le),
)
bounded_upright (pos (suc n)) r b = ((λ a. (a, (λ e. absurd (level up (pos (suc n)) e (suc_pos n))))), (λ c. c.0))
bounded_upright (negsuc n) r b = ((λ a. (a, (λ e. absurd (level down (negsuc n) e (record { lt = tt }))))), (λ c. c.0))

-- a height a/b is on or behind a face, facing·a ≤ rest·b, exactly if the face admits the line and the height
level_admits : (r a b : ℤ) → pos 0 <ℤ b → ((pos 0 *ℤ a) ≤ℤ (r *ℤ b)) ↔ (pos 0 ≤ℤ r)
level_admits r a b hb = (
  (λ h. cancel_nonneg hb (order (r ∷ a ∷ b ∷ []) (le 1 (o :* var 1) (var 0 :* var 2) ∷ []) 0 o (var 2 :* var 0) tt h)),
  (λ h. order (r ∷ a ∷ b ∷ []) (le 1 o (var 0 :* var 2) ∷ []) 0 (o :* var 1) (var 0 :* var 2) tt (mul_nonneg h (<→≤ hb))),
)

up_admits : (r a b m : ℤ) → ((m *ℤ a) ≤ℤ (r *ℤ b)) ↔ ((a *ℤ m) ≤ℤ (r *ℤ b))
up_admits r a b m = (
  order (r ∷ a ∷ b ∷ m ∷ []) (le 1 (var 3 :* var 1) (var 0 :* var 2) ∷ []) 0 (var 1 :* var 3) (var 0 :* var 2) tt,
  order (r ∷ a ∷ b ∷ m ∷ []) (le 1 (var 1 :* var 3) (var 0 :* var 2) ∷ []) 0 (var 3 :* var 1) (var 0 :* var 2) tt,
)

down_admits : (r a b m : ℤ) → ((neg_ℤ m *ℤ a) ≤ℤ (r *ℤ b)) ↔ ((neg_ℤ r *ℤ b) ≤ℤ (a *ℤ m))
down_admits r a b m = (
  order (r ∷ a ∷ b ∷ m ∷ []) (le 1 (neg (var 3) :* var 1) (var 0 :* var 2) ∷ []) 0 (neg (var 0) :* var 2) (var 1 :* var 3) tt,
  order (r ∷ a ∷ b ∷ m ∷ []) (le 1 (neg (var 0) :* var 2) (var 1 :* var 3) ∷ []) 0 (neg (var 3) :* var 1) (var 0 :* var 2) tt,
)

pub face_admits : (s r : ℤ) (z : Fraction) → Proper z → ((s *ℤ z.top) ≤ℤ (r *ℤ z.bottom)) ↔ ((s ≡ pos 0 → pos 0 ≤ℤ r) × ((w : Way) → Looks w s → Admits w z (height s r)))
face_admits (pos zero) r z hz = let c = level_admits r z.top z.bottom hz in ((λ h. ((λ e. c.0 h), (λ w l. absurd (level w (pos 0) refl l)))), (λ k. c.1 (k.0 refl)))
face_admits (pos (suc n)) r z hz =
    let c = up_admits r z.top z.bottom (pos (suc n)) in ((λ h. ((λ e. absurd (level up (pos (suc n)) e (suc_pos n))), way (c.0 h))), (λ k. c.1 (k.1 up (suc_pos n))))
  where
    way : AtMost z (height (pos (suc n)) r) → (w : Way) → Looks w (pos (suc n)) → Admits w z (height (pos (suc n)) r)
    way h up l = h
    way h down l = absurd (nat_not_neg (suc n) l)
face_admits (negsuc n) r z hz =
    let c = down_admits r z.top z.bottom (pos (suc n)) in ((λ h. ((λ e. absurd (level down (negsuc n) e (record { lt = tt }))), way (c.0 h))), (λ k. c.1 (k.1 down (record { lt = tt }))))
  where
    way : AtMost (height (negsuc n) r) z → (w : Way) → Looks w (negsuc n) → Admits w z (height (negsuc n) r)
    way h up l = absurd l.lt
    way h down l = h
