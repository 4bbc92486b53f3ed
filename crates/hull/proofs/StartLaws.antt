-- The search for P, Q, R and S, and the table of the starting faces.
use mathlib.Core.Path.{◌≡◌, refl, sym, ap, ◌∙◌}
use mathlib.Core.Bool.{Bool, true, false}
use mathlib.Core.List.{List, [], ◌∷◌, map}
use mathlib.Core.Option.{Option, none, some}
use Prim.Native.Nat.{ℕ, zero, suc, ◌<◌}
use native.Mathlib.Omega.{arith}
use lib.ListN.{get_or}
use native.Mathlib.Numerals.{add-one}
use Rattle.std.specs.Prelude.{Option as Maybe, None, Some}
use Rattle.std.specs.Option.{option_map}
use Rattle.std.specs.List.{find, range_with_len}
use denote.Param.Members.{Mut}
use denote.Ref.{Bor}
use Rattle.std.specs.declared.iter.Map.{Map}
use Rattle.std.specs.declared.ops.Range.{Range}
use Rattle.std.specs.Fn.{Called, CalledAt}
use Rattle.std.specs.Iterator.{FindsItem}
use Rattle.std.specs.Iterator.Adapters.{map_source, map_callee}
use Rattle.std.proofs.iter.Yields.{nat_range_steps}
use Rattle.std.proofs.lemmas.Iterator.{maps, YieldsList-from_range, YieldsList-from_map}
use Rattle.std.proofs.lemmas.Iterator.Search.{find_from_yields_List}
use Rattle.laws.specs.Lists.{first, upward}
use Rattle.laws.proofs.Firsts.{first_some, in_upward}
use Rattle.touches.specs.declared.TouchNo.{TouchNo}
use Rattle.touches.specs.Touches.{touch_no}
use Rattle.rules.specs.Faces.{Places}
use Rattle.rules.specs.Start.{then, start, find_r, find_s, start_table, start_faces, Start as Four}
use Rattle.hull.specs.Start.{is_apart, is_off_line, is_off_plane, found_of, started_of}

-- ---- what a search gave, as the rule has it
found_none : (o : Option ℕ) → None ≡ found_of o → o ≡ none
found_none none e = refl
found_none (some k) e = cc

found_at : (o : Option ℕ) {k : TouchNo} → Some k ≡ found_of o → o ≡ some k.0
found_at none e = cc
found_at (some j) {k} e = let t : k ≡ touch_no j = cc in ap (λ (t : TouchNo). some t.0) (sym t)

-- ---- the same search in std's words
mapped_as_is : (o : Maybe TouchNo) → o ≡ option_map (λ (t : TouchNo). t) o
mapped_as_is None = refl
mapped_as_is (Some t) = refl

found_turn : (q : ℕ → Bool) (i n : ℕ) (b : Bool) → q i ≡ b
    → find (λ (t : TouchNo). q t.0) (map touch_no (range_with_len (suc i) n)) ≡ found_of (first q (upward (suc i) n))
    → find (λ (t : TouchNo). q t.0) (map touch_no (range_with_len i (suc n))) ≡ found_of (first q (upward i (suc n)))
found_turn q i n true e h = simp e
found_turn q i n false e h = simp (e, add-one) h

found_upward : (q : ℕ → Bool) (i n : ℕ) → find (λ (t : TouchNo). q t.0) (map touch_no (range_with_len i n)) ≡ found_of (first q (upward i n))
found_upward q i zero = refl
found_upward q i (suc n) = found_turn q i n (q i) refl (found_upward q (suc i) n)

-- what the code's search gives: the closure answers by q, and the numbers below n become touches
pub first_found : {F G : Type 0} (g : Mut F (Bor TouchNo × Unit {0}) Bool) (m : Mut G (ℕ × Unit {0}) TouchNo) {s : Map (Range ℕ) G} (u : Map (Range ℕ) G) {f : F} {h : G} {r : Maybe TouchNo} (q : ℕ → Bool) (n : ℕ)
    → FindsItem (maps nat_range_steps m) g s f r u → map_source s ≡ record { start = 0; end = n } → map_callee s ≡ h
    → ((x : ℕ) (y : TouchNo) (k : G) → Called m h (x, tt) y k → (k ≡ h) × (y ≡ touch_no x))
    → ((x : TouchNo) (b : Bool) (k : F) → CalledAt g f x b k → (k ≡ f) × (b ≡ q x.0)) → r ≡ found_of (first q (upward 0 n))
first_found g m {s} u {f} {h} {r} q n ran source callee made passed =
    mapped_as_is r
    ∙ find_from_yields_List (λ (t : TouchNo). q t.0) u f r ran (YieldsList-from_map m touch_no (YieldsList-from_range 0 n n source (omega arith)) callee made) passed
    ∙ found_upward q 0 n

module _ (n : ℕ) (q : ℕ → Bool) where
  abbrev pub sought : Option ℕ
  sought = first q (upward 0 n)

  pub none_suited : None ≡ found_of sought → sought ≡ none
  none_suited = found_none sought

  pub suited_at : {k : TouchNo} → Some k ≡ found_of sought → sought ≡ some k.0
  suited_at = found_at sought

  pub suited_below : {k : TouchNo} → Some k ≡ found_of sought → k.0 < n
  suited_below e = omega (arith, in_upward 0 n (first_some q (upward 0 n) (suited_at e)).0)

-- ---- the rule, a search at a time
module _ (p : Places) (n : ℕ) where
  abbrev ks : List ℕ
  ks = upward 0 n

  after_Q : {o : Option ℕ} → sought n (is_apart p) ≡ o → start p n ≡ then o (λ q. find_r p 0 q ks)
  after_Q e = ap (λ (o : Option ℕ). then o (λ q. find_r p 0 q ks)) e

  after_R : (q : TouchNo) {o : Option ℕ} → sought n (is_off_line p q.0) ≡ o → find_r p 0 q.0 ks ≡ then o (λ r. find_s p 0 q.0 r ks)
  after_R q e = ap (λ (o : Option ℕ). then o (λ r. find_s p 0 q.0 r ks)) e

  after_S : (q r : TouchNo) {o : Option ℕ} → sought n (is_off_plane p q.0 r.0) ≡ o
      → find_s p 0 q.0 r.0 ks ≡ then o (λ s. some (record { P = 0; Q = q.0; R = r.0; S = s }))
  after_S q r e = ap (λ (o : Option ℕ). then o (λ s. some (four q.0 r.0 s))) e
    where
      four : ℕ → ℕ → ℕ → Four
      four q r s = record { P = 0; Q = q; R = r; S = s }

  module _ (q : TouchNo) (eq : Some q ≡ found_of (sought n (is_apart p))) where
    pub flat_R : None ≡ found_of (sought n (is_off_line p q.0)) → None ≡ started_of (start p n)
    flat_R e = sym (ap started_of (after_Q (suited_at n (is_apart p) eq) ∙ after_R q (none_suited n (is_off_line p q.0) e)))

    module _ (r : TouchNo) (er : Some r ≡ found_of (sought n (is_off_line p q.0))) where
      pub flat_S : None ≡ found_of (sought n (is_off_plane p q.0 r.0)) → None ≡ started_of (start p n)
      flat_S e = sym (ap started_of (after_Q (suited_at n (is_apart p) eq) ∙ after_R q (suited_at n (is_off_line p q.0) er) ∙ after_S q r (none_suited n (is_off_plane p q.0 r.0) e)))

      pub started : (s : TouchNo) → Some s ≡ found_of (sought n (is_off_plane p q.0 r.0)) → Some (record { p = touch_no 0; q = q; r = r; s = s }) ≡ started_of (start p n)
      started s e = sym (ap started_of (after_Q (suited_at n (is_apart p) eq) ∙ after_R q (suited_at n (is_off_line p q.0) er) ∙ after_S q r (suited_at n (is_off_plane p q.0 r.0) e)))

-- ---- the table of four
pub start_face_is : (abcd : List ℕ) (i : ℕ) → i < 4
    → (let t = get_or start_table i [] in get_or abcd (get_or t 0 0) 0 ∷ get_or abcd (get_or t 1 0) 0 ∷ get_or abcd (get_or t 2 0) 0 ∷ []) ≡ get_or (start_faces abcd) i []
start_face_is abcd zero h = refl
start_face_is abcd (suc zero) h = refl
start_face_is abcd (suc (suc zero)) h = refl
start_face_is abcd (suc (suc (suc zero))) h = refl
start_face_is abcd (suc (suc (suc (suc i)))) h = absurd (omega arith)
