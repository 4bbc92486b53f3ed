-- The answers of the plane calls, by what the code finds out on its way.
use mathlib.Core.Path.{◌≡◌, refl}
use mathlib.Core.Bool.{Bool, true, false, not, ◌&&◌}
use mathlib.Core.List.{List}
use Prim.Native.Nat.{ℕ, ◌<◌, ◌≤◌}
use lib.Dec.{ltb→lt}
use lib.IntN.{ℤ, neg_ℤ}
use borrow.Author.Tests.{lt-ltb, le-ltb}
use Rattle.laws.proofs.Tests.{and_both, T_of}
use Rattle.touches.specs.declared.Point.{Point}
use Rattle.std.specs.Prelude.{Float, Result, Ok, Err}
use Rattle.touches.specs.declared.refusal.Refusal.{Refusal}
use Rattle.touches.specs.declared.refusal.Refusal.TheVariants.{NoSuchFace, PlaceOutOfRange}
use Rattle.touches.specs.Touches.{touch, touch_count, Near}
use Rattle.touches.specs.Check.{pick, checked, if_accepted}
use Rattle.touches.proofs.SoundLaws.{accepted_sound, touch_near}
use Rattle.touches.specs.Limits.{place_in_range}
use Rattle.volume.specs.Volume.{Vol, in_line}
use Rattle.planes.specs.declared.Plane.{Plane}
use Rattle.laws.specs.Doubles.{double}
use Rattle.planes.specs.Planes.{plane_of, is_touch, good_corners, face_plane, planed, plane_reading}

-- ---- refusal 6
module _ (cs : List ℤ) (a b c : ℕ) where
  pub bad_a : touch_count cs ≤ a → good_corners cs a b c ≡ false
  unfolding good_corners
  bad_a h = simp (le-ltb a (touch_count cs) h)

  pub bad_b : a < touch_count cs → touch_count cs ≤ b → good_corners cs a b c ≡ false
  unfolding good_corners
  bad_b h k = simp (lt-ltb a (touch_count cs) h, le-ltb b (touch_count cs) k)

  pub bad_c : a < touch_count cs → b < touch_count cs → touch_count cs ≤ c → good_corners cs a b c ≡ false
  unfolding good_corners
  bad_c h k l = simp (lt-ltb a (touch_count cs) h, lt-ltb b (touch_count cs) k, le-ltb c (touch_count cs) l)

  pub by_line : a < touch_count cs → b < touch_count cs → c < touch_count cs → (t : Bool) → in_line (touch cs a) (touch cs b) (touch cs c) ≡ t → good_corners cs a b c ≡ not t
  unfolding good_corners
  by_line h k l t e = simp (lt-ltb a (touch_count cs) h, lt-ltb b (touch_count cs) k, lt-ltb c (touch_count cs) l, e)

  pub refused_6 : good_corners cs a b c ≡ false → Err NoSuchFace ≡ face_plane cs a b c
  refused_6 e = simp e

  pub plane_6 : good_corners cs a b c ≡ true → Ok (plane_of (touch cs a) (touch cs b) (touch cs c)) ≡ face_plane cs a b c
  plane_6 e = simp e

-- ---- from the plane's answer to the reading's
abbrev pub at : List ℤ → ℕ → ℕ → ℕ → Point → Result Float Refusal
at cs a b c q = pick (place_in_range q) (Ok (double (neg_ℤ (Vol (touch cs a) (touch cs b) (touch cs c) q)))) (Err PlaceOutOfRange)

module _ (cs : List ℤ) (a b c : ℕ) (q : Point) where
  pub out_of_place : place_in_range q ≡ false → Err PlaceOutOfRange ≡ at cs a b c q
  out_of_place e = simp e

  pub in_place : place_in_range q ≡ true → Ok (double (neg_ℤ (Vol (touch cs a) (touch cs b) (touch cs c) q))) ≡ at cs a b c q
  in_place e = simp e

pub record Known (cs : List ℤ) (a b c : ℕ) (p : Plane) : Type 0 where
  pub near_a : Near (touch cs a)
  pub near_b : Near (touch cs b)
  pub near_c : Near (touch cs c)
  pub is : p ≡ plane_of (touch cs a) (touch cs b) (touch cs c)
  pub reading : (q : Point) → at cs a b c q ≡ plane_reading cs a b c q

module _ (cs : List ℤ) (a b c : ℕ) where
  corners_in : good_corners cs a b c ≡ true → (a < touch_count cs) × (b < touch_count cs) × (c < touch_count cs)
  unfolding good_corners
  corners_in e =
      let n = not (in_line (touch cs a) (touch cs b) (touch cs c)) in
      let x = and_both (is_touch cs a) (is_touch cs b && (is_touch cs c && n)) (T_of e) in
      let y = and_both (is_touch cs b) (is_touch cs c && n) x.1 in
      let z = and_both (is_touch cs c) n y.1 in
      (ltb→lt a (touch_count cs) x.0, ltb→lt b (touch_count cs) y.0, ltb→lt c (touch_count cs) z.0)

  pub planed_known : (p : Plane) → planed cs a b c ≡ Ok p → Known cs a b c p
  planed_known p e = list (checked cs) refl e
    where
      corners : (l : List ℤ) → checked cs ≡ Ok l → (t : Bool) → good_corners cs a b c ≡ t → pick t (Ok (plane_of (touch cs a) (touch cs b) (touch cs c))) (Err NoSuchFace) ≡ Ok p → Known cs a b c p
      corners l h true g e = let s = (accepted_sound cs l h).sound in let i = corners_in g in
          record { near_a = touch_near s a i.0; near_b = touch_near s b i.1; near_c = touch_near s c i.2; is = cc; reading = λ q. simp (h, g) }
      corners l h false g e = cc

      list : (k : Result (List ℤ) Refusal) → checked cs ≡ k → if_accepted k (face_plane cs a b c) ≡ Ok p → Known cs a b c p
      list (Ok l) h e = corners l h (good_corners cs a b c) refl e
      list (Err r) h e = cc

  pub planed_refused : (r : Refusal) → planed cs a b c ≡ Err r → (q : Point) → Err r ≡ plane_reading cs a b c q
  planed_refused r e q = list (checked cs) e
    where
      corners : (t : Bool) → pick t (Ok (plane_of (touch cs a) (touch cs b) (touch cs c))) (Err NoSuchFace) ≡ Err r → Err r ≡ pick t (at cs a b c q) (Err NoSuchFace)
      corners true e = cc
      corners false e = cc

      list : (k : Result (List ℤ) Refusal) → if_accepted k (face_plane cs a b c) ≡ Err r → Err r ≡ if_accepted k (pick (good_corners cs a b c) (at cs a b c q) (Err NoSuchFace))
      list (Ok l) e = corners (good_corners cs a b c) e
      list (Err k) e = cc
