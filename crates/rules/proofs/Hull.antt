-- The invariant of the construction: what a face list h has once the touches of the list done are taken.
use mathlib.Core.Path.{◌≡◌, refl, sym, subst}
use mathlib.Core.Logic.{◌≢◌, ◌⊎◌, inl, inr}
use mathlib.Core.Bool.{false}
use mathlib.Core.List.{List}
use Prim.Native.Nat.{ℕ, ◌<◌}
use lib.Dec.{not_T}
use lib.IntN.{ℤ, pos}
use lib.Signed.{◌≤ℤ◌, ◌<ℤ◌}
use Rattle.laws.specs.Lists.{In, Pw, Nodup}
use Rattle.laws.proofs.Tests.{is_false}
use Rattle.laws.proofs.Order.{pos_ne}
use Rattle.laws.proofs.Members.{Pw-get, Pw-weak}
use Rattle.touches.specs.declared.Point.{Point}
use Rattle.volume.specs.Volume.{Vol, in_line}
use Rattle.volume.proofs.VolumeLaws.{turn_abc}
use Rattle.volume.proofs.LineLaws.{line_vol}
use Rattle.volume.proofs.Rays.{OnRay, ray_self, ray_swap}
use Rattle.rules.specs.Faces.{Face, Places, Side, side, corner, reversed, face_vol, sides_of, sides}
use Rattle.rules.specs.Demands.{CornersIn, Closed}
use Rattle.rules.proofs.SideLaws.{each, in_sides}
use Rattle.rules.proofs.FaceLaws.{corners_map}

-- two sides that leave one position along one ray
pub record Ray (p : Places) (s t : Side) : Type 0 where
  pub start : p s.from ≡ p t.from
  pub way : OnRay (p s.from) (p s.to) (p t.to)

abbrev pub Apart : Places → Side → Side → Type 0
Apart p s t = Ray p s t → ⊥

pub record Hull (p : Places) (done : List ℕ) (h : List Face) : Type 0 where
  -- I1: each corner was taken
  pub corners : (f : Face) → In f h → CornersIn (λ t. In t done) f
  -- I2: each touch taken is on or behind each face
  pub supporting : (f : Face) → In f h → (t : ℕ) → In t done → pos 0 ≤ℤ face_vol p f (p t)
  -- I3: some touch taken is strictly behind it
  pub body : (f : Face) → In f h → (t : ℕ) × In t done × (pos 0 <ℤ face_vol p f (p t))
  -- I4: the reverse of a side is a side
  pub back : (s : Side) → In s (sides h) → In (reversed s) (sides h)
  -- I5: no two sides leave one position along one ray
  pub rays : Pw (Apart p) (sides h)

-- ---- rays
pub ray_sym : {p : Places} {s t : Side} → Ray p s t → Ray p t s
ray_sym {p} {s} {t} r = record { start = sym r.start; way = ray_swap (subst (λ (v : Point). OnRay v (p s.to) (p t.to)) r.start r.way) }

pub apart_sym : {p : Places} (s t : Side) → Apart p s t → Apart p t s
apart_sym s t f r = f (ray_sym r)

pub apart_ne : {p : Places} {s t : Side} → Apart p s t → s ≢ t
apart_ne {p} {s} {t} f e = f (subst (λ (u : Side). Ray p s u) e (record { start = refl; way = ray_self (p s.from) (p s.to) }))

module _ {p : Places} {done : List ℕ} {h : List Face} (H : Hull p done h) where
  -- two sides on one ray are one
  pub one_side : {s t : Side} → In s (sides h) → In t (sides h) → Ray p s t → s ≡ t
  one_side {s} {t} m n r = go (Pw-get apart_sym (sides h) H.rays m n)
    where
      go : (s ≡ t) ⊎ Apart p s t → s ≡ t
      go (inl e) = e
      go (inr f) = absurd (f r)

  pub sides_once : Nodup (sides h)
  sides_once = Pw-weak {S = λ s t. s ≢ t} (sides h) (λ s t i j f. apart_ne f) H.rays

  pub hull_closed : Closed h
  hull_closed = record { once = sides_once; back = H.back }

  -- a touch is behind each face, so that its corners are not in line
  pub off_line : (f : Face) → In f h → in_line (p (corner f 0)) (p (corner f 1)) (p (corner f 2)) ≡ false
  unfolding face_vol
  off_line f m = let b = H.body f m in
      is_false (in_line (p (corner f 0)) (p (corner f 1)) (p (corner f 2))) (not_T (in_line (p (corner f 0)) (p (corner f 1)) (p (corner f 2)))
      (λ t. pos_ne b.2 (line_vol (p (corner f 0)) (p (corner f 1)) (p (corner f 2)) (p b.0) t)))

  pub hull_corners : (n : ℕ) → ((t : ℕ) → In t done → t < n) → (f : Face) → In f h → CornersIn (λ t. t < n) f
  hull_corners n below f m = corners_map below (H.corners f m)

  -- the invariant asks of the touches only which they are
  pub hull_touches : {all : List ℕ} → ((t : ℕ) → In t done → In t all) → ((t : ℕ) → In t all → In t done) → Hull p all h
  hull_touches {all} f g = record {
    corners = λ x m. corners_map f (H.corners x m);
    supporting = λ x m t i. H.supporting x m t (g t i);
    body = λ x m. let b = H.body x m in (b.0, f b.0 b.1, b.2);
    back = H.back;
    rays = H.rays;
  }

-- ---- a face read from one of its sides: its third corner y, its V, and I1 to I3 of it
pub record Edge (p : Places) (done : List ℕ) (f : Face) (s : Side) : Type 0 where
  pub y : ℕ
  pub is : (q : Point) → face_vol p f q ≡ Vol (p s.from) (p s.to) (p y) q
  pub from_in : In s.from done
  pub to_in : In s.to done
  pub y_in : In y done
  pub supp : (t : ℕ) → In t done → pos 0 ≤ℤ Vol (p s.from) (p s.to) (p y) (p t)
  pub some : (t : ℕ) × In t done × (pos 0 <ℤ Vol (p s.from) (p s.to) (p y) (p t))

pub edge : {p : Places} {done : List ℕ} {h : List Face} → Hull p done h → (f : Face) → In f h → (s : Side) → In s (sides_of f) → Edge p done f s
unfolding face_vol
edge {p} {done} {h} H f m =
    each (Edge p done f) f (read (side (corner f 0) (corner f 1)) (corner f 2) (λ q. refl) c.a c.b c.c)
    (read (side (corner f 1) (corner f 2)) (corner f 0) (λ q. sym (turn_abc (p (corner f 0)) (p (corner f 1)) (p (corner f 2)) q)) c.b c.c c.a)
    (read (side (corner f 2) (corner f 0)) (corner f 1) (λ q. turn_abc (p (corner f 2)) (p (corner f 0)) (p (corner f 1)) q) c.c c.a c.b)
  where
    c : CornersIn (λ t. In t done) f
    c = H.corners f m

    read : (s : Side) (y : ℕ) → ((q : Point) → face_vol p f q ≡ Vol (p s.from) (p s.to) (p y) q) → In s.from done → In s.to done → In y done → Edge p done f s
    read s y e i j n = record {
      y = y;
      is = e;
      from_in = i;
      to_in = j;
      y_in = n;
      supp = λ t u. subst (λ (z : ℤ). pos 0 ≤ℤ z) (e (p t)) (H.supporting f m t u);
      some = let b = H.body f m in (b.0, b.1, subst (λ (z : ℤ). pos 0 <ℤ z) (e (p b.0)) b.2);
    }

-- a side of the list, on its face
pub edge_of : {p : Places} {done : List ℕ} {h : List Face} → Hull p done h → (s : Side) → In s (sides h) → (f : Face) × In f h × Edge p done f s
edge_of {p} {done} {h} H s m = let u = in_sides h m in (u.0, u.1, edge H u.0 u.1 s u.2)
