-- Faces: V of a cone face and along a ray, what `visible` says, and corners.
use mathlib.Core.Path.{◌≡◌, refl}
use mathlib.Core.Bool.{not}
use Prim.Native.Nat.{ℕ}
use lib.Dec.{T, not_T}
use lib.IntN.{pos, ◌-ℤ◌, ◌*ℤ◌}
use lib.Signed.{◌≤ℤ◌, ◌<ℤ◌, lt_z_yes, lt_z_no}
use Rattle.laws.specs.Lists.{In}
use Rattle.laws.proofs.Order.{not_lt}
use Rattle.touches.specs.declared.Point.{Point}
use Rattle.volume.specs.Volume.{Vol}
use Rattle.volume.proofs.Rays.{OnRay, ray_aff}
use Rattle.rules.specs.Faces.{Face, Places, Side, corner, face_vol, visible, sides_of}
use Rattle.rules.specs.Building.{cone}
use Rattle.rules.specs.Demands.{CornersIn}
use Rattle.rules.proofs.SideLaws.{each}

pub cone_vol : (p : Places) (k : ℕ) (s : Side) (q : Point) → face_vol p (cone k s) q ≡ Vol (p s.from) (p s.to) (p k) q
unfolding face_vol
cone_vol p k s q = refl

-- V of a face is affine along a ray
pub face_aff : (p : Places) (f : Face) {v q r : Point} (w : OnRay v q r) → w.m *ℤ (face_vol p f q -ℤ face_vol p f v) ≡ w.n *ℤ (face_vol p f r -ℤ face_vol p f v)
unfolding face_vol
face_aff p f w = ray_aff (p (corner f 0)) (p (corner f 1)) (p (corner f 2)) w

-- ---- visible: strictly in front
pub seen→ : (p : Places) (k : ℕ) (f : Face) → T (visible p k f) → face_vol p f (p k) <ℤ pos 0
unfolding visible
seen→ p k f t = lt_z_yes t

pub →seen : (p : Places) (k : ℕ) (f : Face) → face_vol p f (p k) <ℤ pos 0 → T (visible p k f)
unfolding visible
→seen p k f h = h.lt

pub unseen→ : (p : Places) (k : ℕ) (f : Face) → T (not (visible p k f)) → pos 0 ≤ℤ face_vol p f (p k)
unfolding visible
unseen→ p k f t = lt_z_no t

pub →unseen : (p : Places) (k : ℕ) (f : Face) → pos 0 ≤ℤ face_vol p f (p k) → T (not (visible p k f))
→unseen p k f h = not_T (visible p k f) (λ t. not_lt h (seen→ p k f t))

-- ---- corners
pub corners_map : {M N : ℕ → Type 0} {f : Face} → ((t : ℕ) → M t → N t) → CornersIn M f → CornersIn N f
corners_map {f} g c = record { three = c.three; a = g (corner f 0) c.a; b = g (corner f 1) c.b; c = g (corner f 2) c.c }

pub side_corners : {M : ℕ → Type 0} {f : Face} → CornersIn M f → (s : Side) → In s (sides_of f) → M s.from × M s.to
side_corners {M} {f} c = each (λ s. M s.from × M s.to) f (c.a, c.b) (c.b, c.c) (c.c, c.a)

-- V of a face depends on its corners' places alone
pub face_agree : {p r : Places} {M : ℕ → Type 0} {f : Face} → ((t : ℕ) → M t → p t ≡ r t) → CornersIn M f → (q : Point) → face_vol p f q ≡ face_vol r f q
unfolding face_vol
face_agree {p} {r} {M} {f} e c q = λ i. Vol (e (corner f 0) c.a i) (e (corner f 1) c.b i) (e (corner f 2) c.c i) q
