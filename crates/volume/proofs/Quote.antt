-- The polynomials of specs/Volume once more as expressions, for the ring normaliser: `ring` takes them for the definitions because they compute to them.
use mathlib.Core.List.{List, [], ◌∷◌}
use Prim.Native.Nat.{ℕ, ◌+◌, ◌*◌}
use lib.IntN.{ℤ}
use Rattle.laws.proofs.Ring.{Ex, one, var, ◌:+◌, ◌:-◌, ◌:*◌}
use Rattle.touches.specs.declared.Point.{Point}
use Rattle.volume.proofs.Axes.{Axis, X, Y, Z}

pub record Spot : Type 0 where
  pub x : Ex
  pub y : Ex
  pub z : Ex

-- point number i has the variables 3i, 3i + 1, 3i + 2
abbrev pub pt : ℕ → Spot
pt i = record { x = var (3 * i); y = var (3 * i + 1); z = var (3 * i + 2) }

abbrev pub env : List Point → List ℤ
env [] = []
env (p ∷ ps) = p.x ∷ p.y ∷ p.z ∷ env ps

abbrev pub on_e : Spot → Axis → Ex
on_e p X = p.x
on_e p Y = p.y
on_e p Z = p.z

abbrev pub det2_e : Ex → Ex → Ex → Ex → Ex
det2_e a b c d = a :* d :- b :* c

abbrev pub det3_e : Ex → Ex → Ex → Ex → Ex → Ex → Ex → Ex → Ex → Ex
det3_e a b c d e f g h i = a :* det2_e e f h i :- b :* det2_e d f g i :+ c :* det2_e d e g h

abbrev pub vol_e : Spot → Spot → Spot → Spot → Ex
vol_e a b c d =
    a.x :* det3_e b.y b.z one c.y c.z one d.y d.z one
    :- a.y :* det3_e b.x b.z one c.x c.z one d.x d.z one
    :+ a.z :* det3_e b.x b.y one c.x c.y one d.x d.y one
    :- one :* det3_e b.x b.y b.z c.x c.y c.z d.x d.y d.z

abbrev pub minus_e : Spot → Spot → Spot
minus_e p q = record { x = p.x :- q.x; y = p.y :- q.y; z = p.z :- q.z }

abbrev pub cross_e : Spot → Spot → Spot
cross_e u v = record { x = det2_e u.y u.z v.y v.z; y = det2_e u.z u.x v.z v.x; z = det2_e u.x u.y v.x v.y }

abbrev pub dot_e : Spot → Spot → Ex
dot_e u v = u.x :* v.x :+ u.y :* v.y :+ u.z :* v.z

abbrev pub normal_e : Spot → Spot → Spot → Spot
normal_e a b c = cross_e (minus_e b a) (minus_e c a)

-- V of four numbered points
abbrev pub W : ℕ → ℕ → ℕ → ℕ → Ex
W a b c d = vol_e (pt a) (pt b) (pt c) (pt d)
