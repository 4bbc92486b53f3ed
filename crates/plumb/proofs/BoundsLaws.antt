-- The bounds of a plumb line: what one face after another leaves of them.
use mathlib.Core.Path.{◌≡◌, sym, ap, ap₂, ◌∙◌}
use mathlib.Core.List.{List, []}
use Prim.Native.Nat.{ℕ, ◌+◌, ◌<◌, ◌≤◌}
use native.Mathlib.Omega.{arith}
use lib.IntN.{ℤ}
use lib.ListN.{length, get_or, drop}
use Rattle.touches.specs.Touches.{touch}
use Rattle.rules.specs.Faces.{Face}
use Rattle.rules.specs.Plumb.{Bounds as Limits, face_normal, face_offset, facing, rest, bounded, unbounded, bounds}
use Rattle.rules.proofs.PlumbTurns.{bounds_turn, bounds_end}
use Rattle.table.specs.Table.{faces_in}
use Rattle.table.proofs.TableLaws.{length_faces}
use Rattle.points.specs.Whole.{Plane, plane_on}
use Rattle.points.specs.Sizes.{Number}
use Rattle.points.proofs.NumberLaws.{rd, back}
use Rattle.plumb.specs.Bounds.{bounds_of, rest_at}
use Rattle.plumb.specs.Held.{most_rest}
use Rattle.plumb.specs.declared.bounds.Bounds.{Bounds}

-- the first i faces of the table t are read
pub record Read (cs : List ℤ) (t : List ℕ) (x y : ℤ) (i : ℕ) (b : Bounds) : Type 0 where
  pub so_far : bounds (touch cs) x y unbounded (faces_in t) ≡ bounds (touch cs) x y (bounds_of b) (drop i (faces_in t))

module _ {cs : List ℤ} {t : List ℕ} {x y : ℤ} {i : ℕ} {b : Bounds} (g : Read cs t x y i b) where
  -- the next face, f, was read, and left b'
  pub read_more : i < length (faces_in t) → {f : Face} → f ≡ get_or (faces_in t) i [] → {w : Plane} → w ≡ plane_on (touch cs) f → {s : ℤ} → s ≡ w.normal.z
      → {r : ℤ} → Number most_rest (rest_at w x y) r → {b' : Bounds} → bounds_of b' ≡ bounded s (rd r) (bounds_of b) → Read cs t x y (i + 1) b'
  unfolding face_normal face_offset
  read_more h {f} a {w} e {s} z m {b'} q =
      let p = touch cs in
      let v : bounds_of b' ≡ bounded (facing p f) (rest p x y f) (bounds_of b) =
      q ∙ ap₂ (λ (s z : ℤ). bounded s z (bounds_of b)) z (back tt m) ∙ ap (λ (w : Plane). bounded w.normal.z (rest_at w x y) (bounds_of b)) e in
      record {
        so_far = g.so_far ∙ bounds_turn p x y (bounds_of b) (faces_in t) i [] h
            ∙ ap (λ (j : Face). bounds p x y (bounded (facing p j) (rest p x y j) (bounds_of b)) (drop (i + 1) (faces_in t))) (sym a)
            ∙ ap (λ (l : Limits). bounds p x y l (drop (i + 1) (faces_in t))) (sym v);
      }

  pub read_all : length (faces_in t) ≤ i → bounds_of b ≡ bounds (touch cs) x y unbounded (faces_in t)
  read_all h = sym (g.so_far ∙ bounds_end (touch cs) x y (bounds_of b) (faces_in t) i (omega (arith, length_faces t)))
