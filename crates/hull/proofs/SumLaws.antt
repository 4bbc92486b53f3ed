-- The volume, a face a turn: the machine's sum so far and how large it can be.
use mathlib.Core.Path.{◌≡◌, sym, ap, subst, ◌∙◌}
use mathlib.Core.List.{List, [], ◌∷◌}
use Prim.Native.Nat.{ℕ, ◌+◌, ◌*◌, ◌<◌, ◌≤◌}
use native.Mathlib.Numerals.{add-one}
use native.Mathlib.Omega.{arith}
use native.Mathlib.Nat.{mul-le-mul_right}
use lib.IntN.{ℤ, ◌+ℤ◌, +ℤ_idr}
use lib.ListN.{length, take, get_or}
use lib.Seq.{take-suc, take_all}
use mir.Syntax.{w64}
use mir.Val.{to_z, of_z, SFits}
use Rattle.laws.specs.Numbers.{Within}
use Rattle.laws.specs.Lists.{sum_z}
use Rattle.laws.proofs.Sums.{sum_append}
use Rattle.laws.proofs.WithinLaws.{within_more}
use Rattle.laws.proofs.Words.{Reads, r_add, fits, stored}
use Rattle.touches.specs.declared.Point.{Point}
use Rattle.touches.specs.Limits.{most_faces}
use Rattle.volume.specs.Volume.{most_volume}
use Rattle.rules.specs.Faces.{Face, Places, face_vol}
use Rattle.rules.specs.Building.{volume}
use Rattle.points.specs.Sizes.{Number}
use Rattle.points.proofs.NumberLaws.{back}

-- what is read from a plane is at most this in size
abbrev pub most_read : ℕ
most_read = 2 * most_volume

abbrev pub so_far : Places → Point → List Face → ℕ → ℤ
so_far p q l i = sum_z (λ f. face_vol p f q) (take i l)

-- n is the bits of the sum over the first i faces
pub record Summed (p : Places) (q : Point) (l : List Face) (i n : ℕ) : Type 0 where
  pub reads : Reads (i * most_read) (to_z w64 n) (so_far p q l i)

module _ {p : Places} {q : Point} {l : List Face} {i n : ℕ} (g : Summed p q l i n) where
  module _ {v : ℤ} (e : Number most_read (face_vol p (get_or l i []) q) v) (h : i < length l) (b : length l ≤ most_faces) where
    sum_more : so_far p q l i +ℤ face_vol p (get_or l i []) q ≡ so_far p q l (i + 1)
    sum_more = sym (ap (so_far p q l) (add-one i) ∙ ap (sum_z (λ f. face_vol p f q)) (take-suc l i [] h)
        ∙ sum_append (λ f. face_vol p f q) (take i l) (get_or l i [] ∷ []) ∙ ap (λ (z : ℤ). so_far p q l i +ℤ z) (+ℤ_idr (face_vol p (get_or l i []) q)))

    -- the sum that the machine works out
    next : Reads ((i + 1) * most_read) (to_z w64 n +ℤ to_z w64 (of_z w64 v)) (so_far p q l (i + 1))
    next =
        let s : i * most_read + most_read ≡ (i + 1) * most_read = omega arith in
        let k : Reads most_read (to_z w64 (of_z w64 v)) (face_vol p (get_or l i []) q) = record { is = back tt e; bound = subst (Within most_read) e.is e.small } in
        let r = r_add g.reads k in
        record { is = r.is ∙ sum_more; bound = subst (λ (z : ℤ). Within ((i + 1) * most_read) z) sum_more (subst (λ (m : ℕ). Within m (so_far p q l i +ℤ face_vol p (get_or l i []) q)) s r.bound) }

    whole : Reads (most_faces * most_read) (to_z w64 n +ℤ to_z w64 (of_z w64 v)) (so_far p q l (i + 1))
    whole = record { is = next.is; bound = within_more (mul-le-mul_right {n = most_faces} most_read (omega arith)) next.bound }

    pub sum_fits : SFits w64 (to_z w64 n +ℤ to_z w64 (of_z w64 v))
    sum_fits = fits w64 whole tt

    pub summed_more : Summed p q l (i + 1) (of_z w64 (to_z w64 n +ℤ to_z w64 (of_z w64 v)))
    summed_more = record { reads = record { is = (stored w64 whole tt).is; bound = next.bound } }

  pub summed_all : length l ≤ i → q ≡ p 0 → to_z w64 n ≡ volume p l
  unfolding volume
  summed_all h e = g.reads.is ∙ ap (sum_z (λ f. face_vol p f q)) (take_all i l h) ∙ ap (λ (o : Point). sum_z (λ f. face_vol p f o) l) e
