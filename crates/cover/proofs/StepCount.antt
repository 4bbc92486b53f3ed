-- A step counts every clear place as often as before: what the visible faces counted, the cone over their border counts.
use mathlib.Core.Path.{◌≡◌, sym, ◌∙◌, ap}
use mathlib.Core.List.{List, map}
use Prim.Native.Nat.{ℕ}
use lib.Dec.{T}
use lib.IntN.{ℤ, pos, ◌+ℤ◌, +ℤ_comm}
use lib.Signed.{◌<ℤ◌}
use Rattle.laws.specs.Lists.{In, sum_z}
use Rattle.laws.proofs.Members.{in_keep}
use Rattle.laws.proofs.Sums.{sum_append, sum_ext, sum_map, sum_split}
use Rattle.touches.specs.declared.Point.{Point}
use Rattle.rules.specs.Faces.{Face, Places, Side, corner, visible, sides, border}
use Rattle.rules.specs.Building.{cone, seen, unseen, step}
use Rattle.rules.proofs.BorderLaws.{sum_border}
use Rattle.rules.proofs.GrowthLaws.{round, sum_sides}
use Rattle.rules.proofs.Hull.{Hull}
use Rattle.rules.proofs.StepLaws.{seen_once}
use Rattle.cover.specs.Cones.{det}
use Rattle.cover.proofs.Hits.{hit, face_hit, hits, Outward, hit_turned, Clear}
use Rattle.cover.proofs.FaceCount.{face_counts}

module _ {p v : Places} {l done : List ℕ} {h : List Face} {x : Point} (g : Clear v l x) (H : Hull p done h) (k : ℕ) (inside : (t : ℕ) → In t done → In t l) (k-in : In k l)
    (turned : Outward v h)
    (front : (f : Face) → In f h → T (visible p k f) → pos 0 <ℤ (det (v (corner f 1)) (v (corner f 2)) (v k) +ℤ det (v (corner f 2)) (v (corner f 0)) (v k) +ℤ det (v (corner f 0)) (v (corner f 1)) (v k))) where
  -- the cone over a side to k
  fan : Side → ℤ
  fan s = hit x (v s.from) (v s.to) (v k)

  seen_hits : hits v x (seen p h k) ≡ sum_z fan (sides (seen p h k))
  unfolding seen fan
  seen_hits = sum_ext (face_hit v x) (round fan) (seen p h k) by_face ∙ sum_sides fan (seen p h k)
    where
      by_face : (f : Face) → In f (seen p h k) → face_hit v x f ≡ round fan f
      by_face f m = let i = in_keep (visible p k) h m in let c = H.corners f i.0 in
          face_counts g (corner f 0) (corner f 1) (corner f 2) k (inside (corner f 0) c.a) (inside (corner f 1) c.b) (inside (corner f 2) c.c) k-in (turned f i.0) (front f i.0 i.1)

  border_hits : sum_z fan (sides (seen p h k)) ≡ sum_z fan (border (seen p h k))
  unfolding fan
  border_hits = sum_border (seen p h k) fan (λ s i. hit_turned x (v s.from) (v s.to) (v k)) (seen_once H k)

  old_hits : hits v x h ≡ hits v x (seen p h k) +ℤ hits v x (unseen p h k)
  unfolding seen unseen
  old_hits = sum_split (face_hit v x) (visible p k) h

  new_hits : hits v x (step p h k) ≡ hits v x (unseen p h k) +ℤ sum_z fan (border (seen p h k))
  unfolding step fan
  new_hits =
      sum_append (face_hit v x) (unseen p h k) (map (cone k) (border (seen p h k)))
      ∙ ap (λ (z : ℤ). hits v x (unseen p h k) +ℤ z) (sum_map (face_hit v x) (cone k) (border (seen p h k)))

  pub step_count : hits v x (step p h k) ≡ hits v x h
  step_count = new_hits ∙ ap (λ (z : ℤ). hits v x (unseen p h k) +ℤ z) (sym (seen_hits ∙ border_hits)) ∙ +ℤ_comm (hits v x (unseen p h k)) (hits v x (seen p h k)) ∙ sym old_hits
