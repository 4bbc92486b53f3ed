-- Refusal 6's test: what a table that passed it has, and that a face list over the touches passes it.
use mathlib.Core.Path.{◌≡◌, refl, sym, subst}
use mathlib.Core.Bool.{true, not, ◌&&◌}
use mathlib.Core.List.{List, [], map}
use Prim.Native.Nat.{ℕ, zero, suc, ◌+◌, ◌*◌, ◌/◌, ◌%◌, ◌<◌, ◌≤◌}
use native.Mathlib.Omega.{arith}
use borrow.Author.Tests.{eq-eqb, ne_eqb, le-leb}
use lib.Dec.{T, eqb, leb, ltb, eqb→eq, leb→le, ltb→lt, lt→ltb}
use lib.IntN.{ℤ}
use lib.ListN.{length, get_or}
use Rattle.laws.specs.Lists.{In, every, upward}
use Rattle.laws.proofs.Tests.{T_of, is_true, and_both, both_and}
use Rattle.laws.proofs.Members.{in_map, every_at, every_all}
use Rattle.laws.proofs.Firsts.{in_upward}
use Rattle.touches.specs.Limits.{most_faces}
use Rattle.touches.specs.Touches.{touch_count}
use Rattle.rules.specs.Faces.{Face, corner}
use Rattle.rules.specs.Demands.{FaceOf}
use Rattle.table.specs.Table.{stride, room, lent, face_at, faces_in, among, usable}
use Rattle.table.proofs.TableLaws.{length_faces, face_at_lem}
use Rattle.table.proofs.LentLaws.{length_lent, lent_back}

-- the four parts of the test
by_parts : (n : ℕ) (t : List ℕ) → 0 < length t → length t % stride ≡ 0 → room t ≤ most_faces → T (every (among n) (faces_in t)) → usable n t ≡ true
unfolding usable
by_parts n t filled whole few all =
    let d : length t ≡ 0 → ⊥ = λ z. omega arith in
    simp (ne_eqb (length t) 0 d, eq-eqb (length t % stride) 0 whole, le-leb (room t) most_faces few, is_true (every (among n) (faces_in t)) all)

not_zero : (n : ℕ) → T (not (eqb n 0)) → 0 < n
not_zero zero t = absurd t
not_zero (suc n) t = omega arith

module _ (cs : List ℤ) (t : List ℕ) (u : usable (touch_count cs) t ≡ true) where
  parts : T (not (eqb (length t) 0)) × T (eqb (length t % stride) 0) × T (leb (room t) most_faces) × T (every (among (touch_count cs)) (faces_in t))
  unfolding usable
  parts =
      let a = and_both (not (eqb (length t) 0) && eqb (length t % stride) 0 && leb (room t) most_faces) (every (among (touch_count cs)) (faces_in t)) (T_of u) in
      let b = and_both (not (eqb (length t) 0) && eqb (length t % stride) 0) (leb (room t) most_faces) a.0 in
      let c = and_both (not (eqb (length t) 0)) (eqb (length t % stride) 0) b.0 in
      (c.0, c.1, b.1, a.1)

  pub usable_filled : 0 < length t
  usable_filled = not_zero (length t) parts.0

  pub usable_whole : length t % stride ≡ 0
  usable_whole = eqb→eq (length t % stride) 0 parts.1

  pub usable_few : room t ≤ most_faces
  usable_few = leb→le (room t) most_faces parts.2

  pub usable_face : (i : ℕ) → i < room t → FaceOf cs (face_at t i)
  usable_face i h =
      let n = touch_count cs in
      let f = face_at t i in
      let w : T (among n f) = subst (λ (g : Face). T (among n g)) (face_at_lem t i h) (every_at (among n) (faces_in t) i [] (omega (arith, length_faces t)) parts.3) in
      let b = and_both (ltb (corner f 0) n && ltb (corner f 1) n) (ltb (corner f 2) n) w in
      let a = and_both (ltb (corner f 0) n) (ltb (corner f 1) n) b.0 in
      record { three = refl; a = ltb→lt (corner f 0) n a.0; b = ltb→lt (corner f 1) n a.1; c = ltb→lt (corner f 2) n b.1 }

  -- each number of the table is a touch's
  pub usable_number : (i : ℕ) → i < length t → get_or t i 0 < touch_count cs
  usable_number i l = go (i % stride) (omega arith) (omega arith)
    where
      at : {j : ℕ} → get_or t j 0 < touch_count cs → i ≡ j → get_or t i 0 < touch_count cs
      at h e = rw e h

      face : FaceOf cs (face_at t (i / stride))
      face = usable_face (i / stride) (omega (arith, usable_whole))

      go : (m : ℕ) → i ≡ i / stride * stride + m → m < stride → get_or t i 0 < touch_count cs
      go zero e k = at face.a (omega arith)
      go (suc zero) e k = at face.b e
      go (suc (suc zero)) e k = at face.c e
      go (suc (suc (suc m))) e k = absurd (omega arith)

one_among : (n : ℕ) (f : Face) → corner f 0 < n → corner f 1 < n → corner f 2 < n → T (among n f)
one_among n f a b c =
    both_and (ltb (corner f 0) n && ltb (corner f 1) n) (ltb (corner f 2) n) (both_and (ltb (corner f 0) n) (ltb (corner f 1) n) (lt→ltb (corner f 0) n a) (lt→ltb (corner f 1) n b)) (lt→ltb (corner f 2) n c)

-- and a table of whole faces, some and not too many, whose numbers are all touches', passes
module _ (cs : List ℤ) (t : List ℕ) (h : (i : ℕ) → i < length t → get_or t i 0 < touch_count cs) where
  all_among : T (every (among (touch_count cs)) (faces_in t))
  unfolding faces_in
  all_among = every_all (among (touch_count cs)) (map (face_at t) (upward 0 (room t))) one
    where
      one : (f : Face) → In f (map (face_at t) (upward 0 (room t))) → T (among (touch_count cs) f)
      one f m =
          let u = in_map (face_at t) (upward 0 (room t)) m in
          let j = u.0 in
          let k = in_upward 0 (room t) u.1 in
          subst (λ (g : Face). T (among (touch_count cs) g)) (sym u.2)
          (one_among (touch_count cs) (face_at t j) (h (j * stride) (omega (arith, k))) (h (j * stride + 1) (omega (arith, k))) (h (j * stride + 2) (omega (arith, k))))

  pub made_usable : 0 < length t → length t % stride ≡ 0 → room t ≤ most_faces → usable (touch_count cs) t ≡ true
  made_usable filled whole few = by_parts (touch_count cs) t filled whole few all_among

module _ (cs : List ℤ) (h : List Face) (faces : (f : Face) → In f h → FaceOf cs f) where
  pub faces_back : faces_in (lent h) ≡ h
  faces_back = lent_back h (λ f m. (faces f m).three)

  pub lent_usable : 0 < length h → length h ≤ most_faces → usable (touch_count cs) (lent h) ≡ true
  lent_usable k m =
      let n = length_lent h in
      let all = every_all (among (touch_count cs)) h (λ f i. one_among (touch_count cs) f (faces f i).a (faces f i).b (faces f i).c) in
      by_parts (touch_count cs) (lent h) (omega arith) (omega arith) (omega arith) (subst (λ (g : List Face). T (every (among (touch_count cs)) g)) (sym faces_back) all)
