-- Demand 2 of building: what an accepted call gives and leaves, and which list is refused as flat.
use mathlib.Core.Path.{◌≡◌, sym, ap, subst, ◌∙◌}
use mathlib.Core.Logic.{◌↔◌, inl, inr}
use mathlib.Core.Bool.{true}
use mathlib.Core.List.{List}
use mathlib.Core.Option.{some}
use Prim.Native.Nat.{ℕ, ◌*◌, ◌≤◌}
use native.Mathlib.Omega.{arith}
use lib.IntN.{ℤ, pos}
use lib.Signed.{◌<ℤ◌}
use lib.ListN.{length, drop}
use Rattle.std.specs.Prelude.{Err}
use Rattle.laws.proofs.Tables.{length_lay, lay_rest}
use Rattle.touches.specs.declared.Point.{Point}
use Rattle.touches.specs.declared.refusal.Refusal.TheVariants.{AllTouchesOnOnePlane, FaceTableTooSmall}
use Rattle.touches.specs.Limits.{most_touches, place_in_range}
use Rattle.touches.specs.Touches.{touch, touch_count, Sound}
use Rattle.touches.proofs.SoundLaws.{sound_accepted}
use Rattle.rules.specs.Faces.{Face}
use Rattle.rules.specs.Building.{volume}
use Rattle.rules.specs.Placing.{lies}
use Rattle.rules.specs.Demands.{Surface}
use Rattle.rules.proofs.Theorems.{flat_exact, hull_surface, accepted_few}
use Rattle.cover.specs.Room.{enough}
use Rattle.cover.proofs.Theorems.{hull_no_overlap, hull_few}
use Rattle.table.specs.Table.{stride, room, lent, first_faces, faces_in}
use Rattle.table.proofs.LentLaws.{length_lent}
use Rattle.hull.specs.Build.{built, built_count}
use Rattle.hull.specs.Place.{placed_by, placed}
use Rattle.hull.proofs.Inversion.{Inverted}
use Rattle.hull.proofs.CallLaws.{hull_back, call_places}
use Rattle.demands.specs.Demands.{AllFlat, NoRoom, build_order, after_build, front, triangles, place, IsHull}
use Rattle.demands.proofs.ListLaws.{none_applies}
use Rattle.demands.proofs.CallFirsts.{build_first}

-- ---- building was accepted
module _ {cs : List ℤ} {old : List ℕ} {n : ℕ} {v : ℤ} {h : List Face} (i : Inverted cs old n v h) where
  pub by_count : front cs old ≡ first_faces n (after_build cs old)
  by_count = ap (λ (m : ℕ). first_faces m (after_build cs old)) (ap built_count i.answer)

  pub front_is : front cs old ≡ lent h
  front_is = by_count ∙ i.part

  pub place_is : (q : Point) → place_in_range q ≡ true → place cs old q ≡ placed_by (lies (touch cs) h q)
  place_is q w = ap (λ (t : List ℕ). placed cs t q) by_count ∙ call_places i q w

  pub triangles_are : triangles cs old ≡ h
  triangles_are = ap faces_in front_is ∙ hull_back i.sound i.is

  surface : Surface (touch cs) (touch_count cs) (triangles cs old)
  surface = hull_surface (touch cs) (touch_count cs) (i.is ∙ ap some (sym triangles_are))

  sum_is : v ≡ volume (touch cs) (triangles cs old)
  sum_is = i.sum ∙ ap (volume (touch cs)) (sym triangles_are)

  numbers_are : n * stride ≡ length (lent h)
  numbers_are = ap (λ (m : ℕ). m * stride) i.count ∙ sym (length_lent h)

  rest_is : drop (n * stride) (after_build cs old) ≡ drop (n * stride) old
  rest_is = rw (i.table, numbers_are) (lay_rest (lent h) old)

  long_is : length (after_build cs old) ≡ length old
  long_is = ap length i.table ∙ length_lay 0 (lent h) old (omega (arith, length_lent h, i.fits))

  pub is_hull : IsHull cs old n v
  is_hull = record {
    textbook = i.is ∙ ap some (sym triangles_are);
    closed = surface.closed;
    behind = surface.behind;
    corners = surface.corners;
    off_line = surface.off_line;
    no_overlap = hull_no_overlap (touch cs) (touch_count cs) (i.is ∙ ap some (sym triangles_are));
    count = i.count ∙ ap length (sym triangles_are);
    fits = omega (arith, i.count, i.fits);
    few = omega (arith, i.count, hull_few (touch cs) (touch_count cs) i.is);
    most = omega (arith, i.count, hull_few (touch cs) (touch_count cs) i.is, accepted_few i.sound);
    sum = sum_is;
    positive = subst (λ (z : ℤ). pos 0 <ℤ z) (sym sum_is) surface.positive;
    rest = rest_is;
    long = long_is;
  }

-- ---- refused as flat
module _ (cs : List ℤ) (old : List ℕ) where
  pub flat_to : built cs old ≡ Err AllTouchesOnOnePlane → Sound cs × AllFlat cs
  flat_to e = go ((build_first cs old AllTouchesOnOnePlane).0 e)
    where
      go : build_order cs old AllTouchesOnOnePlane → Sound cs × AllFlat cs
      go (inl u) = absurd (omega (arith, u.0))
      go (inr (a, inl u)) = absurd (omega (arith, u.0))
      go (inr (a, inr (b, inl u))) = absurd (omega (arith, u.0))
      go (inr (a, inr (b, inr (c, inl u)))) = (none_applies cs a b c, u.1.1)
      go (inr (a, inr (b, inr (c, inr (d, inl u))))) = absurd (omega (arith, u.0))
      go (inr (a, inr (b, inr (c, inr (d, inr u))))) = absurd u.1

  flat_from : Sound cs × AllFlat cs → built cs old ≡ Err AllTouchesOnOnePlane
  flat_from u = rw (sound_accepted cs u.0, (flat_exact (touch cs) (touch_count cs)).1 u.1)

  pub flat_is : (built cs old ≡ Err AllTouchesOnOnePlane) ↔ (Sound cs × AllFlat cs)
  flat_is = (flat_to, flat_from)

-- ---- refused for want of room
module _ (cs : List ℤ) (old : List ℕ) where
  no_room : built cs old ≡ Err FaceTableTooSmall → Sound cs × NoRoom cs old
  no_room e = go ((build_first cs old FaceTableTooSmall).0 e)
    where
      go : build_order cs old FaceTableTooSmall → Sound cs × NoRoom cs old
      go (inl u) = absurd (omega (arith, u.0))
      go (inr (a, inl u)) = absurd (omega (arith, u.0))
      go (inr (a, inr (b, inl u))) = absurd (omega (arith, u.0))
      go (inr (a, inr (b, inr (c, inl u)))) = absurd (omega (arith, u.0))
      go (inr (a, inr (b, inr (c, inr (d, inl u))))) = (none_applies cs a b c, u.1.1)
      go (inr (a, inr (b, inr (c, inr (d, inr u))))) = absurd u.1

  pub room_enough : enough (touch_count cs) ≤ room old → built cs old ≡ Err FaceTableTooSmall → ⊥
  room_enough l e = let u = (no_room e).1 in omega (arith, u.2, hull_few (touch cs) (touch_count cs) u.1)

  pub room_always : enough most_touches ≤ room old → built cs old ≡ Err FaceTableTooSmall → ⊥
  room_always l e = room_enough (omega (arith, accepted_few (no_room e).0)) e
