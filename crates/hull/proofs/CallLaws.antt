-- Building and then placing: the part of the table that building wrote, handed to the placing call, answers for the hull.
use Rattle.std.specs.Prelude.{Ok}
use mathlib.Core.Path.{◌≡◌, refl, sym, ap, ◌∙◌}
use mathlib.Core.Bool.{true}
use mathlib.Core.List.{List, [], ◌∷◌}
use mathlib.Core.Option.{some}
use Prim.Native.Nat.{ℕ, ◌<◌}
use native.Mathlib.Omega.{arith}
use lib.IntN.{ℤ, pos}
use lib.Signed.{◌<ℤ◌, <ℤ_irrefl}
use lib.ListN.{length}
use Rattle.laws.specs.Lists.{In}
use Rattle.touches.specs.declared.FaceNo.{FaceNo}
use Rattle.touches.specs.declared.Point.{Point}
use Rattle.touches.specs.Limits.{place_in_range}
use Rattle.touches.specs.Touches.{touch, touch_count, face_no, Sound}
use Rattle.touches.proofs.SoundLaws.{sound_accepted}
use Rattle.rules.specs.Faces.{Face, Places}
use Rattle.rules.specs.Building.{volume}
use Rattle.rules.specs.Placing.{Lies, outside, on, inside, astray, lies}
use Rattle.rules.specs.Demands.{FaceOf}
use Rattle.rules.proofs.Theorems.{hull_surface}
use Rattle.table.specs.Table.{lent, first_faces, faces_in, usable}
use Rattle.table.proofs.UsableLaws.{faces_back, lent_usable}
use Rattle.hull.specs.Build.{hull_of, built, table_after}
use Rattle.hull.specs.Place.{placed_by, placed}
use Rattle.hull.specs.declared.place.Placed.TheVariants.{Outside, On, Inside}
use Rattle.hull.proofs.BuildLaws.{hull_most}
use Rattle.hull.proofs.PlaceLaws.{place_looked}
use Rattle.hull.proofs.Inversion.{Inverted}

filled : (p : Places) (h : List Face) → pos 0 <ℤ volume p h → 0 < length h
unfolding volume
filled p [] v = absurd (<ℤ_irrefl v)
filled p (f ∷ h) v = omega arith

-- a list that is not flat, of touches that passed refusals 1 to 3, and its hull
module _ {cs : List ℤ} (d : Sound cs) {h : List Face} (e : hull_of cs ≡ some h) where
  faces : (f : Face) → In f h → FaceOf cs f
  faces = (hull_surface (touch cs) (touch_count cs) e).corners

  pub hull_back : faces_in (lent h) ≡ h
  hull_back = faces_back cs h faces

  pub hull_usable : usable (touch_count cs) (lent h) ≡ true
  hull_usable = lent_usable cs h faces (filled (touch cs) h (hull_surface (touch cs) (touch_count cs) e).positive) (hull_most d e)

-- building was accepted: against the part of the table that it wrote, the placing call tells where q lies against the hull
module _ {cs : List ℤ} {old : List ℕ} {n : ℕ} {v : ℤ} {h : List Face} (i : Inverted cs old n v h) where
  pub call_places : (q : Point) → place_in_range q ≡ true → placed cs (first_faces n (table_after (built cs old) (hull_of cs) old)) q ≡ placed_by (lies (touch cs) h q)
  call_places q w =
      ap (λ (t : List ℕ). placed cs t q) i.part
      ∙ sym (place_looked cs (lent h) q (sound_accepted cs i.sound) (hull_usable i.sound i.is) w (ap (λ (g : List Face). placed_by (lies (touch cs) g q)) (sym (hull_back i.sound i.is))))

-- ---- from the call's answer back to the rules'
pub by_inside : (l : Lies) → placed_by l ≡ Ok Inside → l ≡ inside
by_inside (outside f d) e = cc
by_inside (on f) e = cc
by_inside inside e = refl
by_inside astray e = cc

pub by_on : (l : Lies) {f : FaceNo} → placed_by l ≡ Ok (On f) → l ≡ on f.0
by_on (outside g d) {f} e = cc
by_on (on g) {f} e = let t : face_no g ≡ f = cc in ap (λ (x : FaceNo). on x.0) t
by_on inside {f} e = cc
by_on astray {f} e = cc

pub by_outside : (l : Lies) {f : FaceNo} {d : ℤ} → placed_by l ≡ Ok (Outside f d) → l ≡ outside f.0 d
by_outside (outside g c) {f} {d} e = let t : face_no g ≡ f = cc in let s : c ≡ d = cc in λ i. outside (t i).0 (s i)
by_outside (on g) {f} {d} e = cc
by_outside inside {f} {d} e = cc
by_outside astray {f} {d} e = cc
