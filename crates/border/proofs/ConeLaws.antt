-- The cone over the border of the visible faces, a side and a face at a time.
use mathlib.Core.Path.{◌≡◌, refl, ap, ◌∙◌}
use mathlib.Core.Bool.{Bool, true, false, not}
use mathlib.Core.List.{List, [], ◌∷◌, ◌++◌, map}
use Prim.Native.Nat.{ℕ, ◌+◌, ◌<◌, ◌≤◌}
use native.Mathlib.Numerals.{add-one}
use native.Mathlib.Omega.{arith}
use lib.ListN.{length, take, drop, get_or, length-append, take-append-drop}
use lib.Seq.{take-suc, take_all}
use Rattle.std.proofs.lemmas.List.{map-append}
use Rattle.laws.specs.Lists.{only_if, keep, has}
use Rattle.laws.proofs.Members.{keep_append, keep_ext}
use Rattle.rules.specs.Faces.{Face, Side, reversed, same_side, sides_of, sides, border}
use Rattle.rules.specs.Building.{cone}
use Rattle.rules.proofs.SideLaws.{in_sides}
use Rattle.rules.proofs.FaceLaws.{side_corners}
use Rattle.border.specs.Marks.{FacesOver, Marked, unmarked}
use Rattle.border.specs.Cone.{cone_side, cone_over, cone_on}

sides_append : (l m : List Face) → sides (l ++ m) ≡ sides l ++ sides m
sides_append [] m = refl
sides_append (f ∷ l) m = ap (λ (t : List Side). sides_of f ++ t) (sides_append l m)

module _ (t : Side → Bool) (k : ℕ) where
  pub over_none : cone_over t k [] ≡ []
  unfolding cone_over
  over_none = refl

  over_append : (l m : List Side) → cone_over t k (l ++ m) ≡ cone_over t k l ++ cone_over t k m
  unfolding cone_over
  over_append l m = ap (map (cone k)) (keep_append t l m) ∙ map-append (cone k) (keep t l) (keep t m)

  over_one : (s : Side) → cone_over t k (s ∷ []) ≡ cone_side t k s
  unfolding cone_over
  over_one s = go (t s)
    where
      go : (x : Bool) → map (cone k) (only_if x s) ≡ only_if x (cone k s)
      go true = refl
      go false = refl

  pub over_more : (l : List Side) (j : ℕ) (d : Side) → j < length l → cone_over t k (take (j + 1) l) ≡ cone_over t k (take j l) ++ cone_side t k (get_or l j d)
  over_more l j d h = rw (add-one, take-suc l j d, over_append (take j l) (get_or l j d ∷ []), over_one (get_or l j d))

  pub cone_none : cone_on t k [] ≡ []
  unfolding cone_on
  cone_none = over_none

  cone_append : (l m : List Face) → cone_on t k (l ++ m) ≡ cone_on t k l ++ cone_on t k m
  unfolding cone_on
  cone_append l m = ap (cone_over t k) (sides_append l m) ∙ over_append (sides l) (sides m)

  pub cone_more : (w : List Face) (i : ℕ) → i < length w → cone_on t k (take (i + 1) w) ≡ cone_on t k (take i w) ++ cone_on t k (get_or w i [] ∷ [])
  cone_more w i h = rw (add-one, take-suc w i [], cone_append (take i w) (get_or w i [] ∷ []))

  -- the sides l of face f, all of them
  pub over_face : (f : Face) {l : List Side} → l ≡ sides_of f → (j : ℕ) → length l ≤ j → cone_over t k (take j l) ≡ cone_on t k (f ∷ [])
  unfolding cone_on
  over_face f {l} e j h = ap (cone_over t k) (take_all j l h ∙ e)

  -- a first part of the sides, or of the faces, has no longer a cone than all
  over_part : (l : List Side) (j : ℕ) → length (cone_over t k (take j l)) ≤ length (cone_over t k l)
  over_part l j = omega (arith, ap (λ (m : List Side). length (cone_over t k m)) (take-append-drop j l), ap length (over_append (take j l) (drop j l)), length-append (cone_over t k (take j l)) (cone_over t k (drop j l)))

  cone_part : (w : List Face) (i : ℕ) → length (cone_on t k (take i w)) ≤ length (cone_on t k w)
  cone_part w i = omega (arith, ap (λ (l : List Face). length (cone_on t k l)) (take-append-drop i w), ap length (cone_append (take i w) (drop i w)), length-append (cone_on t k (take i w)) (cone_on t k (drop i w)))

-- the sides of v whose reverse has no mark are its border
module _ {v : List Face} {marks : List ℕ} {w k : ℕ} (m : Marked w k v marks) (c : FacesOver w v) where
  pub cone_all : (i : ℕ) → length v ≤ i → cone_on (unmarked marks w k) k (take i v) ≡ map (cone k) (border v)
  unfolding cone_on cone_over
  cone_all i h =
      rw (take_all i v h) (ap (map (cone k)) (keep_ext (unmarked marks w k) (λ s. not (has same_side (reversed s) (sides v))) (sides v)
      (λ s j. let f = in_sides v j in let e = side_corners (c f.0 f.1) s f.2 in ap not (m.test s.to s.from e.1 e.0))))

  -- what is laid for the first i faces, and for the next one, is part of it
  pub cone_room : (i : ℕ) → i < length v → length (cone_on (unmarked marks w k) k (take i v)) + length (cone_on (unmarked marks w k) k (get_or v i [] ∷ [])) ≤ length (map (cone k) (border v))
  cone_room i h = let t = unmarked marks w k in
      omega (arith, length-append (cone_on t k (take i v)) (cone_on t k (get_or v i [] ∷ [])), ap length (cone_more t k v i h), cone_part t k v (i + 1), ap (λ (l : List Face). length (cone_on t k l)) (take_all (length v) v (omega arith)), ap length (cone_all (length v) (omega arith)))

  -- and so is what is laid for the first j sides of that one, and for the next side
  pub side_room : (i : ℕ) → i < length v → {l : List Side} → l ≡ sides_of (get_or v i []) → (j : ℕ) (d : Side) → j < length l
      → length (cone_on (unmarked marks w k) k (take i v)) + length (cone_over (unmarked marks w k) k (take j l)) + length (cone_side (unmarked marks w k) k (get_or l j d)) ≤ length (map (cone k) (border v))
  side_room i h {l} e j d g = let t = unmarked marks w k in
      omega (
        arith,
        cone_room i h,
        length-append (cone_over t k (take j l)) (cone_side t k (get_or l j d)),
        ap length (over_more t k l j d g),
        over_part t k l (j + 1),
        ap (λ (m : List Side). length (cone_over t k m)) (take_all (length l) l (omega arith)),
        ap length (over_face t k (get_or v i []) e (length l) (omega arith)),
      )
