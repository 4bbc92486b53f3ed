-- What demands 2 and 3 say, as definitions over any face list.
use Rattle.std.specs.Prelude.{◌≡◌, ◌↔◌, false, not, List, [], ℕ, ◌+◌, ◌≤◌, ◌<◌, T, length, ℤ, pos, ◌≤ℤ◌, ◌<ℤ◌}
use Rattle.std.proofs.Math.Option.{Option, none, some}
use Rattle.std.specs.Int.Signed.{lt_z}
use Rattle.laws.specs.Lists.{In, Nodup, first_from, FirstAt, LeastAt}
use Rattle.touches.specs.declared.Point.{Point}
use Rattle.touches.specs.Touches.{touch_count}
use Rattle.volume.specs.Volume.{Vol, in_line, is_zero}
use Rattle.rules.specs.Faces.{Face, Places, corner, Side, reversed, face_vol, sides}
use Rattle.rules.specs.Start.{start}
use Rattle.rules.specs.Building.{volume}
use Rattle.rules.specs.Placing.{Lies, outside, on, inside, astray, holds}

-- every four of the first n touches have V = 0
abbrev pub Flat : Places → ℕ → Type 0
Flat p n = (a b c d : ℕ) → a < n → b < n → c < n → d < n → Vol (p a) (p b) (p c) (p d) ≡ pos 0

-- every directed side occurs once and its reverse once
pub record Closed (h : List Face) : Type 0 where
  pub once : Nodup (sides h)
  pub back : (s : Side) → In s (sides h) → In (reversed s) (sides h)

-- f is three numbers, each in M
pub record CornersIn (M : ℕ → Type 0) (f : Face) : Type 0 where
  pub three : length f ≡ 3
  pub a : M (corner f 0)
  pub b : M (corner f 1)
  pub c : M (corner f 2)

-- f is a face over the touches of a coordinate list
abbrev pub FaceOf : List ℤ → Face → Type 0
FaceOf cs f = CornersIn (λ k. k < touch_count cs) f

-- q is behind every face
abbrev pub Inside : Places → List Face → Point → Type 0
Inside p h q = (f : Face) → In f h → pos 0 <ℤ face_vol p f q

-- q is on or behind every face
abbrev pub OnOrInside : Places → List Face → Point → Type 0
OnOrInside p h q = (f : Face) → In f h → pos 0 ≤ℤ face_vol p f q

-- q is on the plane of a face
abbrev pub OnPlane : Places → List Face → Point → Type 0
OnPlane p h q = (f : Face) × In f h × (face_vol p f q ≡ pos 0)

-- q is in front of a face
abbrev pub Outside : Places → List Face → Point → Type 0
Outside p h q = (f : Face) × In f h × (face_vol p f q <ℤ pos 0)

-- 02 A7: face number i is the worst, with V at v: no face has less, and every face before it has more
abbrev pub Worst : Places → List Face → Point → ℕ → ℤ → Type 0
Worst p h q i v = LeastAt (λ f. face_vol p f q) [] h i v

-- 02 A5: face number i is the first that holds q
abbrev pub FirstHolding : Places → List Face → Point → ℕ → Type 0
FirstHolding p h q i = FirstAt (λ f. holds p f q) [] h i

-- q is in front of no face, on the plane of some, and held by none
abbrev pub Astray : Places → List Face → Point → Type 0
Astray p h q = OnOrInside p h q × OnPlane p h q × ((f : Face) → In f h → T (not (holds p f q)))

-- 01's three cases, without face numbers: in front of some face, else on the plane of some face, else neither
pub data Case : Type 0 where
  outside_case on_case inside_case : Case

abbrev pub by_firsts : Option ℕ → Option ℕ → Case
by_firsts (some f) o = outside_case
by_firsts none (some f) = on_case
by_firsts none none = inside_case

abbrev pub case_before : Places → List Face → Point → Case
case_before p h q = by_firsts (first_from (λ f. lt_z (face_vol p f q) (pos 0)) 0 h) (first_from (λ f. is_zero (face_vol p f q)) 0 h)

abbrev pub case_of : Lies → Case
case_of (outside i d) = outside_case
case_of (on i) = on_case
case_of inside = inside_case
case_of astray = on_case

-- demand 2: h is a closed surface over the first n touches, no touch is in front of it, and it has a body
pub record Surface (p : Places) (n : ℕ) (h : List Face) : Type 0 where
  pub closed : Closed h
  pub corners : (f : Face) → In f h → CornersIn (λ t. t < n) f
  pub behind : (t : ℕ) → t < n → OnOrInside p h (p t)
  pub body : (f : Face) → In f h → (t : ℕ) × (t < n) × (pos 0 <ℤ face_vol p f (p t))
  pub off_line : (f : Face) → In f h → in_line (p (corner f 0)) (p (corner f 1)) (p (corner f 2)) ≡ false
  pub positive : pos 0 <ℤ volume p h

-- demand 3: h is the face list of n touches, at p, and g that of these and m more, at r
pub record Growth (p r : Places) (n m : ℕ) (h g : List Face) : Type 0 where
  pub begins : start r (n + m) ≡ start p n
  pub inside : (q : Point) → Inside p h q → Inside r g q
  pub on : (q : Point) → OnOrInside p h q → OnOrInside r g q
  pub keeps : volume p h ≤ℤ volume r g
  pub rises : (volume p h <ℤ volume r g) ↔ ((t : ℕ) × (n ≤ t) × (t < n + m) × Outside p h (r t))
  pub same : ((t : ℕ) → n ≤ t → t < n + m → OnOrInside p h (r t)) → g ≡ h
