-- What the inner steps of building and placing take for granted, and what they leave.
use Rattle.touches.specs.declared.refusal.Refusal.{Refusal}
use Rattle.std.specs.Prelude.{Result, Ok, Err}
use Rattle.std.specs.Prelude.{◌≡◌, Bool, List, ℕ, ◌<◌, ◌≤◌, ℤ, pos, neg_ℤ, length, take}
use Rattle.std.specs.Prelude.{Option, Some, None}
use Rattle.std.proofs.Math.Option.{Option as Maybe, some}
use Rattle.std.specs.Int.Signed.{lt_z}
use Rattle.laws.specs.Lists.{In, Laid}
use Rattle.touches.specs.declared.refusal.Refusal.TheVariants.{PlaceInNoTriangle}
use Rattle.touches.specs.declared.Point.{Point}
use Rattle.touches.specs.declared.FaceNo.{FaceNo}
use Rattle.touches.specs.Touches.{touch_count, touch}
use Rattle.touches.specs.Check.{pick}
use Rattle.rules.specs.Faces.{Face, face_vol}
use Rattle.rules.specs.Start.{Start, start}
use Rattle.rules.specs.Building.{seen, unseen, after, others}
use Rattle.rules.specs.Demands.{FaceOf}
use Rattle.cover.specs.Room.{enough}
use Rattle.table.specs.Table.{room}
use Rattle.points.specs.Whole.{Plane}
use Rattle.hull.specs.Whole.{Planed}
use Rattle.hull.specs.Build.{built_from, table_after}
use Rattle.hull.specs.declared.build.Hull.{Hull}
use Rattle.hull.specs.declared.place.Worst.{Worst}
use Rattle.hull.specs.declared.place.Placed.{Placed}
use Rattle.hull.specs.declared.place.Placed.TheVariants.{Outside, On, Inside}

-- q is strictly in front of face f
abbrev pub in_front : List ℤ → Point → Face → Bool
in_front cs q f = lt_z (face_vol (touch cs) f q) (pos 0)

-- faces over the touches and one of the touches
pub record Ready (cs : List ℤ) (h : List Face) (k : ℕ) : Type 0 where
  pub faces : (f : Face) → In f h → FaceOf cs f
  pub touch : k < touch_count cs

-- the faces h parted: the first m of the table kept, over old, are those not visible from k, and the first s of the table front the others
pub record PartOf (cs : List ℤ) (h : List Face) (k : ℕ) (old : List Face) (m : ℕ) (kept : List Face) (s : ℕ) (front : List Face) : Type 0 where
  pub stay : Laid 0 (unseen (touch cs) h k) old m kept
  pub gone : take s front ≡ seen (touch cs) h k
  pub count : s ≡ length (seen (touch cs) h k)

-- s is the start of the touches
pub record Begun (cs : List ℤ) (s : Start) : Type 0 where
  pub begins : start (touch cs) (touch_count cs) ≡ some s

-- the first m faces of a table are those after the start s and the other touches below k, and have their planes
pub record Taken (cs : List ℤ) (s : Start) (k m : ℕ) (table : List Face) (planes : List Plane) : Type 0 where
  pub count : m ≡ length (after (touch cs) s (others s k))
  pub faces : take m table ≡ after (touch cs) s (others s k)
  pub planed : Planed cs m table planes

-- tables of n faces, with marks for w touches, have room for every face list of every step over the touches cs
pub record Roomy (cs : List ℤ) (n w : ℕ) : Type 0 where
  pub room : enough (touch_count cs) ≤ n
  pub width : w ≡ touch_count cs

-- what building gives and leaves in the lent table: one contract, whatever tables it works in; h is the face list
pub record Builds (cs : List ℤ) (h : Maybe (List Face)) (old : List ℕ) (r : Result Hull Refusal) (after : List ℕ) : Type 0 where
  pub answer : r ≡ built_from (touch cs) (room old) h
  pub table : after ≡ table_after r h old

-- is V, at v, less than that of the worst face so far, and than 0
abbrev pub is_worse : Option Worst → ℤ → Bool
is_worse None v = lt_z v (pos 0)
is_worse (Some w) v = lt_z v w.v

-- the worst face once f is looked at, with its V
abbrev pub worse : Option Worst → FaceNo → ℤ → Option Worst
worse w f v = pick (is_worse w v) (Some (record { face = f; v = v })) w

-- a face in front comes before one that holds the place, and that before one whose plane does
abbrev pub settled : Option Worst → Option FaceNo → Option FaceNo → Result Placed Refusal
settled (Some w) o e = Ok (Outside w.face (neg_ℤ w.v))
settled None (Some f) e = Ok (On f)
settled None None (Some f) = Err PlaceInNoTriangle
settled None None None = Ok Inside
