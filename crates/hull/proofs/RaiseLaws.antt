-- The faces of a table as touch after touch is taken: they stay faces over the touches, and there is room for them.
use mathlib.Core.Path.{◌≡◌, refl, sym, ap, ◌∙◌}
use mathlib.Core.Bool.{true, false}
use mathlib.Core.List.{List, []}
use mathlib.Core.Option.{Option, none, some}
use Prim.Native.Nat.{ℕ, ◌+◌, ◌<◌, ◌≤◌}
use native.Mathlib.Omega.{arith}
use lib.IntN.{ℤ}
use lib.ListN.{length, take, get_or}
use lib.Seq.{get_or-take}
use Rattle.std.specs.Prelude.{None}
use Rattle.laws.specs.Lists.{In, Laid}
use Rattle.laws.proofs.Members.{get_or_in}
use Rattle.laws.proofs.Tables.{laid_first}
use Rattle.touches.specs.Touches.{touch, touch_count}
use Rattle.rules.specs.Faces.{Face}
use Rattle.rules.specs.Start.{start, corners, start_faces, is_start, Start as Four}
use Rattle.rules.specs.Building.{step, build, after, others}
use Rattle.rules.proofs.AfterLaws.{others_upto, after_skip, after_step, hull_none}
use Rattle.rules.proofs.Theorems.{start_order, steps_corners}
use Rattle.rules.specs.Demands.{FaceOf}
use Rattle.cover.specs.Room.{enough}
use Rattle.cover.proofs.Theorems.{after_few}
use Rattle.hull.specs.Start.{start_of, started_of, KnownStart}
use Rattle.hull.specs.Build.{hull_of}
use Rattle.hull.specs.Whole.{Planed}
use Rattle.hull.specs.Inner.{Ready, Begun, Taken, Roomy}
use Rattle.points.specs.Whole.{Plane}
use Rattle.hull.specs.declared.start.Start.{Start}

-- ---- the faces after the touches below k
module _ {cs : List ℤ} {s : Four} (b : Begun cs s) {k : ℕ} (l : k ≤ touch_count cs) where
  after_faces : (f : Face) → In f (after (touch cs) s (others s k)) → FaceOf cs f
  after_faces = steps_corners (touch cs) (touch_count cs) b.begins (others s k) (others_upto s l)

  pub after_room : length (after (touch cs) s (others s k)) ≤ enough (touch_count cs)
  after_room = after_few (touch cs) (touch_count cs) b.begins (others s k) (others_upto s l)

-- ---- a touch of the start
pub taken_skip : {cs : List ℤ} {s : Four} {k m : ℕ} {table : List Face} {planes : List Plane} → Taken cs s k m table planes → is_start s k ≡ true → Taken cs s (k + 1) m table planes
taken_skip {cs} {s} {k} t e = let h = after_skip (touch cs) s k e in record { count = t.count ∙ ap length (sym h); faces = t.faces ∙ sym h; planed = t.planed }

-- ---- one touch
module _ {cs : List ℤ} {s : Four} {k m : ℕ} {table : List Face} {planes : List Plane} (t : Taken cs s k m table planes) where
  pub taken_ready : Begun cs s → {j : ℕ} → k ≤ touch_count cs → j < touch_count cs → Ready cs (take m table) j
  taken_ready b l h = rw t.faces (record { faces = after_faces b l; touch = h })

  module _ (e : is_start s k ≡ false) where
    step_is : step (touch cs) (take m table) k ≡ after (touch cs) s (others s (k + 1))
    step_is = ap (λ (h : List Face). step (touch cs) h k) t.faces ∙ sym (after_step (touch cs) s k e)

    pub step_room : {w : ℕ} → Begun cs s → k < touch_count cs → Roomy cs (length table) w → length (step (touch cs) (take m table) k) ≤ length table
    step_room b l w = omega (arith, ap length step_is, after_room b {k = k + 1} (omega arith), w.room)

    pub taken_step : {r : ℕ} {next : List Face} {beside : List Plane} → Laid 0 (step (touch cs) (take m table) k) table r next → Planed cs r next beside → Taken cs s (k + 1) r next beside
    taken_step g p = record { count = omega (arith, g.next) ∙ ap length step_is; faces = laid_first g ∙ step_is; planed = p }

-- ---- the start
start_none : (o : Option Four) → None ≡ started_of o → o ≡ none
start_none none e = refl
start_none (some s) e = cc

module _ (cs : List ℤ) {n : ℕ} (c : n ≡ touch_count cs) where
  pub hull_flat : None ≡ started_of (start (touch cs) n) → hull_of cs ≡ none
  hull_flat e = hull_none (touch cs) (touch_count cs) (rw c at (start_none (start (touch cs) n) e))

pub known_start : {cs : List ℤ} (f : Start) → Begun cs (start_of f) → KnownStart (touch_count cs) f
known_start {cs} f b = let o = start_order (touch cs) (touch_count cs) b.begins in record { p = omega (arith, o); q = omega (arith, o); r = omega (arith, o); s = omega (arith, o) }

pub taken_room : {cs : List ℤ} {s : Four} {k m n w : ℕ} {table : List Face} {planes : List Plane} → Begun cs s → Roomy cs n w → Taken cs s k m table planes → k ≤ touch_count cs → m ≤ n
taken_room b w t l = omega (arith, t.count, after_room b l, w.room)

pub start_room : {cs : List ℤ} {s : Four} {n w : ℕ} → Begun cs s → Roomy cs n w → 4 ≤ n
unfolding build
start_room b w = omega (arith, after_room b {k = 0} (omega arith), w.room)

-- the faces of the start are over the touches
pub start_faces_lem : {cs : List ℤ} {s : Four} {m : ℕ} {old table : List Face} → Begun cs s → Laid 0 (start_faces (corners (touch cs) s)) old m table → (j : ℕ) → j < m → FaceOf cs (get_or table j [])
unfolding build
start_faces_lem {cs} {s} {m} {old} {table} b g j h = rw (← get_or-take m table j [] h, laid_first g) (after_faces b {k = 0} (omega arith) (get_or (start_faces (corners (touch cs) s)) j []) (get_or_in (start_faces (corners (touch cs) s)) j [] (omega (arith, g.next))))

pub taken_start : {cs : List ℤ} {s : Four} {m : ℕ} {old table : List Face} {planes : List Plane} → Laid 0 (start_faces (corners (touch cs) s)) old m table → Planed cs m table planes → Taken cs s 0 m table planes
unfolding build
taken_start g p = record { count = omega (arith, g.next); faces = laid_first g; planed = p }
