-- A list copied into a part of a table.
use mathlib.Core.Path.{◌≡◌}
use mathlib.Core.List.{List, ◌++◌, append_assoc}
use Prim.Native.Nat.{ℕ, ◌+◌}
use native.Mathlib.Omega.{arith}
use borrow.Rule.Slice.PartMut.{put_mid}
use lib.ListN.{length, take, drop}
use lib.Seq.{drop-drop}
use Rattle.laws.specs.Lists.{lay}

-- into the part that begins at `at` and is k long
pub put_is : {A : Type 0} (at k : ℕ) (new old : List A) → length new ≡ k → put_mid at k old new ≡ lay at new old
unfolding lay
put_is at k new old h = rw (h, ← drop-drop k at old, append_assoc (take at old) new (drop k (drop at old)))

-- into the first k
pub front_is : {A : Type 0} (k : ℕ) (new old : List A) → length new ≡ k → new ++ drop k old ≡ lay 0 new old
unfolding lay
front_is k new old h = let z : 0 + k ≡ k = omega arith in rw (h, z)
