-- Text that fits is laid whole.
use mathlib.Core.Path.{◌≡◌, refl}
use mathlib.Core.List.{List, append_assoc}
use Prim.Native.Nat.{ℕ, ◌+◌, ◌-◌, ◌<◌, ◌≤◌}
use native.Mathlib.Omega.{arith}
use borrow.Author.Tests.{le-leb, lt-leb}
use lib.ListN.{length}
use lib.Seq.{drop-drop}
use borrow.Rule.Slice.PartMut.{put_mid}
use Rattle.laws.specs.Lists.{lay, Laid}
use Rattle.laws.proofs.Tables.{laid_none}
use Rattle.text.specs.Room.{Put}

module _ {at r : ℕ} {new old after : List ℕ} where
  pub put_laid : at + length new ≤ length old → Put at new old r after → Laid at new old r after
  put_laid h p = rw (le-leb (at + length new) (length old) h) at p.laid

pub put_none : (at : ℕ) (new old : List ℕ) → length old < at + length new → Put at new old at old
put_none at new old h = record { laid = rw (lt-leb (at + length new) (length old) h) (laid_none at old) }

-- text copied into its part of the table
pub put_written : {at : ℕ} {new old copied : List ℕ} → at + length new ≤ length old → copied ≡ new → Put at new old (at + length new) (put_mid at (at + length new - at) old copied)
unfolding lay
put_written {at} {new} {old} h e =
    let n : at + length new - at ≡ length new = omega arith in
    rw (n, e, drop-drop, ← append_assoc) (record { laid = rw (le-leb (at + length new) (length old) h) (record { next = refl; table = refl }) })
