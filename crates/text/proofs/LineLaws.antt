-- A line of three fields, laid a field at a time.
use mathlib.Core.Path.{◌≡◌}
use mathlib.Core.List.{List, [], ◌∷◌, ◌++◌, append_assoc}
use Prim.Native.Nat.{ℕ, ◌≤◌}
use lib.ListN.{length}
use Rattle.laws.specs.Lists.{Laid}
use Rattle.laws.proofs.Tables.{laid_then}
use Rattle.text.specs.Decimal.{space, newline, line}

regroup : (a b c : List ℕ) → a ++ (space ∷ []) ++ (b ++ (space ∷ [])) ++ (c ++ (newline ∷ [])) ≡ line (a ∷ b ∷ c ∷ [])
regroup a b c = simp append_assoc

pub laid_line : {at r s t : ℕ} {old first second after : List ℕ} (a b c : List ℕ) → at ≤ length old
    → Laid at (a ++ (space ∷ [])) old r first → Laid r (b ++ (space ∷ [])) first s second → Laid s (c ++ (newline ∷ [])) second t after
    → Laid at (line (a ∷ b ∷ c ∷ [])) old t after
laid_line a b c h p q u = rw (regroup a b c) at (laid_then (laid_then p h q) h u)
