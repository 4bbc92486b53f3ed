-- The listing of a record, by what the reading call gave.
use Rattle.std.specs.Prelude.{Result, Ok, Err}
use mathlib.Core.Path.{◌≡◌, sym, ap, ◌∙◌}
use mathlib.Core.List.{List}
use Prim.Native.Nat.{ℕ, ◌*◌, ◌<◌, ◌≤◌}
use borrow.Author.Tests.{le-leb, lt-leb}
use lib.IntN.{ℤ}
use lib.ListN.{length, take}
use Rattle.touches.specs.Limits.{most_touches}
use Rattle.touches.specs.declared.refusal.Refusal.TheVariants.{RecordLengthWrong}
use Rattle.touches.specs.declared.refusal.Refusal.{Refusal}
use Rattle.records.specs.Record.{plain_version}
use Rattle.records.specs.Answers.{read_of, ReadGives}
use Rattle.records.proofs.CopyLaws.{read_touches}
use Rattle.lister.specs.Listing.{most_bytes, refused_line, hull_text, read_text, listing}

pub many_text : (r : List ℕ) → most_bytes < length r → listing r ≡ refused_line RecordLengthWrong
unfolding listing
many_text r h = rw (lt-leb (length r) most_bytes h)

-- what the reading call promises of a coordinate list with room for 64 touches
module _ {r : List ℕ} {a : Result ℕ Refusal} {old read : List ℤ} (few : length r ≤ most_bytes) (gives : ReadGives plain_version r old a read) (wide : length old ≡ most_touches * 3) where
  text_of : {b : Result ℕ Refusal} → a ≡ b → listing r ≡ read_text r b
  unfolding listing
  text_of f = rw (le-leb (length r) most_bytes few) (ap (read_text r) (sym (gives.answer ∙ ap (read_of plain_version r) wide) ∙ f))

  pub refused_text : {x : Refusal} → a ≡ Err x → listing r ≡ refused_line x
  refused_text f = text_of f

  pub touches_text : {n : ℕ} → a ≡ Ok n → listing r ≡ hull_text (take (n * 3) read)
  touches_text f = text_of f ∙ ap hull_text (sym (read_touches gives f))
