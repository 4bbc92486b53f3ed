-- Numbers as text, worked out.
use mathlib.Core.Path.{◌≡◌, refl}
use mathlib.Core.List.{[], ◌∷◌}
use lib.IntN.{pos, negsuc}
use Rattle.text.specs.Decimal.{decimal, whole, line}

pub record Examples : Type 0 where
  pub zero : decimal 0 ≡ 48 ∷ []
  pub nine : decimal 9 ≡ 57 ∷ []
  pub ten : decimal 10 ≡ 49 ∷ 48 ∷ []
  pub largest : decimal 65535 ≡ 54 ∷ 53 ∷ 53 ∷ 51 ∷ 53 ∷ []
  pub wide : decimal 2147483648 ≡ 50 ∷ 49 ∷ 52 ∷ 55 ∷ 52 ∷ 56 ∷ 51 ∷ 54 ∷ 52 ∷ 56 ∷ []
  pub no_sign : whole (pos 0) ≡ 48 ∷ []
  pub sign : whole (negsuc 29999) ≡ 45 ∷ 51 ∷ 48 ∷ 48 ∷ 48 ∷ 48 ∷ []
  pub fields : line (decimal 1 ∷ decimal 0 ∷ decimal 2 ∷ []) ≡ 49 ∷ 32 ∷ 48 ∷ 32 ∷ 50 ∷ 10 ∷ []

pub examples : Examples
unfolding decimal
examples = record { zero = refl; nine = refl; ten = refl; largest = refl; wide = refl; no_sign = refl; sign = refl; fields = refl }
