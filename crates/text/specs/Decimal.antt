-- 01 'The listing program', 02 A2: numbers as ASCII text, and lines of fields.
use Rattle.std.specs.Prelude.{ℕ, zero, suc, ◌+◌, ◌/◌, ◌%◌, true, false, List, [], ◌∷◌, ◌++◌, ltb, ℤ, pos, negsuc}

abbrev pub digit : ℕ → ℕ
digit d = 48 + d

-- the last k digits of n, or all of them where there are fewer
abbrev pub last_digits : ℕ → ℕ → List ℕ
last_digits zero n = []
last_digits (suc k) n = elim (ltb n 10) [ true ↦ digit n ∷ [] | false ↦ last_digits k (n / 10) ++ (digit (n % 10) ∷ []) ]

-- all digits of n, which has at most n + 1 of them: 0 for zero, else no leading zero
unfoldable pub decimal : ℕ → List ℕ
decimal n = last_digits (suc n) n

abbrev pub minus : ℕ
minus = 45

-- a minus sign only before a number that is not zero
abbrev pub whole : ℤ → List ℕ
whole (pos n) = decimal n
whole (negsuc n) = minus ∷ decimal (suc n)

abbrev pub space : ℕ
space = 32

abbrev pub newline : ℕ
newline = 10

-- fields separated by one space, and a newline after the last
abbrev pub line : List (List ℕ) → List ℕ
line [] = newline ∷ []
line (f ∷ []) = f ++ (newline ∷ [])
line (f ∷ g ∷ fs) = f ++ (space ∷ line (g ∷ fs))
