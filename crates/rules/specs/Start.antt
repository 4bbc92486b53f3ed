-- 01 'Building', 1 and 2: P, Q, R, S; A, B, C, D; the four starting faces.
use Rattle.std.specs.Prelude.{Bool, not, ◌&&◌, ◌||◌, cond, List, [], ◌∷◌, map, ℕ, eqb, pos, get_or}
use Rattle.std.proofs.Math.Option.{Option, none, some}
use Rattle.std.specs.Int.Signed.{lt_z}
use Rattle.laws.specs.Numbers.{eq_z}
use Rattle.laws.specs.Lists.{first, upward}
use Rattle.touches.specs.declared.Point.{Point}
use Rattle.volume.specs.Volume.{Vol, in_line, is_zero}
use Rattle.rules.specs.Faces.{Face, Places}

abbrev pub same_place : Point → Point → Bool
same_place p q = eq_z p.x q.x && (eq_z p.y q.y && eq_z p.z q.z)

pub record Start : Type 0 where
  pub P : ℕ
  pub Q : ℕ
  pub R : ℕ
  pub S : ℕ

abbrev pub then : {A B : Type 0} → Option A → (A → Option B) → Option B
then none k = none
then (some x) k = k x

-- S the first with V(P,Q,R,S) not zero
abbrev pub find_s : Places → ℕ → ℕ → ℕ → List ℕ → Option Start
find_s p P Q R ks = then (first (λ s. not (is_zero (Vol (p P) (p Q) (p R) (p s)))) ks) (λ s. some (record { P = P; Q = Q; R = R; S = s }))

-- R the first not in line with P and Q
abbrev pub find_r : Places → ℕ → ℕ → List ℕ → Option Start
find_r p P Q ks = then (first (λ r. not (in_line (p P) (p Q) (p r))) ks) (λ r. find_s p P Q r ks)

-- Q the first touch that differs from P
abbrev pub find_q : Places → ℕ → List ℕ → Option Start
find_q p P ks = then (first (λ q. not (same_place (p P) (p q))) ks) (λ q. find_r p P q ks)

-- P is touch 0; none where Q, R or S is missing
abbrev pub start : Places → ℕ → Option Start
start p n = find_q p 0 (upward 0 n)

-- A, B, C, D: P, Q, R, S if V(P,Q,R,S) is positive, else Q, P, R, S
abbrev pub corners : Places → Start → List ℕ
corners p s =
    cond (lt_z (pos 0) (Vol (p s.P) (p s.Q) (p s.R) (p s.S)))
    (s.P ∷ s.Q ∷ s.R ∷ s.S ∷ [])
    (s.Q ∷ s.P ∷ s.R ∷ s.S ∷ [])

-- the fixed table (A,B,C), (A,D,B), (B,D,C), (C,D,A), by place among A, B, C, D
abbrev pub start_table : List (List ℕ)
start_table = (0 ∷ 1 ∷ 2 ∷ []) ∷ (0 ∷ 3 ∷ 1 ∷ []) ∷ (1 ∷ 3 ∷ 2 ∷ []) ∷ (2 ∷ 3 ∷ 0 ∷ []) ∷ []

abbrev pub start_faces : List ℕ → List Face
start_faces abcd = map (map (λ i. get_or abcd i 0)) start_table

-- one of P, Q, R, S
abbrev pub is_start : Start → ℕ → Bool
is_start s k = eqb k s.P || (eqb k s.Q || (eqb k s.R || eqb k s.S))
