-- The whole part, rounded down, and the remainder, as `div_euclid` and `rem_euclid` give them.
use mathlib.Core.Path.{◌≡◌}
use mathlib.Core.List.{[], ◌∷◌}
use Prim.Native.Nat.{ℕ, ◌-◌, ◌/◌, ◌%◌, ◌<◌}
use native.Mathlib.Nat.{mod-lt}
use native.Mathlib.Omega.{arith}
use lib.Dec.{ltb→lt}
use lib.IntN.{ℤ, pos, negsuc, neg_ℤ, ◌-ℤ◌}
use lib.Signed.{◌<ℤ◌}
use Rattle.std.specs.Int.{int_div_euclid, int_rem_euclid}
use Rattle.laws.specs.Fractions.{Parts}
use Rattle.laws.proofs.Fractions.{parts_nat}
use Rattle.laws.proofs.Integers.{up, dn, up_neg, dn_neg, dif_is}
use Rattle.laws.proofs.Order.{zs, pos_is, pos_mono}
use Rattle.laws.proofs.Ring.{one, var, ◌:+◌, ◌:-◌, ◌:*◌, neg}
use Rattle.laws.proofs.Certificates.{combine, eqn}

negsuc_is : (n : ℕ) → negsuc n ≡ neg_ℤ (pos n) -ℤ pos 1
unfolding up dn
negsuc_is n = omega (arith, zs, dif_is (neg_ℤ (pos n)) (pos 1), up_neg (pos n), dn_neg (pos n), pos_is n, pos_is 1)

-- b - 1 - r, r being below b
less_one : (b r : ℕ) → r < b → pos (b - 1 - r) ≡ pos b -ℤ pos 1 -ℤ pos r
less_one b r h = omega (arith, zs, dif_is (pos b) (pos 1), dif_is (pos b -ℤ pos 1) (pos r), pos_is b, pos_is 1, pos_is r, pos_is (b - 1 - r))

pub parts_euclid : (a b : ℤ) → pos 0 <ℤ b → Parts a b (int_div_euclid a b) (int_rem_euclid a b)
parts_euclid a (negsuc b) h = absurd h.lt
parts_euclid (pos a) (pos b) h = parts_nat a b (ltb→lt 0 b h.lt)
parts_euclid (negsuc a) (pos b) h =
    let k = ltb→lt 0 b h.lt in
    let l : a % b < b = mod-lt a k in
    record {
      sum = combine (negsuc a ∷ pos b ∷ negsuc (a / b) ∷ pos (b - 1 - a % b) ∷ pos a ∷ pos (a / b) ∷ pos (a % b) ∷ [])
          (eqn one (var 0) (neg (var 4) :- one) ∷ eqn (neg (var 1)) (var 2) (neg (var 5) :- one) ∷ eqn (neg one) (var 3) (var 1 :- one :- var 6) ∷ eqn (neg one) (var 4) (var 5 :* var 1 :+ var 6) ∷ [])
          (var 0) (var 2 :* var 1 :+ var 3) tt (negsuc_is a) (negsuc_is (a / b)) (less_one b (a % b) l) (parts_nat a b k).sum;
      over = omega (arith, zs, pos_is 0, pos_is (b - 1 - a % b));
      under = pos_mono (omega arith);
    }
