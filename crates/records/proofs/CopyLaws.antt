-- The copier goes by what the reading call answered.
use mathlib.Core.Path.{◌≡◌, refl, sym, ◌∙◌, ap}
use mathlib.Core.Bool.{Bool, true, false}
use mathlib.Core.List.{List}
use Prim.Native.Nat.{ℕ, ◌*◌, ◌≤◌}
use native.Mathlib.Omega.{arith}
use borrow.Author.Tests.{le-leb, leb-true}
use lib.Dec.{leb}
use lib.IntN.{ℤ}
use lib.ListN.{length, take}
use Rattle.std.specs.Prelude.{Result, Ok, Err}
use Rattle.touches.specs.declared.refusal.Refusal.TheVariants.{TouchRoomTooSmall}
use Rattle.touches.specs.declared.refusal.Refusal.{Refusal}
use Rattle.touches.specs.Touches.{touch_count}
use Rattle.touches.specs.Limits.{most_touches}
use Rattle.touches.specs.Check.{pick}
use Rattle.records.specs.Record.{touches_in, AreBytes}
use Rattle.records.specs.Answers.{checked_record, into_list, into_buffer, count_given, ReadGives, WriteGives, CopyGives}
use Rattle.records.proofs.SoundLaws.{accepted_sound, accepted_threes}
use Rattle.records.proofs.CheckLaws.{passes}
use Rattle.records.proofs.RoundTrip.{read_front, both_copy}

-- n touches were read
pub record HasRead (version : ℕ) (r : List ℕ) (room n : ℕ) : Type 0 where
  pub list : List ℤ
  pub accepted : checked_record version r ≡ Ok list
  pub count : n ≡ touch_count list
  pub enough : touch_count list * 3 ≤ room

pub has_read : (version : ℕ) (r : List ℕ) (room n : ℕ) → Ok n ≡ into_list room (checked_record version r) → HasRead version r room n
has_read version r room n e = go (checked_record version r) refl e
  where
    go : (k : Result (List ℤ) Refusal) → checked_record version r ≡ k → Ok n ≡ into_list room k → HasRead version r room n
    go (Ok l) f e = by (leb (touch_count l * 3) room) refl e
      where
        by : (b : Bool) → leb (touch_count l * 3) room ≡ b → Ok n ≡ pick b (Ok (touch_count l)) (Err TouchRoomTooSmall) → HasRead version r room n
        by true t e = record { list = l; accepted = f; count = cc; enough = leb-true (touch_count l * 3) room t }
        by false t e = cc
    go (Err x) f e = cc

module _ {version : ℕ} {r : List ℕ} {list read : List ℤ} {a : Result ℕ Refusal} (g : ReadGives version r list a read) where
  pub read_has : {n : ℕ} → a ≡ Ok n → HasRead version r (length list) n
  read_has {n} e = has_read version r (length list) n (sym e ∙ g.answer)

  -- the touches that it gave
  pub read_touches : {n : ℕ} → a ≡ Ok n → take (n * 3) read ≡ touches_in r
  read_touches {n} e = let h = read_has e in rw h.count (read_front h.accepted h.enough g)

  pub copy_gives : {n : ℕ} {old copied : List ℕ} {b : Result ℕ Refusal} → AreBytes r → a ≡ Ok n → WriteGives version (take (n * 3) read) old b copied → CopyGives version r old b copied
  copy_gives {n} {old} {copied} {b} bytes e w =
      let h = read_has e in
      let f : count_given a ≡ n = ap count_given e in
      both_copy version r bytes h.accepted h.enough g (rw f w)

  -- with room for 64 touches 11 is never given
  pub copy_refused : {x : Refusal} {old : List ℕ} → most_touches * 3 ≤ length list → a ≡ Err x → CopyGives version r old (Err x) old
  copy_refused {x} {old} room e = record { answer = go (checked_record version r) refl (sym e ∙ g.answer); table = refl }
    where
      go : (k : Result (List ℤ) Refusal) → checked_record version r ≡ k → Err x ≡ into_list (length list) k → Err x ≡ into_buffer (length old) k
      go (Ok l) f e =
          let p = (passes version r f).touches in
          let h : touch_count l * 3 ≤ length list = omega (arith, accepted_threes (touches_in r) p, (accepted_sound (touches_in r) p).few) in
          cc (rw (le-leb (touch_count l * 3) (length list) h) at e)
      go (Err y) f e = cc
