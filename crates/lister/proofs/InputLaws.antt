-- What reading an input into a table takes from it, and what is then listed.
use Rattle.std.proofs.Common.{◌≡◌, Option, ℕ, ◌+◌, ◌-◌, ◌<◌, ◌≤◌, List, ◌++◌, None, Some, Result, Ok, Err, OnOk, IfSome, refl, sym, ap, subst, ◌∙◌, inl, inr, arith, length, take, drop, drop_at, length-take-le, length-append, append-nil, eq-zero-or-pos}
use borrow.Rule.Slice.PartMut.{put_mid, post_of}
use lib.Seq.{take-add, take_at, take-append-le}
use Rattle.std.specs.Io.KnownBytes.{Keeps, Consumes, Appends, IsAtEnd}
use Rattle.std.proofs.KnownBytes.{Consumes-trans, Consumes-kept}
use Rattle.laws.proofs.Tables.{laid_first}
use Rattle.text.specs.Room.{Put}
use Rattle.text.proofs.RoomLaws.{put_laid}
use Rattle.lister.specs.Listing.{most_bytes, listing}
use Rattle.lister.proofs.ListingLaws.{many_text}

-- a read into the part of a table after the first n bytes
module _ (n m : ℕ) (old part : List ℕ) (fits : n ≤ length old) where
  front : take n (put_mid n m old part) ≡ take n old
  front = take_at (take n old) (part ++ post_of n m old) n (length-take-le n old fits)

  module _ (a b c : Option (List ℕ)) (before : Consumes a b (take n old)) where
    pub read_more : (k : ℕ) → k ≤ length part → Consumes b c (take k part) → Consumes a c (take (n + k) (put_mid n m old part))
    read_more k h read =
        let e : drop n (put_mid n m old part) ≡ part ++ post_of n m old = drop_at (take n old) (part ++ post_of n m old) n (length-take-le n old fits) in
        rw (take-add n k (put_mid n m old part), front, e, take-append-le k part (post_of n m old) h) (Consumes-trans a b c (take n old) (take k part) before read)

    pub read_none : Keeps b c → Consumes a c (take n (put_mid n m old part))
    read_none read = rw front (Consumes-kept a b c (take n old) before read)

-- an input that ended is listed whole; of one that is longer than the table the listing shows the refusal alone
module _ (n : ℕ) (bytes : List ℕ) (wide : length bytes ≡ most_bytes + 1) (fits : n ≤ length bytes) where
  listing_known : (r : List ℕ) (rest : Option (List ℕ)) → Consumes (Some r) rest (take n bytes) → (n < length bytes → IsAtEnd rest) → listing (take n bytes) ≡ listing r
  listing_known r None read end = absurd read
  listing_known r (Some l) read end =
      let size : length (take n bytes) ≡ n = length-take-le n bytes fits in
      elim (eq-zero-or-pos (length bytes - n)) [
        | inl z ↦ many_text (take n bytes) (omega (arith, size)) ∙ sym (many_text r (omega (arith, size, ap length read, length-append (take n bytes) l)))
        | inr g ↦ ap listing (sym (read ∙ ap (λ (t : List ℕ). take n bytes ++ t) (end (omega arith)) ∙ append-nil (take n bytes)))
      ]

  pub listing_read : (input rest : Option (List ℕ)) → Consumes input rest (take n bytes) → (n < length bytes → IsAtEnd rest) → (r : List ℕ) → input ≡ Some r → listing (take n bytes) ≡ listing r
  listing_read input rest read end r e = listing_known r rest (rw e at read) end

-- what was put and then written
pub listing_put : {l old after : List ℕ} {r : ℕ} → Put 0 l old r after → length l ≤ length old → take r after ≡ l
listing_put p h = laid_first (put_laid (omega arith) p)

pub listing_written : {U E : Type 0} (w : Result U E) (input old new : Option (List ℕ)) {text : List ℕ}
    → ((r : List ℕ) → input ≡ Some r → text ≡ listing r) → OnOk w (Appends old new text) → OnOk w (IfSome input (λ r. Appends old new (listing r)))
listing_written (Ok u) (Some r) old new f h = subst (Appends old new) (f r refl) h
listing_written (Ok u) None old new f h = tt
listing_written (Err e) input old new f h = tt
