-- 02, No. 10: "After any such calls, refused ones left out, the buffer lists the records, so marked, as a plain list would."
use Rattle.std.specs.Prelude.{ℕ, ◌<◌, ◌≡◌, List, [], ◌∷◌, length}
use Rattle.std.proofs.Math.Option.{Option, some, map}
use Rattle.wire.specs.Words.{byte_at, word_at}
use Rattle.dictionary.specs.Dictionary.{Relation}
use Rattle.dictionary.specs.Naming.{numbered, relation_of}
use Rattle.store.specs.Store.{Contents, store_count, store_missing, missing_count, contents}
use Rattle.store.specs.Calls.{Call, make, change, add, erase, replace, Result, holds, refused, empty_of, changed, called, left}

-- the buffer after some calls
unfoldable pub after_calls : List ℕ → List ℕ → List Call → List ℕ
after_calls d b [] = b
after_calls d b (x ∷ l) = after_calls d (left b (called d b x)) l

abbrev pub accepted_by : Result → Call → List Call → List Call
accepted_by (holds c) x l = x ∷ l
accepted_by (refused y p) x l = l

-- those of the calls that are not refused
unfoldable pub accepted : List ℕ → List ℕ → List Call → List Call
accepted d b [] = []
accepted d b (x ∷ l) = accepted_by (called d b x) x (accepted d (left b (called d b x)) l)

-- what a plain list is after a call, if there is one: the first call makes it empty
abbrev pub plain : List Relation → Option Contents → Call → Option Contents
plain rs o (make i) = map empty_of (relation_of rs (numbered i))
plain rs o (change e) = map (λ c. changed c e) o

unfoldable pub plain_after : List Relation → Option Contents → List Call → Option Contents
plain_after rs o [] = o
plain_after rs o (x ∷ l) = plain_after rs (plain rs o x) l

-- the records that calls bring are bytes
abbrev pub Octets : List ℕ → Type 0
Octets s = (p : ℕ) → byte_at s p < 256

abbrev pub OfBytes : Call → Type 0
OfBytes (make i) = Unit {0}
OfBytes (change (add x)) = Octets x
OfBytes (change (erase k)) = Unit {0}
OfBytes (change (replace k x)) = Octets x

abbrev pub AllOfBytes : List Call → Type 0
AllOfBytes [] = Unit {0}
AllOfBytes (x ∷ l) = OfBytes x × AllOfBytes l

-- a buffer's list, and the counts of its header
pub record Lists (rs : List Relation) (b : List ℕ) (o : Option Contents) : Type 0 where
  pub lists : contents rs b ≡ o
  pub record_count : (c : Contents) → o ≡ some c → word_at b store_count ≡ length c.records
  pub missing_count : (c : Contents) → o ≡ some c → word_at b store_missing ≡ missing_count c
