-- What the calls do with the bytes of an open store.
use Rattle.std.specs.Prelude.{ℕ, zero, suc, ◌+◌, ◌*◌, ◌-◌, ◌^◌, ◌%◌, ◌<◌, ◌≤◌, ◌≡◌, Bool, true, false, cond, not, ◌&&◌, List, ◌++◌, eqb, ltb, length, take, drop, set, replicate, Result as Answer, Ok, Err}
use Rattle.std.proofs.Math.Option.{Option, none, some}
use Rattle.wire.specs.Words.{byte_at, word_bytes}
use Rattle.wire.specs.Limits.{max_fields}
use Rattle.wire.specs.Entries.{record_bits}
use Rattle.wire.specs.declared.refused.Refused.{Refused}
use Rattle.wire.specs.Options.{refused_at}
use Rattle.dictionary.specs.Dictionary.{Relation}
use Rattle.records.specs.Record.{bit_at}
use Rattle.store.specs.declared.Refusal.{Refusal}
use Rattle.store.specs.declared.Refusal.TheVariants.{NoPosition, WrongRecord, NoRoom}
use Rattle.store.specs.declared.layout.Layout.{Layout}
use Rattle.store.specs.declared.opening.Store.{Store}
use Rattle.store.specs.Store.{max_store_bytes, store_count, store_header, bit_place}
use Rattle.store.specs.Calls.{refuse_if, answer_of, left, made_in}
use Rattle.store.specs.Internal.Layouts.{proper_by, lost_at, ones_at}

-- ---- bytes

-- b with x over its bytes from a place on
unfoldable pub over : List ℕ → ℕ → List ℕ → List ℕ
over b at x = take at b ++ x ++ drop (at + length x) b

-- b with zeros from a place on
unfoldable pub cleared : List ℕ → ℕ → List ℕ
cleared b from = take from b ++ replicate (length b - from) 0

-- b with the bytes that stand n after a place moved there; the last n bytes stay
unfoldable pub moved : List ℕ → ℕ → ℕ → List ℕ
moved b at n = take at b ++ drop (at + n) b ++ drop (length b - n) b

-- b without n bytes from a place on, those after them moved there, and zeros behind
unfoldable pub closed : List ℕ → ℕ → ℕ → List ℕ
closed b at n = take at b ++ drop (at + n) b ++ replicate n 0

-- both counts of the header
unfoldable pub counted : List ℕ → ℕ → ℕ → List ℕ
counted b n m = over b store_count (word_bytes n ++ word_bytes m)

-- the bit of field i of the record at p, set
abbrev pub bit_set_by : Bool → List ℕ → ℕ → ℕ → List ℕ
bit_set_by true s p i = s
bit_set_by false s p i = set s (p + bit_place i) (byte_at s (p + bit_place i) + 2 ^ (i % 8))

unfoldable pub bit_set : List ℕ → ℕ → ℕ → List ℕ
bit_set s p i = bit_set_by (bit_at s p i) s p i

abbrev pub bit_set_if : Bool → List ℕ → ℕ → ℕ → List ℕ
bit_set_if true s p i = bit_set s p i
bit_set_if false s p i = s

-- the record at p of s, with the bits of the readings of 65535 among the first n fields of x set
unfoldable pub marked_with : List ℕ → List ℕ → List ℕ → ℕ → ℕ → List ℕ
marked_with t x s p zero = s
marked_with t x s p (suc i) = bit_set_if (lost_at t x 0 i) (marked_with t x s p i) p i

-- a record written at p
unfoldable pub written : Layout → List ℕ → List ℕ → ℕ → List ℕ → List ℕ
written l t b p x = marked_with t x (over b p x) p l.fields

-- what writing a record promises: the bytes then, and how many missing bits the record has
pub record Writes (l : Layout) (t b : List ℕ) (p : ℕ) (x b' : List ℕ) (n : ℕ) : Type 0 where
  pub written_is : b' ≡ written l t b p x
  pub ones_are : n ≡ ones_at (written l t b p x) (p + record_bits) l.bits
  pub ones_few : n ≤ 8 * l.bits

-- ---- calls

-- one proper record and nothing more
unfoldable pub one_by : Layout → List ℕ → Bool
one_by l x = proper_by l x 0 && eqb (length x) l.size

-- where record k stands
abbrev pub place_of : Store → ℕ → ℕ
place_of s k = store_header + k * s.layout.size

-- the bits set in the missing bytes of the record at p
abbrev pub bits_at : Store → List ℕ → ℕ → ℕ
bits_at s b p = ones_at b (p + record_bits) s.layout.bits

abbrev pub add_refusal : Store → List ℕ → List ℕ → Option Refusal
add_refusal s b x =
    refuse_if (not (one_by s.layout x)) WrongRecord (refuse_if (ltb (length b) (place_of s s.count + length x)) NoRoom none)

unfoldable pub add_bytes : Store → List ℕ → List ℕ → List ℕ → List ℕ
add_bytes s t b x =
    let w = written s.layout t b (place_of s s.count) x in
    counted w (s.count + 1) (s.missing + bits_at s w (place_of s s.count))

abbrev pub erase_refusal : Store → ℕ → Option Refusal
erase_refusal s k = refuse_if (not (ltb k s.count)) NoPosition none

unfoldable pub erase_bytes : Store → List ℕ → ℕ → List ℕ
erase_bytes s b k =
    counted (closed b (place_of s k) s.layout.size) (s.count - 1) (s.missing - bits_at s b (place_of s k))

abbrev pub replace_refusal : Store → ℕ → List ℕ → Option Refusal
replace_refusal s k x = refuse_if (not (ltb k s.count)) NoPosition (refuse_if (not (one_by s.layout x)) WrongRecord none)

unfoldable pub replace_bytes : Store → List ℕ → List ℕ → ℕ → List ℕ → List ℕ
replace_bytes s t b k x =
    let w = written s.layout t b (place_of s k) x in
    counted w s.count (s.missing - bits_at s b (place_of s k) + bits_at s w (place_of s k))

abbrev pub answer_by : Option Refusal → Answer (Unit {0}) (Refused Refusal)
answer_by none = Ok tt
answer_by (some x) = Err (refused_at x 0)

abbrev pub left_by : Option Refusal → List ℕ → List ℕ → List ℕ
left_by none b b' = b'
left_by (some x) b b' = b

-- what a call on an open store promises
pub record Changes (o : Option Refusal) (b after b' : List ℕ) (r : Answer (Unit {0}) (Refused Refusal)) : Type 0 where
  pub answer_is : r ≡ answer_by o
  pub left_is : b' ≡ left_by o b after

-- what the first call promises for a relation: the answer, and the buffer at exit
pub record MadeOf (r : Relation) (b b' : List ℕ) (x : Answer (Unit {0}) (Refused Refusal)) : Type 0 where
  pub made_answer : x ≡ answer_of (made_in (length b) (some r))
  pub made_left : b' ≡ left b (made_in (length b) (some r))

-- where record k of an open store stands
unfoldable pub place_by : Store → ℕ → Answer (ℕ × ℕ) (Refused Refusal)
place_by s k = cond (ltb k s.count) (Ok (place_of s k, s.layout.size)) (Err (refused_at NoPosition 0))

-- ---- what the numbers of an open store keep to

-- its records are inside 65,535 bytes
abbrev pub Numbers : Store → Type 0
Numbers s = place_of s s.count ≤ max_store_bytes

-- the layout of a relation of a proper dictionary
pub record Fair (l : Layout) : Type 0 where
  pub few : l.fields ≤ max_fields
  pub bits_enough : l.fields ≤ 8 * l.bits
  pub bits_inside : record_bits + l.bits ≤ l.size
  pub bits_fewer : 8 * l.bits ≤ l.size

pub record Ready (s : Store) (b : List ℕ) : Type 0 where
  pub fair : Fair s.layout
  pub inside : place_of s s.count ≤ length b
  pub short : length b ≤ max_store_bytes
  pub few_missing : s.missing ≤ s.count * s.layout.size
  pub missing-of : (k : ℕ) → k < s.count → bits_at s b (place_of s k) ≤ s.missing
  pub missing_else : (k : ℕ) → k < s.count → s.missing + s.layout.size ≤ s.count * s.layout.size + bits_at s b (place_of s k)
