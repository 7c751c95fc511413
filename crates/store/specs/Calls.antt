-- 02, No. 10: "A first call makes it empty." "Let add at the end, erase by position (from 0) and replace keep it right."
use Rattle.std.specs.Prelude.{Result as Answer, Ok, Err, ℕ, suc, ◌+◌, ◌*◌, ◌≡◌, Bool, true, false, cond, not, List, [], ◌∷◌, ◌++◌, ltb, length, take, drop, set}
use Rattle.std.proofs.Math.Option.{Option, none, some}
use Rattle.wire.specs.declared.refused.Refused.{Refused}
use Rattle.wire.specs.Options.{refused_at}
use Rattle.dictionary.specs.Dictionary.{Relation, Checked, proper, at_fault, dictionary}
use Rattle.dictionary.specs.Naming.{numbered, relation_of}
use Rattle.records.specs.Record.{record_length}
use Rattle.store.specs.declared.Refusal.{Refusal}
use Rattle.store.specs.declared.Refusal.TheVariants.{BadDictionary, UnknownRelation, MalformedStore, NoPosition, WrongRecord, NoRoom}
use Rattle.store.specs.declared.Counts.{Counts}
use Rattle.store.specs.Store.{Contents, max_store_bytes, store_header, mark, one_record, missing_count, used, image, contents}

-- 02's number for each refusal: "3, then all at 0, 12 for the first call's relation, 50 store malformed .., 51 no such position, 52 record
-- not as due, 53 not enough free bytes"
abbrev pub number : Refusal → ℕ
number BadDictionary = 3
number UnknownRelation = 12
number MalformedStore = 50
number NoPosition = 51
number WrongRecord = 52
number NoRoom = 53

-- the calls that change a store
pub data Change : Type 0 where
  add : List ℕ → Change
  erase : ℕ → Change
  replace : ℕ → List ℕ → Change

-- all calls: the first makes a store of the relation of an id
pub data Call : Type 0 where
  make : ℕ → Call
  change : Change → Call

-- what a buffer holds, or a refusal and its place
pub data Result : Type 0 where
  holds : Contents → Result
  refused : Refusal → ℕ → Result

-- ---- what a buffer holds

abbrev pub or_malformed : Option Contents → Result
or_malformed none = refused MalformedStore 0
or_malformed (some c) = holds c

abbrev pub store_beside : Checked → List ℕ → Result
store_beside (at_fault p) b = refused BadDictionary p
store_beside (proper rs) b = or_malformed (contents rs b)

-- by the dictionary and the buffer: 3, then 50
unfoldable pub store_in : List ℕ → List ℕ → Result
store_in d b = store_beside (dictionary d) b

-- ---- the first call

abbrev pub empty_of : Relation → Contents
empty_of r = record { relation = r; records = [] }

-- in a buffer of n bytes; "50 store malformed (first call: only over 65,535 bytes)", "53 not enough free bytes (first call: under 10)"
unfoldable pub made_in : ℕ → Option Relation → Result
made_in n none = refused UnknownRelation 0
made_in n (some r) =
    cond (ltb max_store_bytes n) (refused MalformedStore 0) (cond (ltb n store_header) (refused NoRoom 0) (holds (empty_of r)))

abbrev pub made_beside : Checked → ℕ → ℕ → Result
made_beside (at_fault p) n i = refused BadDictionary p
made_beside (proper rs) n i = made_in n (relation_of rs (numbered i))

-- ---- the other calls

-- a plain list of records after a call: append, remove at a position, put at a position
abbrev pub list_after : Relation → List (List ℕ) → Change → List (List ℕ)
list_after r l (add x) = l ++ (mark r x ∷ [])
list_after r l (erase k) = take k l ++ drop (suc k) l
list_after r l (replace k x) = set l k (mark r x)

abbrev pub changed : Contents → Change → Contents
changed c e = record { relation = c.relation; records = list_after c.relation c.records e }

-- a refusal if a test holds, or a later one
abbrev pub refuse_if : Bool → Refusal → Option Refusal → Option Refusal
refuse_if true x later = some x
refuse_if false x later = later

-- "51 no such position, 52 record not as due, 53 not enough free bytes .. in that order", in a buffer of n bytes
unfoldable pub refusal : ℕ → Contents → Change → Option Refusal
refusal n c (add x) = refuse_if (not (one_record c.relation x)) WrongRecord (refuse_if (ltb n (used c + length x)) NoRoom none)
refusal n c (erase k) = refuse_if (not (ltb k (length c.records))) NoPosition none
refusal n c (replace k x) =
    refuse_if (not (ltb k (length c.records))) NoPosition (refuse_if (not (one_record c.relation x)) WrongRecord none)

abbrev pub unless_refused : Option Refusal → Contents → Result
unless_refused none c = holds c
unless_refused (some x) c = refused x 0

abbrev pub changed_in : ℕ → Result → Change → Result
changed_in n (refused x p) e = refused x p
changed_in n (holds c) e = unless_refused (refusal n c e) (changed c e)

-- ---- every call

-- what the buffer then holds, or the refusal
unfoldable pub called : List ℕ → List ℕ → Call → Result
called d b (make i) = made_beside (dictionary d) (length b) i
called d b (change e) = changed_in (length b) (store_in d b) e

-- the buffer at the end; a refusal leaves it unchanged
abbrev pub left : List ℕ → Result → List ℕ
left b (holds c) = image c (length b)
left b (refused x p) = b

abbrev pub answer_of : Result → Answer (Unit {0}) (Refused Refusal)
answer_of (holds c) = Ok tt
answer_of (refused x p) = Err (refused_at x p)

-- what each call promises: the answer, and every byte of the buffer at exit
pub record Called (d b : List ℕ) (c : Call) (b' : List ℕ) (r : Answer (Unit {0}) (Refused Refusal)) : Type 0 where
  pub answered : r ≡ answer_of (called d b c)
  pub left_so : b' ≡ left b (called d b c)

-- ---- reading a store

-- the relation's id, the record count and the missing count
abbrev pub reading_of : Result → Answer Counts (Refused Refusal)
reading_of (holds c) = Ok (record { relation = c.relation.id; records = length c.records; missing = missing_count c })
reading_of (refused x p) = Err (refused_at x p)

-- where record k of a store stands, and its length
unfoldable pub place_in : Result → ℕ → Answer (ℕ × ℕ) (Refused Refusal)
place_in (refused x p) k = Err (refused_at x p)
place_in (holds c) k =
    cond (ltb k (length c.records))
    (Ok (store_header + k * record_length c.relation, record_length c.relation)) (Err (refused_at NoPosition 0))
