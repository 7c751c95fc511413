-- 02, No. 10: "an entry of kind 8 (words: known relation id, record count, missing count), then exactly those proper records, each 65535
-- marked, then zeros; anything else is malformed."
use Rattle.std.specs.Prelude.{ℕ, zero, suc, ◌+◌, ◌-◌, ◌/◌, ◌%◌, ◌^◌, Bool, true, false, not, ◌&&◌, ◌||◌, List, [], ◌∷◌, ◌++◌, eqb, leb, length, take, drop, set, replicate}
use Rattle.std.proofs.Math.Option.{Option, none, some}
use Rattle.std.specs.Int.Count.{ones}
use Rattle.wire.specs.Words.{byte_at, word_at, word_bytes}
use Rattle.wire.specs.Entries.{entry_id, record_bits}
use Rattle.wire.specs.Lists.{all_of, sum_of, ◌and_then◌}
use Rattle.dictionary.specs.Format.{Format}
use Rattle.dictionary.specs.Dictionary.{Relation, kind_at}
use Rattle.dictionary.specs.Naming.{numbered, relation_of, format_of}
use Rattle.records.specs.Record.{field_count, missing_bytes, offset_of, record_length, bit_at, proper_record, reading_missing}

-- "a lent buffer of at most 65,535 bytes"
abbrev pub max_store_bytes : ℕ
max_store_bytes = 65535

-- the header's kind, the places of its two counts, and its length
abbrev pub store_entry_kind : ℕ
store_entry_kind = 8

abbrev pub store_count : ℕ
store_count = 6

abbrev pub store_missing : ℕ
store_missing = 8

abbrev pub store_header : ℕ
store_header = 10

-- what a store holds: a relation, and its records as entries, in order
pub record Contents : Type 0 where
  pub relation : Relation
  pub records : List (List ℕ)

-- ---- readings of 65535

-- by the field's format, if the relation has the field
abbrev pub lost_by : Option Format → ℕ → Bool
lost_by none w = false
lost_by (some f) w = reading_missing f.type w

-- field i of a record is a reading of 65535, whatever its bit
unfoldable pub lost : Relation → List ℕ → ℕ → Bool
lost r x i = lost_by (format_of r i) (word_at x (offset_of r i))

-- of the first n fields, each reading of 65535 has its bit set
unfoldable pub marked_below : ℕ → Relation → List ℕ → Bool
marked_below zero r x = true
marked_below (suc i) r x = marked_below i r x && (not (lost r x i) || bit_at x 0 i)

-- "each 65535 marked"
abbrev pub marked : Relation → List ℕ → Bool
marked r x = marked_below (field_count r) r x

-- the byte that has the missing bit of field i
abbrev pub bit_place : ℕ → ℕ
bit_place i = record_bits + i / 8

-- a record with the bit of field i set, by whether it was
abbrev pub with_bit_by : Bool → List ℕ → ℕ → List ℕ
with_bit_by true x i = x
with_bit_by false x i = set x (bit_place i) (byte_at x (bit_place i) + 2 ^ (i % 8))

unfoldable pub with_bit : List ℕ → ℕ → List ℕ
with_bit x i = with_bit_by (bit_at x 0 i) x i

abbrev pub mark_if : Bool → List ℕ → ℕ → List ℕ
mark_if true x i = with_bit x i
mark_if false x i = x

-- a record with the bits of the readings of 65535 among its first n fields set
unfoldable pub mark_below : ℕ → Relation → List ℕ → List ℕ
mark_below zero r x = x
mark_below (suc i) r x = mark_if (lost r x i) (mark_below i r x) i

-- "Adding or replacing sets the missing bit of each reading of 65535."
abbrev pub mark : Relation → List ℕ → List ℕ
mark r x = mark_below (field_count r) r x

-- ---- records and their counts

-- these bytes are one proper record and nothing more
unfoldable pub one_record : Relation → List ℕ → Bool
one_record r x = proper_record r x 0 && eqb (length x) (record_length r)

-- a record as a store keeps it
unfoldable pub kept : Relation → List ℕ → Bool
kept r x = one_record r x && marked r x

-- the bits set in a record's missing bytes
unfoldable pub missing_in : Relation → List ℕ → ℕ
missing_in r x = sum_of ones (take (missing_bytes r) (drop record_bits x))

-- "The missing count is the number of bits set in all missing bytes."
unfoldable pub missing_count : Contents → ℕ
missing_count c = sum_of (missing_in c.relation) c.records

-- ---- the bytes of a store

unfoldable pub joined : List (List ℕ) → List ℕ
joined [] = []
joined (x ∷ l) = x ++ joined l

-- "words: known relation id, record count, missing count"
unfoldable pub header : Contents → List ℕ
header c =
    word_bytes store_header ++ word_bytes store_entry_kind ++ word_bytes c.relation.id ++
    word_bytes (length c.records) ++ word_bytes (missing_count c)

-- the bytes in use
unfoldable pub used : Contents → ℕ
used c = store_header + length (joined c.records)

-- a buffer of n bytes that holds them: header, records, zeros
unfoldable pub image : Contents → ℕ → List ℕ
image c n = header c ++ joined c.records ++ replicate (n - used c) 0

-- ---- what a buffer holds

-- the first n parts of a length
unfoldable pub parts : ℕ → ℕ → List ℕ → List (List ℕ)
parts size zero s = []
parts size (suc n) s = take size s ∷ parts size n (drop size s)

-- as many records of a relation as the header counts
unfoldable pub listed : Relation → List ℕ → Contents
listed r b = record { relation = r; records = parts (record_length r) (word_at b store_count) (drop store_header b) }

-- the header's length, kind and missing count are right, all records are kept ones, and zeros follow them
unfoldable pub well_formed : Contents → List ℕ → Bool
well_formed c b =
    leb (length b) max_store_bytes && eqb (word_at b 0) store_header && eqb (kind_at b 0) store_entry_kind &&
    all_of (kept c.relation) c.records && leb (used c) (length b) && eqb (word_at b store_missing) (missing_count c) &&
    all_of (λ x. eqb x 0) (drop (used c) b)

abbrev pub held_by : Bool → Contents → Option Contents
held_by true c = some c
held_by false c = none

-- what a buffer holds beside the relations of a dictionary, if it is well-formed
unfoldable pub contents : List Relation → List ℕ → Option Contents
contents rs b = relation_of rs (numbered (word_at b entry_id)) and_then (λ r. held_by (well_formed (listed r b) b) (listed r b))
