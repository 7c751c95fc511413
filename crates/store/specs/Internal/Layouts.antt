-- How the code sees a relation's records: a few numbers, and where the readings stand.
use Rattle.std.specs.Prelude.{ℕ, zero, suc, ◌+◌, ◌*◌, ◌-◌, ◌/◌, ◌<◌, ◌≤◌, ◌≡◌, Bool, true, false, cond, not, ◌&&◌, ◌||◌, List, [], ◌∷◌, eqb, leb, ltb, length, get_or, take, drop, Result as Answer, Ok, Err}
use Rattle.std.proofs.Math.Option.{Option, none, some, map}
use Rattle.std.specs.Int.Count.{ones}
use Rattle.std.proofs.lemmas.List.Edits.{sets}
use Rattle.wire.specs.Words.{word_at}
use Rattle.wire.specs.Limits.{max_record_bytes, missing_reading}
use Rattle.wire.specs.Entries.{entry_id, record_entry_kind, record_bits}
use Rattle.wire.specs.Lists.{all_of, sum_of}
use Rattle.wire.specs.declared.codes.FieldType.{FieldType}
use Rattle.wire.specs.declared.codes.FieldType.TheVariants.{Plain, Reading}
use Rattle.dictionary.specs.Format.{held}
use Rattle.wire.specs.declared.refused.Refused.{Refused}
use Rattle.wire.specs.Options.{refused_at}
use Rattle.dictionary.specs.Dictionary.{Field, Relation, Checked, proper, at_fault, kind_at}
use Rattle.records.specs.Record.{field_count, missing_bytes, record_length, bit_at, bits_clear}
use Rattle.store.specs.declared.layout.Layout.{Layout}
use Rattle.store.specs.declared.opening.Store.{Store}
use Rattle.store.specs.declared.Refusal.{Refusal}
use Rattle.store.specs.declared.Refusal.TheVariants.{BadDictionary, MalformedStore}
use Rattle.store.specs.Store.{Contents, max_store_bytes, store_entry_kind, store_missing, store_header, missing_count, listed, well_formed, held_by}
use Rattle.store.specs.Calls.{Result, holds, refused, or_malformed}

-- ---- a relation

-- a record's length, or a number that no record reaches
abbrev pub size_of : Relation → ℕ
size_of r = cond (leb (record_length r) max_record_bytes) (record_length r) (suc max_record_bytes)

abbrev pub layout_by : Relation → ℕ → Layout
layout_by r n = record { id = r.id; size = n; fields = field_count r; bits = missing_bytes r }

unfoldable pub layout_of : Relation → Layout
layout_of r = layout_by r (size_of r)

-- the place of a field in a record if it is a reading, and 0 if not
abbrev pub reading_place : FieldType → ℕ → ℕ
reading_place (Plain t) at = 0
reading_place Reading at = at

-- of some fields, the first of which stands at a place
unfoldable pub reading_places : ℕ → List Field → List ℕ
reading_places at [] = []
reading_places at (f ∷ l) = reading_place f.format.type at ∷ reading_places (at + held f.format) l

unfoldable pub places_of : Relation → List ℕ
places_of r = reading_places (record_bits + missing_bytes r) r.fields

-- a table that has these places for the fields of a relation, if its records are not too long
abbrev pub Laid : Relation → List ℕ → Type 0
Laid r t = record_length r ≤ max_record_bytes → (i : ℕ) → i < field_count r → get_or t i 0 ≡ get_or (places_of r) i 0

-- what laying out a relation gives, and what it leaves in a table
pub record LaidOut (r : Relation) (t t' : List ℕ) (l : Layout) : Type 0 where
  pub layout_is : l ≡ layout_of r
  pub table_is : t' ≡ cond (leb (record_length r) max_record_bytes) (sets t 0 (places_of r)) t

-- ---- a record at p

-- the bits behind those of n fields, up to a whole byte, are 0
unfoldable pub spare_after : List ℕ → ℕ → ℕ → Bool
spare_after s p n = bits_clear s p n (8 * ((n + 7) / 8) - n)

-- its entry is proper
unfoldable pub proper_by : Layout → List ℕ → ℕ → Bool
proper_by l s p =
    leb l.size max_record_bytes && leb (p + l.size) (length s) && eqb (word_at s p) l.size &&
    eqb (kind_at s p) record_entry_kind && eqb (word_at s (p + entry_id)) l.id &&
    spare_after s p l.fields

-- the field whose place the table has at i is a reading of 65535
unfoldable pub lost_at : List ℕ → List ℕ → ℕ → ℕ → Bool
lost_at t s p i = ltb 0 (get_or t i 0) && eqb (word_at s (p + get_or t i 0)) missing_reading

-- it is none, or has its bit set
abbrev pub marked_field : List ℕ → List ℕ → ℕ → ℕ → Bool
marked_field t s p i = not (lost_at t s p i) || bit_at s p i

-- so are the first n fields
unfoldable pub marked_at : List ℕ → List ℕ → ℕ → ℕ → Bool
marked_at t s p zero = true
marked_at t s p (suc i) = marked_at t s p i && marked_field t s p i

unfoldable pub kept_at : Layout → List ℕ → List ℕ → ℕ → Bool
kept_at l t s p = proper_by l s p && marked_at t s p l.fields

-- the bits set in n bytes from p on
unfoldable pub ones_at : List ℕ → ℕ → ℕ → ℕ
ones_at s p n = sum_of ones (take n (drop p s))

-- ---- n records from p on

abbrev pub tally_next : Bool → ℕ → Option ℕ → Option ℕ
tally_next true m rest = map (λ k. m + k) rest
tally_next false m rest = none

-- the bits set in all their missing bytes, if they are kept ones
unfoldable pub tally : Layout → List ℕ → List ℕ → ℕ → ℕ → Option ℕ
tally l t s zero p = some 0
tally l t s (suc n) p = tally_next (kept_at l t s p) (ones_at s (p + record_bits) l.bits) (tally l t s n (p + l.size))

-- ---- an open store

-- a dictionary that is not proper is refused
abbrev pub dictionary_answer : Checked → Answer (Unit {0}) (Refused Refusal)
dictionary_answer (proper rs) = Ok tt
dictionary_answer (at_fault p) = Err (refused_at BadDictionary p)

-- the buffer is not too long and starts as a store does
unfoldable pub headed : List ℕ → Bool
headed b = leb (length b) max_store_bytes && eqb (word_at b 0) store_header && eqb (kind_at b 0) store_entry_kind

-- it has a missing count, and zeros from a place on
unfoldable pub closed_at : List ℕ → ℕ → ℕ → Bool
closed_at b end m = leb end (length b) && eqb (word_at b store_missing) m && all_of (λ x. eqb x 0) (drop end b)

-- the store in a buffer whose records are as they should be
unfoldable pub settled : List ℕ → Layout → ℕ → ℕ → Answer Store (Refused Refusal)
settled b l n m =
    cond (closed_at b (store_header + n * l.size) m) (Ok (record { layout = l; count = n; missing = m })) (Err (refused_at MalformedStore 0))

-- what a buffer holds as a store of a relation
abbrev pub store_of_relation : Relation → List ℕ → Result
store_of_relation r b = or_malformed (held_by (well_formed (listed r b) b) (listed r b))

unfoldable pub store_of : Contents → Store
store_of c = record { layout = layout_of c.relation; count = length c.records; missing = missing_count c }

abbrev pub opened_of : Result → Answer Store (Refused Refusal)
opened_of (holds c) = Ok (store_of c)
opened_of (refused x p) = Err (refused_at x p)

-- what opening promises: the store or the refusal, and the table
pub record Opens (x : Result) (t : List ℕ) (r : Answer Store (Refused Refusal)) : Type 0 where
  pub opened : r ≡ opened_of x
  pub laid : (c : Contents) → x ≡ holds c → Laid c.relation t
