-- The house dictionary: proper, or the first entry at fault.
use Rattle.std.specs.Prelude.{ℕ, zero, suc, ◌+◌, Bool, true, false, cond, not, ◌&&◌, List, [], ◌∷◌, ◌++◌, eqb, leb, ltb, length, take, drop}
use Rattle.std.proofs.Math.Option.{Option, none, some}
use Rattle.wire.specs.Words.{byte_at, word_at}
use Rattle.wire.specs.Limits.{max_dictionary_bytes, max_relations, max_fields, max_name_bytes, first_name_byte, last_name_byte}
use Rattle.wire.specs.Entries.{entry_kind, relation_entry_kind, field_entry_kind, entry_id, relation_name, field_type, field_scale, field_size, field_name}
use Rattle.wire.specs.Lists.{any_of, all_of, same_bytes}
use Rattle.wire.specs.Classes.{Class, due, left_out, foreign, field_class}
use Rattle.wire.specs.declared.codes.FieldType.{FieldType}
use Rattle.dictionary.specs.Format.{Format, fitting}

-- a field: the place of its entry, its format and its name
pub record Field : Type 0 where
  pub place : ℕ
  pub format : Format
  pub name : List ℕ

-- a relation: the place of its entry, its id, its name, and its fields in the order of their ids
pub record Relation : Type 0 where
  pub place : ℕ
  pub id : ℕ
  pub name : List ℕ
  pub fields : List Field

-- the kind word of the entry at p
abbrev pub kind_at : List ℕ → ℕ → ℕ
kind_at d p = word_at d (p + entry_kind)

-- a counted name: a count byte and so many bytes
abbrev pub name_at : List ℕ → ℕ → List ℕ
name_at d p = take (byte_at d p) (drop (p + 1) d)

-- 01: "Names have 1 to 31 bytes of 33–126."
unfoldable pub good_name : List ℕ → Bool
good_name n = leb 1 (length n) && leb (length n) max_name_bytes && all_of (λ x. leb first_name_byte x && leb x last_name_byte) n

-- 01: "An entry is a length word (the whole entry), a kind word, a body."
-- The counted name, which ends the entry, stands k bytes from its start.
abbrev pub whole_entry : List ℕ → ℕ → ℕ → Bool
whole_entry d p k = eqb (word_at d p) (k + 1 + byte_at d (p + k)) && leb (p + word_at d p) (length d)

-- 01: "Kind 1: relation id word, counted name." "Relation ids, relation names .. do not repeat." "32 relations"
abbrev pub relation_fits : List ℕ → ℕ → List Relation → Bool
relation_fits d p rs =
    whole_entry d p relation_name && good_name (name_at d (p + relation_name)) && ltb (length rs) max_relations &&
    not (any_of (λ r. eqb r.id (word_at d (p + entry_id))) rs) && not (any_of (λ r. same_bytes r.name (name_at d (p + relation_name))) rs)

unfoldable pub relation_entry : List ℕ → ℕ → List Relation → Option (List Relation)
relation_entry d p rs =
    cond (relation_fits d p rs)
    (some (record { place = p; id = word_at d (p + entry_id); name = name_at d (p + relation_name); fields = [] } ∷ rs)) none

-- 01: "Kind 2, a field of the last relation: id word (0, 1, 2.. in order), type byte, scale byte, size word (2, 4, 8 or n), counted name."
-- "field names inside a relation do not repeat"; "64 fields each"
abbrev pub field_fits : List ℕ → ℕ → FieldType → Relation → Bool
field_fits d p t r =
    whole_entry d p field_name && eqb (word_at d (p + entry_id)) (length r.fields) &&
    fitting t (byte_at d (p + field_scale)) (word_at d (p + field_size)) &&
    good_name (name_at d (p + field_name)) && ltb (length r.fields) max_fields &&
    not (any_of (λ f. same_bytes f.name (name_at d (p + field_name))) r.fields)

abbrev pub field_at : List ℕ → ℕ → FieldType → Field
field_at d p t =
    record {
      place = p;
      format = record { type = t; scale = byte_at d (p + field_scale); size = word_at d (p + field_size) };
      name = name_at d (p + field_name);
    }

abbrev pub with_field : Relation → Field → Relation
with_field r f = record { place = r.place; id = r.id; name = r.name; fields = r.fields ++ (f ∷ []) }

unfoldable pub field_entry : List ℕ → ℕ → Class FieldType → List Relation → Option (List Relation)
field_entry d p c [] = none
field_entry d p foreign (r ∷ rs) = none
field_entry d p left_out (r ∷ rs) = none
field_entry d p (due t) (r ∷ rs) = cond (field_fits d p t r) (some (with_field r (field_at d p t) ∷ rs)) none

-- the relations with the entry at p, the last relation first; 01: "The dictionary is whole entries of kinds 1 and 2."
unfoldable pub entry : List ℕ → ℕ → List Relation → Option (List Relation)
entry d p rs =
    cond (eqb (kind_at d p) relation_entry_kind) (relation_entry d p rs)
    (cond (eqb (kind_at d p) field_entry_kind) (field_entry d p (field_class (byte_at d (p + field_type))) rs) none)

-- the relations of a proper dictionary, or the start of the first entry at fault
pub data Checked : Type 0 where
  proper : List Relation → Checked
  at_fault : ℕ → Checked

-- by whether bytes are left, and what the entry there gives
abbrev pub next_entry : Bool → Option (List Relation) → ℕ → List Relation → (List Relation → Checked) → Checked
next_entry false e p rs next = proper rs
next_entry true none p rs next = at_fault p
next_entry true (some rs') p rs next = next rs'

-- the entries from p on; an entry has bytes, so that n of them reach n bytes on
unfoldable pub entries : ℕ → List ℕ → ℕ → List Relation → Checked
entries zero d p rs = proper rs
entries (suc n) d p rs =
    next_entry (ltb p (length d)) (entry d p rs) p rs (λ rs'. entries n d (p + word_at d p) rs')

-- 01: "Request and dictionary 65,535 bytes."; refusal 3: "entry start; 0 if too long"
unfoldable pub dictionary : List ℕ → Checked
dictionary d = cond (leb (length d) max_dictionary_bytes) (entries (length d) d 0 []) (at_fault 0)
