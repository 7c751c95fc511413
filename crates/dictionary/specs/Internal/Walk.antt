-- How the code goes through a dictionary of any bytes: from entry to entry by their length words. What is proper is said in Dictionary;
-- what the walk finds in a proper dictionary is a theorem.
use Rattle.std.specs.Prelude.{ℕ, zero, suc, ◌+◌, ◌-◌, Bool, true, false, cond, not, ◌&&◌, ◌||◌, List, [], ◌∷◌, map, eqb, leb, ltb, length}
use Rattle.std.proofs.Math.Option.{Option, none, some}
use Rattle.wire.specs.Words.{byte_at, word_at}
use Rattle.wire.specs.Limits.{max_dictionary_bytes, max_relations, max_fields}
use Rattle.wire.specs.Entries.{relation_entry_kind, field_entry_kind, entry_id, relation_name, field_type, field_scale, field_size, field_name}
use Rattle.wire.specs.Lists.{any_of, same_bytes}
use Rattle.wire.specs.Classes.{Class, due, left_out, foreign, field_class}
use Rattle.wire.specs.declared.codes.FieldType.{FieldType}
use Rattle.wire.specs.declared.codes.FieldType.TheVariants.{Reading}
use Rattle.dictionary.specs.declared.check.Met.{Met}
use Rattle.dictionary.specs.Format.{fitting}
use Rattle.dictionary.specs.Dictionary.{Field, Relation, kind_at, name_at, good_name, whole_entry, field_at}
use Rattle.dictionary.specs.Naming.{Name, named, numbered}

-- ---- the places of entries

-- q and the rest, if q stands for an entry
abbrev pub placed : Bool → ℕ → List ℕ → List ℕ
placed true q rest = q ∷ rest
placed false q rest = []

-- the entries from q on that start below e, n at most; an entry of length 0 ends them
unfoldable pub places : ℕ → List ℕ → ℕ → ℕ → List ℕ
places zero d q e = []
places (suc n) d q e = placed (ltb q e && ltb 0 (word_at d q)) q (places n d (q + word_at d q) e)

unfoldable pub between : List ℕ → ℕ → ℕ → List ℕ
between d q e = places (e - q) d q e

-- the entry at q is a field's
unfoldable pub is_field : List ℕ → ℕ → Bool
is_field d q = ltb q (length d) && ltb 0 (word_at d q) && eqb (kind_at d q) field_entry_kind

-- the fields from q on up to the first other entry, n at most
unfoldable pub field_places : ℕ → List ℕ → ℕ → List ℕ
field_places zero d q = []
field_places (suc n) d q = placed (is_field d q) q (field_places n d (q + word_at d q))

-- all of them
unfoldable pub fields_from : List ℕ → ℕ → List ℕ
fields_from d q = field_places (length d) d q

-- the fields of the relation whose entry stands at r
unfoldable pub fields_of : List ℕ → ℕ → List ℕ
fields_of d r = fields_from d (r + word_at d r)

-- the place after the entry at q, or the end
unfoldable pub next_place : List ℕ → ℕ → ℕ
next_place d q = cond (ltb (q + word_at d q) (length d)) (q + word_at d q) (length d)

-- ---- the check

-- the entry at q is a relation's with the id or the name of the one at p
unfoldable pub same_relation : List ℕ → ℕ → ℕ → Bool
same_relation d p q =
    eqb (kind_at d q) relation_entry_kind &&
    (eqb (word_at d (q + entry_id)) (word_at d (p + entry_id)) || same_bytes (name_at d (q + relation_name)) (name_at d (p + relation_name)))

-- the entry at q is a field's with the name of the one at p
unfoldable pub same_field : List ℕ → ℕ → ℕ → Bool
same_field d p q = eqb (kind_at d q) field_entry_kind && same_bytes (name_at d (q + field_name)) (name_at d (p + field_name))

unfoldable pub relation_good : List ℕ → ℕ → Met → Bool
relation_good d p m =
    whole_entry d p relation_name && good_name (name_at d (p + relation_name)) && ltb m.relations max_relations &&
    not (any_of (same_relation d p) (between d 0 p))

unfoldable pub field_good : List ℕ → ℕ → FieldType → Met → Bool
field_good d p t m =
    whole_entry d p field_name && eqb (word_at d (p + entry_id)) m.fields &&
    fitting t (byte_at d (p + field_scale)) (word_at d (p + field_size)) &&
    good_name (name_at d (p + field_name)) && ltb m.fields max_fields && not (any_of (same_field d p) (between d m.last p))

unfoldable pub field_met : List ℕ → ℕ → Class FieldType → Met → Option Met
field_met d p foreign m = none
field_met d p left_out m = none
field_met d p (due t) m =
    cond (ltb 0 m.relations && field_good d p t m)
    (some (record { relations = m.relations; fields = m.fields + 1; last = m.last })) none

unfoldable pub relation_met : List ℕ → ℕ → Met → Option Met
relation_met d p m = cond (relation_good d p m) (some (record { relations = m.relations + 1; fields = 0; last = p })) none

-- what is met with the entry at p, if it is good
unfoldable pub meet : List ℕ → ℕ → Met → Option Met
meet d p m =
    cond (eqb (kind_at d p) relation_entry_kind) (relation_met d p m)
    (cond (eqb (kind_at d p) field_entry_kind) (field_met d p (field_class (byte_at d (p + field_type))) m) none)

-- by whether bytes are left, and what is met there: none if all entries are good, or the place of the first at fault
abbrev pub on_met : Bool → Option Met → ℕ → (Met → Option ℕ) → Option ℕ
on_met false x p next = none
on_met true none p next = some p
on_met true (some m) p next = next m

unfoldable pub fault_from : ℕ → List ℕ → ℕ → Met → Option ℕ
fault_from zero d p m = none
fault_from (suc n) d p m = on_met (ltb p (length d)) (meet d p m) p (λ m'. fault_from n d (p + word_at d p) m')

unfoldable pub fault : List ℕ → Option ℕ
fault d = cond (leb (length d) max_dictionary_bytes) (fault_from (length d) d 0 (record { relations = 0; fields = 0; last = 0 })) (some 0)

-- ---- looking up

-- a place that passes, unless a later one did
abbrev pub later : Option ℕ → Bool → ℕ → Option ℕ
later (some z) b x = some z
later none true x = some x
later none false x = none

-- the last place that passes a test
unfoldable pub last_of : (ℕ → Bool) → List ℕ → Option ℕ
last_of test [] = none
last_of test (x ∷ l) = later (last_of test l) (test x) x

-- the entry at q is a relation's of a name or an id
unfoldable pub is_named : List ℕ → Name → ℕ → Bool
is_named d (named n) q = eqb (kind_at d q) relation_entry_kind && same_bytes (name_at d (q + relation_name)) n
is_named d (numbered i) q = eqb (kind_at d q) relation_entry_kind && eqb (word_at d (q + entry_id)) i

-- the field of the entry at q has a name
abbrev pub has_name : List ℕ → List ℕ → ℕ → Bool
has_name d n q = same_bytes (name_at d (q + field_name)) n

-- the last entry that passes a test; a dictionary that is too long has none
abbrev pub last_place : List ℕ → (ℕ → Bool) → Option ℕ
last_place d t = cond (leb (length d) max_dictionary_bytes) (last_of t (between d 0 (length d))) none

-- the place of a relation's entry
unfoldable pub relation_place : List ℕ → Name → Option ℕ
relation_place d n = last_place d (is_named d n)

-- the type of a field's entry; any other code counts as a reading, which no proper dictionary has
abbrev pub type_of : Class FieldType → FieldType
type_of (due t) = t
type_of left_out = Reading
type_of foreign = Reading

unfoldable pub entry_field : List ℕ → ℕ → Field
entry_field d q = field_at d q (type_of (field_class (byte_at d (q + field_type))))

-- the relation whose entry stands at r, as its bytes and those of the fields after it say
unfoldable pub relation_at : List ℕ → ℕ → Relation
relation_at d r =
    record { place = r; id = word_at d (r + entry_id); name = name_at d (r + relation_name); fields = map (entry_field d) (fields_of d r) }
