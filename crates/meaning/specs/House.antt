-- What a dictionary says: its relations and fields, by length words and kinds. None of a dictionary's rules is tested.
use Rattle.std.specs.Prelude.{ℕ, zero, suc, ◌+◌, Bool, true, false, cond, List, [], ◌∷◌, eqb, ltb, length}
use Rattle.wire.specs.Words.{byte_at, word_at}
use Rattle.wire.specs.Classes.{Class, due, left_out, foreign, field_class}
use Rattle.wire.specs.declared.codes.FieldType.{FieldType}
use Rattle.dictionary.specs.Dictionary.{Relation, name_at, field_at, with_field}

-- 01: "Kind 1: relation id word, counted name."
abbrev pub relation_said : List ℕ → ℕ → Relation
relation_said d p = record { place = p; id = word_at d (p + 4); name = name_at d (p + 6); fields = [] }

-- 01: "Kind 2, a field of the last relation: id word .., type byte, scale byte, size word .., counted name."
-- The last relation stands first.
abbrev pub field_said : List ℕ → ℕ → Class FieldType → List Relation → List Relation
field_said d p c [] = []
field_said d p (due t) (r ∷ rs) = with_field r (field_at d p t) ∷ rs
field_said d p left_out (r ∷ rs) = r ∷ rs
field_said d p foreign (r ∷ rs) = r ∷ rs

-- the relations with what the entry at p says
unfoldable pub entry_said : List ℕ → ℕ → List Relation → List Relation
entry_said d p rs =
    cond (eqb (word_at d (p + 2)) 1) (relation_said d p ∷ rs)
    (cond (eqb (word_at d (p + 2)) 2) (field_said d p (field_class (byte_at d (p + 6))) rs) rs)

-- by whether bytes are left
abbrev pub on_entry : Bool → List Relation → (List Relation → List Relation) → List Relation
on_entry false rs next = rs
on_entry true rs next = next rs

-- 01: "An entry is a length word (the whole entry), a kind word, a body." The entries from p on, n at most
unfoldable pub entries_said : ℕ → List ℕ → ℕ → List Relation → List Relation
entries_said zero d p rs = rs
entries_said (suc n) d p rs = on_entry (ltb p (length d)) rs (λ rs'. entries_said n d (p + word_at d p) (entry_said d p rs'))

unfoldable pub house : List ℕ → List Relation
house d = entries_said (length d) d 0 []
