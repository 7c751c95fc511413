-- Relations and fields by name and by id.
use Rattle.std.specs.Prelude.{ℕ, cond, List, eqb, ltb, length}
use Rattle.std.proofs.Math.Option.{Option, none, some, map}
use Rattle.std.proofs.Math.ListN.{get_elem?}
use Rattle.wire.specs.Lists.{find, index_of, same_bytes}
use Rattle.dictionary.specs.Format.{Format}
use Rattle.dictionary.specs.Dictionary.{Field, Relation}

-- how a request names a relation or a field: by a counted name, or by an id word
pub data Name : Type 0 where
  named : List ℕ → Name
  numbered : ℕ → Name

unfoldable pub relation_of : List Relation → Name → Option Relation
relation_of rs (named n) = find (λ r. same_bytes r.name n) rs
relation_of rs (numbered i) = find (λ r. eqb r.id i) rs

-- the id of a field
unfoldable pub field_of : Relation → Name → Option ℕ
field_of r (named n) = index_of (λ f. same_bytes f.name n) r.fields
field_of r (numbered i) = cond (ltb i (length r.fields)) (some i) none

abbrev pub field_format : Field → Format
field_format f = f.format

unfoldable pub format_of : Relation → ℕ → Option Format
format_of r i = map field_format (get_elem? r.fields i)
