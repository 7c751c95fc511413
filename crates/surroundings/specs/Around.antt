-- What a field of a record gives, and what a parameter gives by the rows of the parameters.
use Rattle.std.specs.Prelude.{ℕ, List}
use Rattle.dictionary.specs.Naming.{Name, field_of}
use Rattle.dictionary.specs.Internal.Walk.{relation_at}
use Rattle.meaning.specs.Inputs.{Fetched, on_found, value_at, field_in}
use Rattle.surroundings.specs.Parameters.{parameter_from}

-- the field that a name says, of the relation whose entry stands at a place of the dictionary
abbrev pub slot_field : List ℕ → List ℕ → Name → ℕ → ℕ → Fetched
slot_field d rows n r p = on_found (field_of (relation_at d r) n) (field_in (relation_at d r) rows p)

-- parameter i of message m
unfoldable pub row_value : List ℕ → ℕ → List ℕ → ℕ → ℕ → Fetched
row_value t count images m i = on_found (parameter_from t m i count 0 0) (λ x. value_at x.0 images x.1)
