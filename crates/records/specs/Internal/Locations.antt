-- Where a field stands: its entry in the dictionary, and its bytes in a record's entry.
use Rattle.std.specs.Prelude.{ℕ, cond, List, leb, take, Option as Maybe, Some, None}
use Rattle.std.proofs.Math.Option.{Option, none, some}
use Rattle.std.proofs.Math.ListN.{get_elem?}
use Rattle.wire.specs.Limits.{max_record_bytes}
use Rattle.dictionary.specs.Internal.Walk.{fields_from, fields_of, relation_at}
use Rattle.records.specs.declared.lengths.Located.{Located}
use Rattle.records.specs.Record.{offset_of}
use Rattle.records.specs.Internal.Answers.{all_held}

-- an entry and an offset, if there is an entry and the offset is not past the longest record; 01: "4,096 bytes a record entry"
abbrev pub in_record : Option ℕ → ℕ → Option (ℕ × ℕ)
in_record none n = none
in_record (some q) n = cond (leb n max_record_bytes) (some (q, n)) none

-- field i of the relation whose entry stands at r
unfoldable pub located_in : List ℕ → ℕ → ℕ → Option (ℕ × ℕ)
located_in d r i = in_record (get_elem? (fields_of d r) i) (offset_of (relation_at d r) i)

-- field i of those from q on, with the bytes of the fields before it
unfoldable pub reached_from : List ℕ → ℕ → ℕ → Option (ℕ × ℕ)
reached_from d q i = in_record (get_elem? (fields_from d q) i) (all_held d (take i (fields_from d q)))

-- what the code's answer stands for
abbrev pub located_of : Maybe Located → Option (ℕ × ℕ)
located_of None = none
located_of (Some x) = some (x.entry, x.offset)
