-- The contexts in scope at a place, by the rows of the reader's table. 01: "Context row: number, place of the stream or modify code, scope
-- start, scope end, relation id (modify: of its from-ctx)."
use Rattle.std.specs.Prelude.{ℕ, zero, suc, ◌+◌, ◌*◌, Bool, true, false, ◌&&◌, List, [], ◌∷◌, map, leb, ltb, get_or}
use Rattle.std.proofs.Math.Option.{Option, none, some}
use Rattle.wire.specs.Internal.Columns.{context_number, context_start, context_end, context_relation}
use Rattle.wire.specs.Limits.{context_row_numbers}
use Rattle.dictionary.specs.Naming.{numbered}
use Rattle.dictionary.specs.Internal.Walk.{relation_place}

-- a context in scope: its number, and where its relation's entry stands in the dictionary
pub record Slot : Type 0 where
  pub number : ℕ
  pub relation : ℕ

-- number k of a row
abbrev pub cell : List ℕ → ℕ → ℕ → ℕ
cell t row k = get_or t (row * context_row_numbers + k) 0

-- whether the row's scope holds q: from its start on, and before its end
abbrev pub row_holds : List ℕ → ℕ → ℕ → Bool
row_holds t q row = leb (cell t row context_start) q && ltb q (cell t row context_end)

-- a place, and 0 where there is none
abbrev pub place_or : Option ℕ → ℕ
place_or none = 0
place_or (some p) = p

-- the context of a number and a relation id
abbrev pub slot_of : List ℕ → ℕ → ℕ → Slot
slot_of d number id = record { number = number; relation = place_or (relation_place d (numbered id)) }

-- a slot before the others, or left out
abbrev pub slot_if : Bool → Slot → List Slot → List Slot
slot_if true x xs = x ∷ xs
slot_if false x xs = xs

-- the contexts in scope at q, in n rows of the table from a row on, in the order of the rows
unfoldable pub slots_from : List ℕ → List ℕ → ℕ → ℕ → ℕ → List Slot
slots_from d t q zero row = []
slots_from d t q (suc n) row =
    slot_if (row_holds t q row) (slot_of d (cell t row context_number) (cell t row context_relation)) (slots_from d t q n (row + 1))

-- the places of the slots' relations, in their order
abbrev pub relations_in : List Slot → List ℕ
relations_in xs = map (λ x. x.relation) xs
