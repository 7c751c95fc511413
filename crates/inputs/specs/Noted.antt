-- The table of fields: rows of four numbers, the entry of a relation, the index of a field, the field's entry and its offset in a
-- record, which is 0 in an empty row.
use Rattle.std.specs.Prelude.{ℕ, ◌+◌, ◌*◌, ◌%◌, ◌<◌, ◌≡◌, List, get_or, set, Option as Maybe, IfSome}
use Rattle.std.proofs.Math.Option.{some}
use Rattle.records.specs.declared.lengths.Located.{Located}
use Rattle.records.specs.Internal.Locations.{located_in, located_of}

-- which of the 64 rows is that of field i of the relation whose entry stands at r, and where it begins
unfoldable pub row_of : ℕ → ℕ → ℕ
row_of r i = (r % 64 + i % 64) % 64

abbrev pub row_place : ℕ → ℕ → ℕ
row_place r i = row_of r i * 4

-- the table with a row written at p
abbrev pub with_row : List ℕ → ℕ → ℕ → ℕ → ℕ → ℕ → List ℕ
with_row t p r i e o = set (set (set (set t p r) (p + 1) i) (p + 2) e) (p + 3) o

-- a table is right for a dictionary: where the row of a field is not empty and has that field, its entry and its offset are the field's
pub record Noted (d t : List ℕ) : Type 0 where
  pub right : (r i : ℕ) → get_or t (row_place r i) 0 ≡ r → get_or t (row_place r i + 1) 0 ≡ i → (get_or t (row_place r i + 3) 0 ≡ 0 → ⊥) →
      located_in d r i ≡ some (get_or t (row_place r i + 2) 0, get_or t (row_place r i + 3) 0)

-- a table that was right still is
abbrev pub StaysNoted : List ℕ → List ℕ → List ℕ → Type 0
StaysNoted d t u = Noted d t → Noted d u

-- what the code located for field i of the relation at r, beside a table
pub record LocatedBy (d t : List ℕ) (r i : ℕ) (x : Maybe Located) : Type 0 where
  pub so : Noted d t → located_of x ≡ located_in d r i
  pub narrow : IfSome x (λ l. l.offset < 4294967296)
