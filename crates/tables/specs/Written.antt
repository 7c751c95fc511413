-- What the functions of the tables write, for any numbers.
use Rattle.std.specs.Prelude.{ℕ, zero, suc, Option, Some, None, Result, Ok, Err, ◌+◌, ◌-◌, ◌*◌, ◌%◌, cond, ◌&&◌, List, [], ◌∷◌, leb, set}
use Rattle.std.proofs.lemmas.List.Edits.{sets}
use Rattle.wire.specs.Limits.{max_statements, max_contexts, statement_row_numbers, context_row_numbers}
use Rattle.wire.specs.Internal.Columns.{statement_boolean, context_start, context_end}
use Rattle.wire.specs.Words.{byte_at}
use Rattle.wire.specs.declared.refused.Refused.{Refused}
use Rattle.grammar.specs.declared.Cursor.{Cursor}
use Rattle.grammar.specs.declared.Refusal.{Refusal}
use Rattle.grammar.specs.Reader.{with_conditions}

-- a number as a table holds it, in 32 bits
abbrev pub in_table : ℕ → ℕ
in_table x = x % 4294967296

-- the row of a statement but for the number of its boolean; a row above the greatest count is not written
abbrev pub with_statement_row : List ℕ → ℕ → ℕ → ℕ → ℕ → ℕ → List ℕ
with_statement_row t row place code parent end =
    cond (leb row max_statements) (sets t (row * statement_row_numbers) (in_table place ∷ code ∷ in_table parent ∷ in_table end ∷ [])) t

-- a number as that of the boolean of a statement; a row above the greatest count is not written
abbrev pub with_boolean : List ℕ → ℕ → ℕ → List ℕ
with_boolean t row n = cond (leb row max_statements) (set t (row * statement_row_numbers + statement_boolean) (in_table n)) t

-- the row of a context whose scope is not yet known; a row above the greatest count is not written
abbrev pub with_context_row : List ℕ → ℕ → ℕ → ℕ → ℕ → ℕ → List ℕ
with_context_row t row number place relation opener =
    cond (leb row max_contexts) (sets t (row * context_row_numbers) (number ∷ in_table place ∷ 0 ∷ 0 ∷ relation ∷ opener ∷ [])) t

-- a statement that was passed, whose code stands at a cursor
abbrev pub finished : List ℕ → List ℕ → Cursor → ℕ → Result Cursor (Refused Refusal) → List ℕ
finished s t c parent (Ok end) = with_statement_row t c.statements c.at (byte_at s c.at) parent end.at
finished s t c parent (Err r) = t

-- the scope of n contexts from a row on
unfoldable pub closed : List ℕ → ℕ → ℕ → ℕ → ℕ → List ℕ
closed ct row zero start end = ct
closed ct row (suc n) start end =
    closed (set (set ct (row * context_row_numbers + context_start) (in_table start)) (row * context_row_numbers + context_end) (in_table end))
    (row + 1) n start end

-- the contexts from a row on that were opened up to a cursor, whose scope ends where what stands in it was passed
abbrev pub closed_after : List ℕ → ℕ → Cursor → Result Cursor (Refused Refusal) → List ℕ
closed_after ct row c (Ok end) =
    cond (leb row c.contexts && leb c.contexts max_contexts) (closed ct row (c.contexts - row) c.at end.at) ct
closed_after ct row c (Err r) = ct

-- ---- conditions

-- a place, or none, as a list
abbrev pub listed : Option ℕ → List ℕ
listed None = []
listed (Some p) = p ∷ []

-- the number plus one of a condition, or 0 for none, as a list
abbrev pub listed_number : ℕ → List ℕ
listed_number zero = []
listed_number (suc n) = suc n ∷ []

-- the condition at a place has the next number; a number that no request reaches is not given
abbrev pub numbered : Cursor → Option ℕ → Cursor
numbered c None = c
numbered c (Some p) = cond (leb c.conditions max_statements) (with_conditions c 1) c

-- the number plus one of a condition, written into the row of its statement
abbrev pub with_number : List ℕ → ℕ → Cursor → Option ℕ → List ℕ
with_number st row c None = st
with_number st row c (Some p) = cond (leb c.conditions max_statements) (with_boolean st row (c.conditions + 1)) st

-- the place of a condition, written at its number
abbrev pub with_place : List ℕ → Cursor → Option ℕ → List ℕ
with_place nd c None = nd
with_place nd c (Some p) = cond (leb c.conditions max_statements) (set nd c.conditions (in_table p)) nd
