-- The rows of a request: within its greatest sizes each is a run of stores of the numbers themselves.
use Prim.Native.Nat.{ℕ, zero, suc, ◌+◌, ◌*◌, ◌<◌, ◌≤◌}
use mathlib.Core.Path.{◌≡◌, refl}
use mathlib.Core.List.{List, [], ◌∷◌}
use native.Mathlib.Nat.{add-zero, mod-eq_of_lt}
use native.Mathlib.Omega.{arith}
use borrow.Author.Tests.{le-leb}
use lib.ListN.{length, set}
use lib.Seq.{sets}
use Rattle.wire.specs.Limits.{max_request_bytes, max_statements, max_contexts, statement_row_numbers, context_row_numbers}
use Rattle.wire.specs.Words.{byte_at}
use Rattle.wire.specs.declared.refused.Refused.{Refused}
use Rattle.std.specs.Prelude.{Option, Some, None, Ok, Err}
use Rattle.grammar.specs.declared.Cursor.{Cursor}
use Rattle.grammar.specs.declared.Refusal.{Refusal}
use Rattle.grammar.specs.Rows.{boolean_number}
use Rattle.grammar.specs.Reader.{with_conditions}
use Rattle.wire.specs.Internal.Columns.{statement_boolean}
use Rattle.tables.specs.Written.{in_table, with_statement_row, with_boolean, with_context_row, finished, listed, listed_number, numbered, with_place, with_number}

-- a place of a request, or a row of its statements, as a table holds it
pub in-table : (x : ℕ) → x ≤ max_request_bytes → in_table x ≡ x
in-table x h = mod-eq_of_lt (omega arith)

pub statement-row : (t : List ℕ) (row place code parent end : ℕ) → row ≤ max_statements → place ≤ max_request_bytes → parent ≤ max_statements →
    end ≤ max_request_bytes →
    with_statement_row t row place code parent end ≡ sets t (row * statement_row_numbers) (place ∷ code ∷ parent ∷ end ∷ [])
statement-row t row place code parent end r p a e =
    rw (le-leb row max_statements r, in-table place p, in-table parent (omega arith), in-table end e)

-- the number of a boolean
pub boolean-row : (t : List ℕ) (row n : ℕ) → row ≤ max_statements → n ≤ max_request_bytes →
    with_boolean t row n ≡ set t (row * statement_row_numbers + statement_boolean) n
boolean-row t row n r h = rw (le-leb row max_statements r, in-table n h)

pub context-row : (t : List ℕ) (row number place relation opener : ℕ) → row ≤ max_contexts → place ≤ max_request_bytes →
    with_context_row t row number place relation opener ≡
    sets t (row * context_row_numbers) (number ∷ place ∷ 0 ∷ 0 ∷ relation ∷ opener ∷ [])
context-row t row number place relation opener r p = rw (le-leb row max_contexts r, in-table place p)

-- the row of a statement that was passed
module _ (s t : List ℕ) (c : Cursor) (parent : ℕ) where
  pub finished-next : (end : Cursor) → c.statements ≤ max_statements → c.at ≤ max_request_bytes → parent ≤ max_statements →
      end.at ≤ max_request_bytes →
      finished s t c parent (Ok end) ≡
      sets t (c.statements * statement_row_numbers) (c.at ∷ byte_at s c.at ∷ parent ∷ end.at ∷ [])
  finished-next end = statement-row t c.statements c.at (byte_at s c.at) parent end.at

  pub finished-refused : (y : Refused Refusal) → finished s t c parent (Err y) ≡ t
  finished-refused y = refl

-- a number that is there
pub there-is : (p : ℕ) → 0 < p → listed_number p ≡ p ∷ []
there-is zero h = absurd (omega arith)
there-is (suc p) h = refl

-- the number and the place of a condition
module _ (c : Cursor) (few : c.conditions ≤ max_statements) where
  pub numbered_is : (place : Option ℕ) → numbered c place ≡ with_conditions c (length (listed place))
  numbered_is None = rw (add-zero c.conditions)
  numbered_is (Some p) = rw (le-leb c.conditions max_statements few)

  pub place-noted : (nd : List ℕ) (place : Option ℕ) → ((p : ℕ) → place ≡ Some p → p ≤ max_request_bytes) →
      with_place nd c place ≡ sets nd c.conditions (listed place)
  place-noted nd None h = refl
  place-noted nd (Some p) h = rw (le-leb c.conditions max_statements few, in-table p (h p refl))

  -- the row of its statement
  pub number-noted : (st : List ℕ) (row : ℕ) (place : Option ℕ) → row ≤ max_statements →
      with_number st row c place ≡
      sets st (row * statement_row_numbers + statement_boolean) (listed_number (boolean_number (length (listed place)) c.conditions))
  number-noted st row None r = refl
  number-noted st row (Some p) r =
      rw (le-leb c.conditions max_statements few, boolean-row st row (c.conditions + 1) r (omega arith), there-is (c.conditions + 1) (omega arith))
