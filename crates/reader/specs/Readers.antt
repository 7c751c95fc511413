-- What each reader of statements promises: the reading of the definitions, and its rows in the tables.
use Rattle.std.specs.Prelude.{ℕ, ◌+◌, ◌-◌, ◌*◌, ◌≡◌, List, [], map, Result, Ok, Err}
use Rattle.std.proofs.lemmas.List.Edits.{sets}
use Rattle.wire.specs.Limits.{max_statements, statement_row_numbers}
use Rattle.wire.specs.Internal.Columns.{statement_boolean}
use Rattle.wire.specs.declared.refused.Refused.{Refused}
use Rattle.dictionary.specs.Dictionary.{Relation}
use Rattle.grammar.specs.declared.Cursor.{Cursor}
use Rattle.grammar.specs.declared.Refusal.{Refusal}
use Rattle.grammar.specs.Tree.{Statement, Statements, Receives}
use Rattle.grammar.specs.Environment.{Environment, Scope}
use Rattle.grammar.specs.Sizes.{own_conditions}
use Rattle.grammar.specs.Rows.{boolean_number, rows_below, statement_rows, statements_rows, receives_rows, context_rows, contexts_rows, receives_context_rows}
use Rattle.grammar.specs.Conditions.{Condition, conditions, statements_conditions, receives_conditions}
use Rattle.grammar.specs.Reader.{Read, refused}
use Rattle.grammar.specs.Statements.{Inner, inner, assignment_under, statement_under, if_under, many, many_receives, read_statement, read_receive}
use Rattle.scopes.specs.Scopes.{scope_of}
use Rattle.tables.specs.Tables.{Tables, tables, contexts_alone, after, cursor_after, Wrote}
use Rattle.tables.specs.Written.{listed_number, closed_after}
use Rattle.openings.specs.declared.heads.Coded.{Coded}
use Rattle.reader.specs.declared.statements.Level.{Level}
use Rattle.reader.specs.Given.{Given}

-- what the code answers: the cursor after what was read, or the refusal
abbrev pub Passed : Type 0
Passed = Result Cursor (Refused Refusal)

-- the level of a statement under another, which is counted up to a cursor, with so many levels left for it
abbrev pub level_under : Cursor → ℕ → Level
level_under c l = record { left = l; parent = c.statements }

abbrev pub level_below : Cursor → Level → Level
level_below c level = level_under c (level.left - 1)

-- the readers with l levels left
abbrev pub inner_at : ℕ → Environment → Inner
inner_at l e = inner (λ x. read_statement l e x) (λ x before. read_receive l e x before) l e

abbrev pub places : List Condition → List ℕ
places cs = map (λ x. x.place) cs

-- ---- a statement, and what stands under its code

abbrev pub statement_tables : List Relation → Scope → Statement → ℕ → ℕ → ℕ → ℕ → Tables
statement_tables rs sc t p n parent k =
    tables (statement_rows t p n parent k) (context_rows rs sc t p) (places (conditions rs sc t p))

abbrev pub StatementRead : Level → Environment → Scope → List ℕ → Cursor → Tables → Tables → Passed → Type 0
StatementRead level e sc s c t t' r =
    Wrote (read_statement level.left e sc s c) cursor_after c
    (λ x. statement_tables e.relations sc x c.at c.statements level.parent c.conditions) t t' r

-- what stands inside a statement at p
abbrev pub below_tables : Environment → Scope → ℕ → Cursor → Statement → Tables
below_tables e sc p c t =
    tables (rows_below t p c.statements c.conditions) (context_rows e.relations sc t p) (places (conditions e.relations sc t p))

-- the row of a statement, whose code is counted up to a cursor, with the number of its boolean where it has one
abbrev pub with_own : List ℕ → Cursor → Statement → List ℕ
with_own st c t =
    sets st ((c.statements - 1) * statement_row_numbers + statement_boolean) (listed_number (boolean_number (own_conditions t) c.conditions))

-- a statement that was read under its code: the number of its boolean in its row, and the rows of what stands inside it
pub record Under (x : Read Statement) (c : Cursor) (rows : Statement → Tables) (t t' : Tables) (r : Passed) : Type 0 where
  pub numbered : List ℕ
  pub number : numbered ≡ after (with_own t.statements c) numbered x
  pub wrote : Wrote x cursor_after c rows (tables numbered t.contexts t.conditions) t' r

abbrev pub CodedRead : ℕ → Environment → Scope → List ℕ → Coded → Tables → Tables → Passed → Type 0
CodedRead l e sc s x t t' r =
    Under (statement_under (inner_at l e) e sc x.at x.code s x.after) x.after (below_tables e sc x.at x.after) t t' r

-- what stands before the statement of one that opens a scope was read up to q, where that statement is due. Before it the tables and the
-- scope were t and sc, now they are t' and sc'. The scope of its contexts begins at `first`. A statement read from q on, after which their
-- rows get their scope, makes the whole
pub record OpenedRead (l : ℕ) (e : Environment) (s d : List ℕ) (x : Coded) (t t' : Tables) (sc sc' : List ℕ) (first q : Cursor) : Type 0 where
  pub given : Given s d sc' q l
  pub whole : {st₁ ct₁ nd₁ ct₂ : List ℕ} {r : Passed} →
      StatementRead (level_under x.after l) e (scope_of d sc') s q t' (tables st₁ ct₁ nd₁) r →
      ct₂ ≡ closed_after ct₁ x.after.contexts first r → CodedRead l e (scope_of d sc) s x t (tables st₁ ct₂ nd₁) r

-- if it is refused, so is the whole
pub record HeadingRead (l : ℕ) (e : Environment) (s d : List ℕ) (x : Coded) (t t' : Tables) (sc sc' : List ℕ)
    (b : Result (Cursor × Cursor) (Refused Refusal)) : Type 0 where
  pub refuses : {y : Refused Refusal} → b ≡ Err y →
      statement_under (inner_at l e) e (scope_of d sc) x.at x.code s x.after ≡ refused y.refusal y.place
  pub goes : {first q : Cursor} → b ≡ Ok (first, q) → OpenedRead l e s d x t t' sc sc' first q

-- an assignment writes the rows of contexts alone
abbrev pub AssignmentRead : ℕ → Environment → Scope → List ℕ → Coded → List ℕ → List ℕ → Passed → Type 0
AssignmentRead l e sc s x ct ct' r =
    Wrote (assignment_under (inner_at l e) e sc x.at s x.after) cursor_after x.after
    (λ t. contexts_alone (context_rows e.relations sc t x.at)) (contexts_alone ct) (contexts_alone ct') r

abbrev pub IfRead : ℕ → Environment → Scope → List ℕ → ℕ → Cursor → Tables → Tables → Passed → Type 0
IfRead l e sc s p c t t' r = Under (if_under (inner_at l e) sc s c) c (below_tables e sc p c) t t' r

-- ---- statements and receives, one after another

abbrev pub statements_tables : Environment → Scope → ℕ → Cursor → Statements → Tables
statements_tables e sc parent c ts =
    tables (statements_rows ts c.at c.statements parent c.conditions) (contexts_rows e.relations sc ts c.at)
    (places (statements_conditions e.relations sc ts c.at))

-- so many at most
abbrev pub ManyRead : ℕ → Level → Environment → Scope → List ℕ → Cursor → Tables → Tables → Passed → Type 0
ManyRead n level e sc s c t t' r =
    Wrote (many n (read_statement level.left e sc) s c) cursor_after c (statements_tables e sc level.parent c) t t' r

abbrev pub StatementsRead : Level → Environment → Scope → List ℕ → Cursor → Tables → Tables → Passed → Type 0
StatementsRead = ManyRead max_statements

abbrev pub receives_tables : Environment → Scope → ℕ → Cursor → Receives → Tables
receives_tables e sc parent c rs =
    tables (receives_rows rs c.at c.statements parent c.conditions) (receives_context_rows e.relations sc rs c.at)
    (places (receives_conditions e.relations sc rs c.at))

-- so many at most, beside the messages of those before
abbrev pub ReceivesRead : ℕ → List ℕ → Level → Environment → Scope → List ℕ → Cursor → Tables → Tables → Passed → Type 0
ReceivesRead n before level e sc s c t t' r =
    Wrote (many_receives n (read_receive level.left e sc) before s c) cursor_after c (receives_tables e sc level.parent c) t t' r

abbrev pub SelectRead : Level → Environment → Scope → List ℕ → Cursor → Tables → Tables → Passed → Type 0
SelectRead = ReceivesRead max_statements []
