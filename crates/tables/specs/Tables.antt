-- The tables that a reader writes, and what it promises of them.
use Rattle.std.specs.Prelude.{ℕ, ◌+◌, ◌*◌, ◌≡◌, List, [], ◌++◌, Result, Ok, Err}
use Rattle.std.proofs.lemmas.List.Edits.{sets}
use Rattle.wire.specs.Codes as blr
use Rattle.wire.specs.Limits.{statement_row_numbers, context_row_numbers}
use Rattle.wire.specs.Options.{refused_at}
use Rattle.wire.specs.declared.refused.Refused.{Refused}
use Rattle.dictionary.specs.Dictionary.{Relation}
use Rattle.grammar.specs.declared.Cursor.{Cursor}
use Rattle.grammar.specs.declared.Refusal.{Refusal}
use Rattle.grammar.specs.Tree.{Heading, loop, modify, handler, receive, send, store, label}
use Rattle.grammar.specs.Environment.{Scope, stream_context, modify_context}
use Rattle.grammar.specs.Rows.{context_row}
use Rattle.grammar.specs.Reader.{Read, read, refused}

-- the rows of statements and of contexts, and the places of conditions
pub record Tables : Type 0 where
  pub statements : List ℕ
  pub contexts : List ℕ
  pub conditions : List ℕ

abbrev pub tables : List ℕ → List ℕ → List ℕ → Tables
tables st ct nd = record { statements = st; contexts = ct; conditions = nd }

-- contexts alone
abbrev pub contexts_alone : List ℕ → Tables
contexts_alone ct = tables [] ct []

abbrev pub nothing : Tables
nothing = tables [] [] []

abbrev pub joined : Tables → Tables → Tables
joined x y = tables (x.statements ++ y.statements) (x.contexts ++ y.contexts) (x.conditions ++ y.conditions)

-- the tables with rows from a cursor on
abbrev pub laid : Tables → Cursor → Tables → Tables
laid t c rows =
    tables (sets t.statements (c.statements * statement_row_numbers) rows.statements)
    (sets t.contexts (c.contexts * context_row_numbers) rows.contexts)
    (sets t.conditions c.conditions rows.conditions)

-- the row of a heading at p, whose scope is not yet known
abbrev pub open_row : List Relation → Scope → Heading → ℕ → List ℕ
open_row rs sc loop p = []
open_row rs sc (modify from to) p = context_row (modify_context sc from to) p 0 0
open_row rs sc handler p = []
open_row rs sc (receive m) p = []
open_row rs sc (send m) p = []
open_row rs sc (store s) p = context_row (stream_context rs blr.store s) (p + 1) 0 0
open_row rs sc (label n) p = []

-- something after a reading: made of what was read, or whatever it is after a refusal
abbrev pub after : {A B : Type 0} → (A → B) → B → Read A → B
after f other (read a c) = f a
after f other (refused r p) = other

-- the answer of a reading, made of what was read and the cursor after it
abbrev pub result_of : {A R : Type 0} → (A → Cursor → R) → Read A → Result R (Refused Refusal)
result_of k (read a c) = Ok (k a c)
result_of k (refused r p) = Err (refused_at r p)

-- the cursor alone
abbrev pub cursor_after : {A : Type 0} → A → Cursor → Cursor
cursor_after a c = c

-- a part of what was read, with the cursor
abbrev pub with_part : {A B : Type 0} → (A → B) → A → Cursor → B × Cursor
with_part f a c = (f a, c)

-- a reading that wrote rows from a cursor on; after a refusal the tables are free
pub record Wrote {A R : Type 0} (x : Read A) (k : A → Cursor → R) (c : Cursor) (rows : A → Tables) (t t' : Tables)
    (r : Result R (Refused Refusal)) : Type 0 where
  pub answer : r ≡ result_of k x
  pub filled : t' ≡ after (λ a. laid t c (rows a)) t' x
