-- What travels together: what is read beside, and the tables, which stay those that were lent.
use Rattle.std.specs.Prelude.{ℕ, ◌≡◌, List, length}
use Rattle.grammar.specs.Environment.{Environment, Scope}
use Rattle.scopes.specs.Scopes.{scope_of}
use Rattle.references.specs.Promises.{environment_of}
use Rattle.tables.specs.Tables.{Tables, tables}
use Rattle.openings.specs.declared.beside.Beside.{Beside}
use Rattle.reader.specs.declared.rows.Rows.{Rows}

-- what stands around the statements, and a scope beside the dictionary
abbrev pub environment_in : Beside → Environment
environment_in b = environment_of b.dictionary.now b.around.now

abbrev pub scope_in : Beside → List ℕ → Scope
scope_in b sc = scope_of b.dictionary.now sc

-- what the tables hold
abbrev pub tables_in : Rows → Tables
tables_in r = tables r.statements.now r.contexts.now r.conditions.now

-- the same tables, of the same lengths
pub record Kept (r r' : Rows) : Type 0 where
  pub statements_same : r'.statements.ghost_name ≡ r.statements.ghost_name
  pub contexts_same : r'.contexts.ghost_name ≡ r.contexts.ghost_name
  pub conditions_same : r'.conditions.ghost_name ≡ r.conditions.ghost_name
  pub statements_long : length r'.statements.now ≡ length r.statements.now
  pub contexts_long : length r'.contexts.now ≡ length r.contexts.now
  pub conditions_long : length r'.conditions.now ≡ length r.conditions.now
