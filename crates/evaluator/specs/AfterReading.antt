-- What an accepted reading leaves, and what a walk comes out as.
use Rattle.std.specs.Prelude.{ℕ, ◌+◌, ◌*◌, ◌≤◌, ◌<◌, ◌≡◌, cond, List, ◌++◌, eqb, get_or}
use Rattle.std.proofs.Math.Option.{Option, none, some}
use Rattle.std.proofs.Math.ListN.{get_elem?}
use Rattle.wire.specs.Codes as blr
use Rattle.wire.specs.Limits.{max_statements, statement_row_numbers}
use Rattle.dictionary.specs.Dictionary.{Relation}
use Rattle.wire.specs.declared.refused.Refused.{Refused}
use Rattle.wire.specs.Options.{refused_at}
use Rattle.grammar.specs.declared.Cursor.{Cursor}
use Rattle.grammar.specs.declared.Refusal.{Refusal}
use Rattle.grammar.specs.declared.Refusal.TheVariants.{Unknown}
use Rattle.grammar.specs.Tree.{Request}
use Rattle.grammar.specs.Sizes.{parameter_count, contexts_count}
use Rattle.grammar.specs.Rows.{parameter_rows, request_context_rows}
use Rattle.grammar.specs.Conditions.{request_conditions}
use Rattle.grammar.specs.Named.{from_value, FromTold}
use Rattle.grammar.specs.Reader.{read}
use Rattle.grammar.specs.Reading.{reading}
use Rattle.meaning.specs.declared.Truth.{Truth}
use Rattle.meaning.specs.Evaluation.{Outcome, answered, refusal, strayed, refusal_of}
use Rattle.meaning.specs.Demand.{Accepted}
use Rattle.walking.specs.Walk.{Walked, at, fault, astray}
use Rattle.values.specs.declared.Stop.{Stop}
use Rattle.values.specs.declared.Stop.TheVariants as Stop
use Rattle.surroundings.specs.Parameters.{ScaleBytes}
use Rattle.surroundings.specs.Tables.{condition_place}

-- the request and its relations; and the rows of m parameters and o contexts, whatever stands after them
pub record ReadSo (s d parameters contexts : List ℕ) (m o : ℕ) : Type 0 where
  pub relations : List Relation
  pub request : Request
  pub cursor : Cursor
  pub reads : reading s d ≡ read request cursor
  pub accepted : Accepted s d relations request
  pub scale_bytes : ScaleBytes request.messages
  pub more_parameters : List ℕ
  pub more_contexts : List ℕ
  pub parameter_rows : parameters ≡ parameter_rows request.messages ++ more_parameters
  pub context_rows : contexts ≡ request_context_rows relations request ++ more_contexts
  pub parameters_are : m ≡ parameter_count request.messages
  pub contexts_are : o ≡ contexts_count request.statements

-- and the place of each condition, 0 where there is none
pub record AfterReading (s d parameters contexts conditions : List ℕ) (m o : ℕ) : Type 0 where
  pub so : ReadSo s d parameters contexts m o
  pub noted : (n : ℕ) → get_or conditions n 0 ≡ condition_place (get_elem? (request_conditions so.relations so.request) n)

-- where the from-value of a row's statement stands, by the row's place and code, where the statement is an assignment
unfoldable pub from_place : List ℕ → ℕ → Option ℕ
from_place t row =
    cond (eqb (get_or t (row * statement_row_numbers + 1) 0) blr.assignment) (some (get_or t (row * statement_row_numbers) 0 + 1)) none

-- or the rows of n statements: what they tell of from-values
pub record RowsRead (s d parameters contexts statements : List ℕ) (n m o : ℕ) : Type 0 where
  pub so : ReadSo s d parameters contexts m o
  pub few : n ≤ max_statements
  pub told : (k : ℕ) → k < n → FromTold (from_value so.relations so.request k) (get_or statements (k * statement_row_numbers) 0)
      (get_or statements (k * statement_row_numbers + 1) 0)
  pub no_more : (k : ℕ) → n ≤ k → from_value so.relations so.request k ≡ none

-- the refusal of a walk that stopped, and its place
abbrev pub refused_by : Stop → Refused Refusal
refused_by (Stop.Refused f p) = refused_at (refusal_of f) p
refused_by Stop.Stray = refused_at Unknown 0

-- what a walk comes out as
abbrev pub settled : Walked Truth → Outcome Truth
settled (at t q) = answered t
settled (fault f p) = refusal (refusal_of f) p
settled astray = strayed
