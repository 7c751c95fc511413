-- What the reader of a whole request promises.
use Rattle.std.specs.Prelude.{ℕ, ◌≤◌, ◌≡◌, cond, List, [], leb, length, replicate, Result, Ok, Err}
use Rattle.std.proofs.lemmas.List.Edits.{sets}
use Rattle.dictionary.specs.Dictionary.{Relation, Checked, proper, at_fault, dictionary}
use Rattle.wire.specs.declared.codes.Version.{Version}
use Rattle.wire.specs.Options.{refused_at}
use Rattle.wire.specs.declared.refused.Refused.{Refused}
use Rattle.grammar.specs.declared.Cursor.{Cursor}
use Rattle.grammar.specs.declared.Counts.{Counts}
use Rattle.grammar.specs.declared.Refusal.{Refusal}
use Rattle.grammar.specs.Tree.{Request}
use Rattle.grammar.specs.Sizes.{parameter_count}
use Rattle.grammar.specs.Rows.{request_statement_rows, parameter_rows, request_context_rows}
use Rattle.grammar.specs.Conditions.{request_conditions}
use Rattle.wire.specs.Codes as blr
use Rattle.wire.specs.Limits.{max_request_bytes, max_messages, parameter_table_numbers}
use Rattle.grammar.specs.declared.Refusal.TheVariants.{TablesTooShort, RequestTooLong, BadDictionary, NotDue}
use Rattle.grammar.specs.Reader.{Read, read, refused, Reader, ◌>>=◌, ◌>>◌, return, place, code, count_statement}
use Rattle.grammar.specs.Reading.{answer, room, nothing_more, version, outer_statements}
use Rattle.grammar.specs.Messages.{messages}
use Rattle.grammar.specs.Internal.Steps.{answer_of}
use Rattle.grammar.specs.Demands.{Octets}
use Rattle.grammar.specs.Answered.{Answered}
use Rattle.openings.specs.Streams.{relations}
use Rattle.tables.specs.Tables.{Tables, tables, after}
use Rattle.reader.specs.Readers.{places}

-- the rows of a request, and the places of its conditions
abbrev pub request_tables : List ℕ → Request → Tables
request_tables d r = tables (request_statement_rows r) (request_context_rows (relations d) r) (places (request_conditions (relations d) r))

-- rows laid over tables from their starts on
abbrev pub over : Tables → Tables → Tables
over t rows =
    tables (sets t.statements 0 rows.statements) (sets t.contexts 0 rows.contexts) (sets t.conditions 0 rows.conditions)

-- a request that was read, with its rows in the tables: the answer tells how many rows of parameters
pub record Requested (x : Read Request) (d pt pt' : List ℕ) (t t' : Tables)
    (r : Result (ℕ × Cursor) (Refused Refusal)) : Type 0 where
  pub answer_is : r ≡ answer_of (λ q. parameter_count q.messages) x
  pub parameters_filled : pt' ≡ after (λ q. sets pt 0 (parameter_rows q.messages)) pt' x
  pub filled : t' ≡ after (λ q. over t (request_tables d q)) t' x

-- the places of the conditions of an accepted request over zeros, or zeros
unfoldable pub condition_table : List ℕ → Read Request → ℕ → List ℕ
condition_table d (read r c) n = sets (replicate n 0) 0 (places (request_conditions (relations d) r))
condition_table d (refused x p) n = replicate n 0

-- a reading, with the places of its conditions
pub record AnsweredNoting (s d st pa ct nd st' pa' ct' nd' : List ℕ) (r : Result Counts (Refused Refusal)) : Type 0 where
  pub answered : Answered s d st pa ct st' pa' ct' r
  pub conditions_filled : nd' ≡ condition_table d (answer s d (length st) (length pa) (length ct)) (length nd)

-- ---- the parts of a request, before its messages and after its statements

unfoldable pub head_of : Reader Version
head_of = do
  v ← version
  p ← place
  code blr.begin NotDue
  count_statement p
  return v

unfoldable pub end_of : Reader (Unit {0})
end_of = do
  code blr.eoc NotDue
  nothing_more

-- messages, statements and the end
unfoldable pub body_of : Version → List Relation → Reader Request
body_of v d = do
  ms ← messages v max_messages []
  ss ← outer_statements v d ms
  end_of
  return (record { version = v; messages = ms; statements = ss })

-- ---- what is given

pub record Beside (s d pt : List ℕ) : Type 0 where
  pub short : length s ≤ max_request_bytes
  pub is-proper : dictionary d ≡ proper (relations d)
  pub octets : Octets s
  pub room : parameter_table_numbers ≤ length pt

-- the cursor after the head
pub record Begun (s d pt : List ℕ) (c : Cursor) : Type 0 where
  pub beside : Beside s d pt
  pub place : c.at ≡ 2
  pub inside : 2 ≤ length s
  pub statements : c.statements ≡ 1
  pub contexts : c.contexts ≡ 0
  pub conditions : c.conditions ≡ 0

-- ---- what comes before the request's first byte

-- 01: "Order: 1, 2, 3, then reading order"
abbrev pub beside_answer : Checked → Result (Unit {0}) (Refused Refusal)
beside_answer (proper rs) = Ok tt
beside_answer (at_fault p) = Err (refused_at BadDictionary p)

unfoldable pub before_of : List ℕ → List ℕ → ℕ → ℕ → ℕ → Result (Unit {0}) (Refused Refusal)
before_of s d n m k =
    cond (room n m k) (cond (leb (length s) max_request_bytes) (beside_answer (dictionary d)) (Err (refused_at RequestTooLong 0)))
    (Err (refused_at TablesTooShort 0))

-- tables of zeros
pub record Zeros (st pa ct nd : List ℕ) : Type 0 where
  pub no_statements : st ≡ replicate (length st) 0
  pub no_parameters : pa ≡ replicate (length pa) 0
  pub no_contexts : ct ≡ replicate (length ct) 0
  pub no_conditions : nd ≡ replicate (length nd) 0
