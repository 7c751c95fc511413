-- The answer of reading for every request, dictionary and table length, and what the three tables hold afterwards.
use Rattle.std.specs.Prelude.{ℕ, ◌-◌, Bool, cond, ◌&&◌, List, [], ◌++◌, eqb, leb, length, replicate}
use Rattle.wire.specs.Codes as blr
use Rattle.wire.specs.Limits.{max_request_bytes, max_depth, max_statements, max_messages, statement_table_numbers, parameter_table_numbers, context_table_numbers}
use Rattle.wire.specs.Versions.{is_version, version_of}
use Rattle.wire.specs.declared.codes.Version.{Version}
use Rattle.dictionary.specs.Dictionary.{Relation, Checked, proper, at_fault, dictionary}
use Rattle.grammar.specs.declared.Cursor.{Cursor}
use Rattle.grammar.specs.declared.Refusal.TheVariants.{TablesTooShort, RequestTooLong, BadDictionary, BadVersion, NotDue, BytesAfterEnd}
use Rattle.grammar.specs.Tree.{Message, Statements, Request}
use Rattle.grammar.specs.Environment.{outermost}
use Rattle.grammar.specs.Rows.{request_statement_rows, parameter_rows, request_context_rows}
use Rattle.grammar.specs.Reader.{Read, read, refused, Reader, ◌>>=◌, ◌>>◌, return, place, byte, tested, code, count_statement}
use Rattle.grammar.specs.Messages.{messages}
use Rattle.grammar.specs.Statements.{many, read_statement}

-- 01: "nothing more"; 15: "bytes after eoc"
unfoldable pub nothing_more : Reader (Unit {0})
nothing_more s c = cond (eqb c.at (length s)) (read tt c) (refused BytesAfterEnd c.at)

-- 01: "Depth 32: .. the outer begin the first."; the other levels are left for what stands in it
unfoldable pub outer_statements : Version → List Relation → List Message → Reader Statements
outer_statements v d ms =
    many max_statements (read_statement (max_depth - 1) (record { version = v; relations = d; messages = ms }) outermost)

-- 02, No. 8: "5 now for a first byte other than 4 or 5"
unfoldable pub version : Reader Version
version = do
  b ← tested byte is_version BadVersion
  return (version_of b)

-- 01: "Request: 4 (version), begin 2, messages, statements, end 255, eoc 76, nothing more."
unfoldable pub request : List Relation → Reader Request
request d = do
  v ← version
  p ← place
  code blr.begin NotDue
  count_statement p
  ms ← messages v max_messages []
  ss ← outer_statements v d ms
  code blr.eoc NotDue
  nothing_more
  return (record { version = v; messages = ms; statements = ss })

abbrev pub start : Cursor
start = record { at = 0; statements = 0; contexts = 0; conditions = 0 }

abbrev pub beside : Checked → List ℕ → Read Request
beside (proper d) s = request d s start
beside (at_fault p) s = refused BadDictionary p

-- a request beside a dictionary, room in the tables aside; 01: "Order: 1, 2, 3, then reading order"
unfoldable pub reading : List ℕ → List ℕ → Read Request
reading s d = cond (leb (length s) max_request_bytes) (beside (dictionary d) s) (refused RequestTooLong 0)

-- 1: "tables below 2048, 1536, 160 numbers"; 02, No. 7: "smallest sizes change to 2560 and 192 numbers"
abbrev pub room : ℕ → ℕ → ℕ → Bool
room statements parameters contexts =
    leb statement_table_numbers statements && leb parameter_table_numbers parameters && leb context_table_numbers contexts

-- the answer to a request and a dictionary with three tables of so many numbers
unfoldable pub answer : List ℕ → List ℕ → ℕ → ℕ → ℕ → Read Request
answer s d statements parameters contexts =
    cond (room statements parameters contexts) (reading s d) (refused TablesTooShort 0)

-- ---- the tables: "the rest zero"; "A refusal by the reader zeroes all lent tables of any length"

abbrev pub padded : List ℕ → ℕ → List ℕ
padded rows n = rows ++ replicate (n - length rows) 0

abbrev pub relations_of : Checked → List Relation
relations_of (proper d) = d
relations_of (at_fault p) = []

unfoldable pub statement_table : Read Request → ℕ → List ℕ
statement_table (read r c) n = padded (request_statement_rows r) n
statement_table (refused x p) n = replicate n 0

unfoldable pub parameter_table : Read Request → ℕ → List ℕ
parameter_table (read r c) n = padded (parameter_rows r.messages) n
parameter_table (refused x p) n = replicate n 0

unfoldable pub context_table : List ℕ → Read Request → ℕ → List ℕ
context_table d (read r c) n = padded (request_context_rows (relations_of (dictionary d)) r) n
context_table d (refused x p) n = replicate n 0
