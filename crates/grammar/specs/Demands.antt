-- Demands 1 and 2 of reading: the records `RefusedReading`, and `Soundness` with `Completeness`. A reading has a request s, a dictionary d,
-- the tables st, pa and ct as they were lent (of statements, parameters and contexts), the same tables st', pa' and ct' as they were left,
-- and an answer.
use Rattle.std.specs.Prelude.{ℕ, ◌*◌, ◌≤◌, ◌<◌, ◌≡◌, cond, List, eqb, length, replicate, Result, Ok}
use Rattle.wire.specs.Words.{byte_at}
use Rattle.wire.specs.declared.refused.Refused.{Refused}
use Rattle.wire.specs.Limits.{max_request_bytes, statement_row_numbers, parameter_row_numbers, context_row_numbers, statement_table_numbers, parameter_table_numbers, context_table_numbers}
use Rattle.dictionary.specs.Dictionary.{Relation, proper, dictionary}
use Rattle.grammar.specs.declared.Refusal.{Refusal}
use Rattle.grammar.specs.declared.Refusal.TheVariants.{BadDictionary}
use Rattle.grammar.specs.declared.Counts.{Counts}
use Rattle.grammar.specs.Refusals.{number}
use Rattle.grammar.specs.Tree.{Request}
use Rattle.grammar.specs.Bytes.{request_bytes}
use Rattle.grammar.specs.Rules.{Allowed}
use Rattle.grammar.specs.Rows.{request_statement_rows, parameter_rows, request_context_rows}
use Rattle.grammar.specs.Reading.{padded}

-- "of any bytes and any length": every number of a slice is a byte
abbrev pub Octets : List ℕ → Type 0
Octets s = (p : ℕ) → byte_at s p < 256

-- ---- demand 1: "Every request, dictionary, message and record, of any bytes and any length, is answered. A refusal gives a number and
-- ---- a place; a refused reading leaves zeros in the three lent tables. No caller has to test anything first."

-- 01, the place of 3: "entry start; 0 if too long"; every other place is one of the request
abbrev pub placed_in : Refusal → List ℕ → List ℕ → List ℕ
placed_in x s d = cond (eqb (number x) (number BadDictionary)) d s

-- 01, "Numbers given back": 1 to 16 are the reader's. A place is in those bytes or, as that of 4, "its length"; 01: "Request and
-- dictionary 65,535 bytes."
pub record RefusalWithin (s d : List ℕ) (x : Refusal) (p : ℕ) : Type 0 where
  pub least : 1 ≤ number x
  pub most : number x ≤ 16
  pub placed : p ≤ length (placed_in x s d)
  pub short : p ≤ max_request_bytes

-- a table as it was lent and as it was left: zeros alone; 01: "A refusal by the reader zeroes all lent tables of any length"
abbrev pub Zeroed : List ℕ → List ℕ → Type 0
Zeroed t t' = t' ≡ replicate (length t) 0

-- demand 1, of a reading that is refused with x at p; a reading that is not refused is accepted, by the cases of its answer
pub record RefusedReading (s d st pa ct st' pa' ct' : List ℕ) (x : Refusal) (p : ℕ) : Type 0 where
  pub refusal : RefusalWithin s d x p
  pub statements : Zeroed st st'
  pub parameters : Zeroed pa pa'
  pub contexts : Zeroed ct ct'

-- ---- demand 2: "A request is accepted exactly when the grammar and the rules of scope, kind and size of document 01 allow it. The
-- ---- tables then list every statement, parameter and context, and nothing else."

-- 01: 1 is given for "tables below 2048, 1536, 160 numbers"; 02, No. 7: "smallest sizes change to 2560 and 192 numbers"
pub record Room (st pa ct : List ℕ) : Type 0 where
  pub statements : statement_table_numbers ≤ length st
  pub parameters : parameter_table_numbers ≤ length pa
  pub contexts : context_table_numbers ≤ length ct

-- "the grammar and the rules of scope, kind and size of document 01 allow it": the tables have room, the dictionary is proper and says
-- the relations rs, and the request is the bytes of the tree t, which the rules allow
pub record Acceptable (s d st pa ct : List ℕ) (rs : List Relation) (t : Request) : Type 0 where
  pub room : Room st pa ct
  pub checked : dictionary d ≡ proper rs
  pub whole : s ≡ request_bytes t
  pub allowed : Allowed rs t

-- 01: "Acceptance gives the counts of rows and fills three lent tables of 32-bit numbers, the rest zero."; n, m and k are the counts
pub record Filled (rs : List Relation) (t : Request) (st pa ct st' pa' ct' : List ℕ) (n m k : ℕ) : Type 0 where
  pub statement_count : length (request_statement_rows t) ≡ n * statement_row_numbers
  pub parameter_count : length (parameter_rows t.messages) ≡ m * parameter_row_numbers
  pub context-count : length (request_context_rows rs t) ≡ k * context_row_numbers
  pub statements : st' ≡ padded (request_statement_rows t) (length st)
  pub parameters : pa' ≡ padded (parameter_rows t.messages) (length pa)
  pub contexts : ct' ≡ padded (request_context_rows rs t) (length ct)

-- demand 2, accepted only if allowed: what acceptance with the counts n, m and k says of tables, dictionary and request. `only`: no other
-- allowed tree has these bytes
pub record Soundness (s d st pa ct st' pa' ct' : List ℕ) (n m k : ℕ) : Type 0 where
  pub relations : List Relation
  pub tree : Request
  pub acceptable : Acceptable s d st pa ct relations tree
  pub only : (u : Request) → s ≡ request_bytes u → Allowed relations u → u ≡ tree
  pub filled : Filled relations tree st pa ct st' pa' ct' n m k

-- demand 2, accepted if allowed: the answer r is acceptance with the counts of rows
pub record Completeness (s d st pa ct st' pa' ct' : List ℕ) (r : Result Counts (Refused Refusal)) : Type 0 where
  pub accepted : (rs : List Relation) (t : Request) → Acceptable s d st pa ct rs t →
      (n : ℕ) × (m : ℕ) × (k : ℕ) × (r ≡ Ok (record { statements = n; parameters = m; contexts = k })) × Filled rs t st pa ct st' pa' ct' n m k
