-- The answer of evaluation for every input. 01: "Evaluation refuses as reading does, but never gives 1."
use Rattle.std.specs.Prelude.{ℕ, Bool, true, false, cond, List, [], ◌∷◌, eqb, ℤ, length}
use Rattle.std.proofs.Math.Option.{Option, none, some}
use Rattle.std.proofs.Math.ListN.{get_elem?}
use Rattle.wire.specs.Lists.{sum_of}
use Rattle.dictionary.specs.Dictionary.{Relation, dictionary}
use Rattle.decimal.specs.declared.Number.{Number}
use Rattle.records.specs.declared.missing.Cause.{Cause}
use Rattle.records.specs.Record.{Run, as_due, wrong_at, records}
use Rattle.records.specs.Runs as Runs
use Rattle.grammar.specs.declared.Refusal.{Refusal}
use Rattle.grammar.specs.declared.Refusal.TheVariants as Refusal
use Rattle.grammar.specs.Tree.{Message, Request}
use Rattle.grammar.specs.Environment.{Context, Scope}
use Rattle.grammar.specs.Sizes.{message_size}
use Rattle.grammar.specs.Conditions.{Condition, request_conditions}
use Rattle.grammar.specs.Named.{FromValue, from_value}
use Rattle.grammar.specs.Reader as Reader
use Rattle.grammar.specs.Reading.{reading, relations_of}
use Rattle.meaning.specs.declared.Truth.{Truth}
use Rattle.meaning.specs.declared.Fault.{Fault}
use Rattle.meaning.specs.declared.Fault.TheVariants as Fault
use Rattle.meaning.specs.Data as Data
use Rattle.meaning.specs.Data.{Result, is, refused, stray, Datum}
use Rattle.meaning.specs.Runs.{DueRun, value_runs, due_runs, run_relations}
use Rattle.meaning.specs.Meaning.{meaning, value_meaning}

-- what evaluation answers: what a condition or a from-value comes out as, or a refusal and its place. Demand 3 shows that no evaluation
-- strays.
pub data Outcome (A : Type 0) : Type 0 where
  answered : A → Outcome A
  refusal : Refusal → ℕ → Outcome A
  strayed : Outcome A

-- what a from-value comes out as: a number with its scale, a text without trailing blanks, a date, or missing with the cause
pub data Answer : Type 0 where
  number : Number → Answer
  text : List ℕ → Answer
  date : ℤ → ℕ → Answer
  missing : Cause → Answer

abbrev pub answer : Datum → Answer
answer (Data.number a) = number a
answer (Data.text t) = text t
answer (Data.date day fraction) = date day fraction
answer (Data.absent k w) = missing w

-- 23, 24 and 25 among the refusals
abbrev pub refusal_of : Fault → Refusal
refusal_of Fault.MalformedText = Refusal.MalformedText
refusal_of Fault.Overflow = Refusal.Overflow
refusal_of Fault.ZeroDivisor = Refusal.ZeroDivisor

-- what the meaning of a condition gives, and that of a from-value, as an outcome
abbrev pub outcome : {A : Type 0} → Result A → Outcome A
outcome (is t) = answered t
outcome (refused f p) = refusal (refusal_of f) p
outcome stray = strayed

abbrev pub value_outcome : Result Datum → Outcome Answer
value_outcome (is v) = answered (answer v)
value_outcome (refused f p) = refusal (refusal_of f) p
value_outcome stray = strayed

-- the relations whose records are due; in an accepted request every context has one
unfoldable pub due_relations : List Context → List Relation
due_relations [] = []
due_relations (x ∷ xs) = due_after x.relation (due_relations xs)
  where
    due_after : Option Relation → List Relation → List Relation
    due_after none rs = rs
    due_after (some r) rs = r ∷ rs

-- 22: "records not as due"
abbrev pub after_records : {A : Type 0} → Run → Outcome A → Outcome A
after_records as_due rest = rest
after_records (wrong_at p) rest = refusal Refusal.BadRecords p

-- 26: "runs not as due"
abbrev pub after_runs : {A : Type 0} → Run → Outcome A → Outcome A
after_runs as_due rest = rest
after_runs (wrong_at p) rest = refusal Refusal.BadRuns p

-- 21: "message bytes not the exact total", at the length given
abbrev pub after_messages : {A : Type 0} → Bool → ℕ → Outcome A → Outcome A
after_messages true n rest = rest
after_messages false n rest = refusal Refusal.BadMessageBytes n

-- with the messages of a request, beside the scope and the runs of what is asked for; 01: "Order: ..; 20, 21, 22, then 23–25 as met."; 02,
-- No. 4: "26 runs not as due, after 22"
abbrev pub on_inputs : {A : Type 0} → Scope → List DueRun → List Message → List ℕ → List ℕ → List ℕ → Outcome A → Outcome A
on_inputs sc due ms images rows runs rest =
    after_messages (eqb (length images) (sum_of message_size ms)) (length images)
    (after_records (records (due_relations sc.contexts) rows 0) (after_runs (Runs.runs (run_relations due) runs 0) rest))

-- 20: "no such boolean"
abbrev pub on_condition : {A : Type 0} → Option Condition → List Relation → List Message → List ℕ → List ℕ → List ℕ → Outcome A → Outcome A
on_condition none d ms images rows runs rest = refusal Refusal.NoBoolean 0
on_condition (some x) d ms images rows runs rest = on_inputs x.scope (due_runs d x.boolean x.place) ms images rows runs rest

abbrev pub on_reading : {A : Type 0} → Reader.Read Request → List Relation → ℕ → List ℕ → List ℕ → List ℕ → Outcome A → Outcome A
on_reading (Reader.refused r p) d n images rows runs rest = refusal r p
on_reading (Reader.read t c) d n images rows runs rest =
    on_condition (get_elem? (request_conditions d t) n) d t.messages images rows runs rest

-- request, dictionary, boolean number, message images, records, runs
unfoldable pub evaluation : List ℕ → List ℕ → ℕ → List ℕ → List ℕ → List ℕ → Outcome Truth
evaluation s d n images rows runs =
    on_reading (reading s d) (relations_of (dictionary d)) n images rows runs (outcome (meaning s d n images rows runs))

-- ---- from-values

-- 02, No. 9: "20 if that row is no assignment"
abbrev pub on_from_value : Option FromValue → List Relation → List Message → List ℕ → List ℕ → List ℕ → Outcome Answer → Outcome Answer
on_from_value none d ms images rows runs rest = refusal Refusal.NoBoolean 0
on_from_value (some x) d ms images rows runs rest = on_inputs x.scope (value_runs d x.value x.place) ms images rows runs rest

abbrev pub on_row : Reader.Read Request → List Relation → ℕ → List ℕ → List ℕ → List ℕ → Outcome Answer → Outcome Answer
on_row (Reader.refused r p) d k images rows runs rest = refusal r p
on_row (Reader.read t c) d k images rows runs rest = on_from_value (from_value d t k) d t.messages images rows runs rest

-- request, dictionary, row, message images, records, runs
unfoldable pub value_evaluation : List ℕ → List ℕ → ℕ → List ℕ → List ℕ → List ℕ → Outcome Answer
value_evaluation s d k images rows runs =
    on_row (reading s d) (relations_of (dictionary d)) k images rows runs (value_outcome (value_meaning s d k images rows runs))
