-- What is worked out once the records are as due: the rows of the contexts in scope and of the any, unique and statistic codes of what is
-- asked for, and whether the runs are as due.
use Rattle.std.specs.Prelude.{ℕ, ◌*◌, ◌-◌, min, ◌≡◌, List, length, take, replicate, Result, Ok, Err}
use Rattle.std.proofs.lemmas.List.Edits.{sets}
use Rattle.wire.specs.Limits.{max_parameters, max_contexts}
use Rattle.wire.specs.declared.refused.Refused.{Refused}
use Rattle.grammar.specs.declared.Refusal.{Refusal}
use Rattle.records.specs.Record.{Run}
use Rattle.records.specs.Runs.{runs as runs_from}
use Rattle.meaning.specs.Evaluation.{Outcome, answered, refusal, after_runs}
use Rattle.surroundings.specs.Bindings.{binding_row_numbers, binding_rows, bound_contexts, rows_in}
use Rattle.surroundings.specs.Tables.{slots_in}
use Rattle.runs.specs.Steps.{State, found}
use Rattle.runs.specs.Filled.{row_relations, filled}
use Rattle.kinds.specs.KindAt.{kinds_noted}
use Rattle.evaluator.specs.Slices.{binding_numbers}

-- the request, the dictionary, the contexts in scope (their numbers and their relations), the table of parameters and how many it has, the
-- records and the runs; and the place of what is asked for
pub record Bound : Type 0 where
  pub request : List ℕ
  pub dictionary : List ℕ
  pub numbers : List ℕ
  pub relations : List ℕ
  pub parameters : List ℕ
  pub count : ℕ
  pub records : List ℕ
  pub runs : List ℕ
  pub place : ℕ

abbrev pub bound : List ℕ → List ℕ → List ℕ → List ℕ → List ℕ → ℕ → List ℕ → List ℕ → ℕ → Bound
bound s d numbers relations parameters count records runs p =
    record {
      request = s;
      dictionary = d;
      numbers = numbers;
      relations = relations;
      parameters = parameters;
      count = count;
      records = records;
      runs = runs;
      place = p;
    }

-- a table with the rows of the contexts in scope
abbrev pub context_table : Bound → List ℕ
context_table b =
    sets (replicate binding_numbers 0) 0
    (binding_rows (bound_contexts (slots_in b.numbers b.relations (min (length b.numbers) max_contexts) 0) b.records 0))

-- and then of the codes
unfoldable pub scanned : Bound → State
scanned b = found b.dictionary b.request b.place (length b.numbers) (context_table b)

abbrev pub rows_bound : Bound → ℕ
rows_bound b = (scanned b).scan.rows

-- with the kinds of the statistics' numbers
unfoldable pub kind_table : Bound → List ℕ
kind_table b =
    kinds_noted b.dictionary b.parameters (min b.count max_parameters) b.request (rows_in (scanned b).table) 0 (scanned b).table

-- how many of those are looked at
abbrev pub run_rows : Bound → ℕ
run_rows b = min (rows_bound b) max_contexts - length b.numbers

-- whether the runs are as due for them
unfoldable pub runs_checked : Bound → Run
runs_checked b = runs_from (row_relations b.dictionary (kind_table b) (run_rows b) (length b.numbers)) b.runs 0

-- the rows, with their runs
unfoldable pub table_bound : Bound → List ℕ
table_bound b =
    take (rows_bound b * binding_row_numbers)
    (filled b.dictionary b.runs (run_rows b) (length b.numbers) 0 (kind_table b))

-- an answer of the code, and that as an outcome
abbrev pub Prepared : Type 0
Prepared = Result ℕ (Refused Refusal)

abbrev pub prepared_in : Prepared → Outcome ℕ
prepared_in (Ok n) = answered n
prepared_in (Err x) = refusal x.refusal x.place

-- how many rows there are, or 26; and the rows, in the table t
pub record RowsLaid (b : Bound) (t : List ℕ) (r : Prepared) : Type 0 where
  pub rows_are : prepared_in r ≡ after_runs (runs_checked b) (answered (rows_bound b))
  pub table_is : take (rows_bound b * binding_row_numbers) t ≡ table_bound b
