-- What a walk is given, once the request is read and the place of what is asked for is known.
use Rattle.std.specs.Prelude.{ℕ, ◌*◌, min, ◌≡◌, List, map, eqb, length, take}
use Rattle.wire.specs.Limits.{max_parameters, max_contexts}
use Rattle.dictionary.specs.Internal.Walk.{relation_at}
use Rattle.records.specs.Record.{Run, records as records_from}
use Rattle.meaning.specs.Evaluation.{Outcome, answered, after_records, after_runs, after_messages}
use Rattle.surroundings.specs.Slots.{Slot, slots_from, relations_in}
use Rattle.surroundings.specs.Parameters.{held_from}
use Rattle.surroundings.specs.Bindings.{binding_row_numbers}
use Rattle.surroundings.specs.Tables.{numbers_in}
use Rattle.evaluator.specs.declared.prepared.Given.{Given as GivenSlices}
use Rattle.evaluator.specs.Bound.{Bound, Prepared, bound, rows_bound, runs_checked, table_bound, prepared_in}

-- the request, the dictionary, the tables of parameters and of contexts with so many rows, the images, the records, the runs and the place
pub record Given : Type 0 where
  pub request : List ℕ
  pub dictionary : List ℕ
  pub parameters : List ℕ
  pub contexts : List ℕ
  pub rows : ℕ
  pub declared : ℕ
  pub images : List ℕ
  pub records : List ℕ
  pub runs : List ℕ
  pub place : ℕ

abbrev pub given : List ℕ → List ℕ → List ℕ → List ℕ → ℕ → ℕ → List ℕ → List ℕ → List ℕ → ℕ → Given
given s d parameters contexts rows declared images records runs p =
    record {
      request = s;
      dictionary = d;
      parameters = parameters;
      contexts = contexts;
      rows = rows;
      declared = declared;
      images = images;
      records = records;
      runs = runs;
      place = p;
    }

-- what the code is given, and the place
abbrev pub given_in : GivenSlices → ℕ → Given
given_in x p =
    given x.request.now x.dictionary.now x.parameters.now x.contexts.now x.counts.parameters x.counts.contexts x.images.now
    x.records.now x.runs.now p

-- the contexts in scope at the place
abbrev pub scope_slots : Given → List Slot
scope_slots g = slots_from g.dictionary g.contexts g.place (min g.declared max_contexts) 0

abbrev pub bound_by : Given → Bound
bound_by g =
    bound g.request g.dictionary (numbers_in (scope_slots g)) (relations_in (scope_slots g)) g.parameters g.rows g.records
    g.runs g.place

-- whether the records are as due for them
abbrev pub records_checked : Given → Run
records_checked g = records_from (map (relation_at g.dictionary) (relations_in (scope_slots g))) g.records 0

-- 21, 22, 26, or how many rows there are
abbrev pub prepared_by : Given → Outcome ℕ
prepared_by g =
    after_messages (eqb (length g.images) (held_from g.parameters (min g.rows max_parameters) 0)) (length g.images)
    (after_records (records_checked g) (after_runs (runs_checked (bound_by g)) (answered (rows_bound (bound_by g)))))

-- that, and where it is a number of rows the rows themselves, in the table t
pub record Prepares (g : Given) (t : List ℕ) (r : Prepared) : Type 0 where
  pub answered_so : prepared_in r ≡ prepared_by g
  pub table_is : (n : ℕ) → prepared_in r ≡ answered n → take (n * binding_row_numbers) t ≡ table_bound (bound_by g)
