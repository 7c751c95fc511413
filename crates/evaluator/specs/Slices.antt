-- What the code of the walk is handed, and what it answers.
use Rattle.std.specs.Prelude.{ℕ, ◌+◌, ◌/◌, ◌≤◌, ◌<◌, min, ◌≡◌, List, length, Option as Maybe, IfSome, Result as RustResult, Ok, Err}
use Rattle.std.proofs.Math.Option.{Option, some}
use Rattle.wire.specs.Limits.{max_parameters, parameter_row_numbers}
use Rattle.wire.specs.declared.codes.ValueCode.{ValueCode}
use Rattle.wire.specs.declared.codes.BooleanCode.{BooleanCode}
use Rattle.wire.specs.declared.codes.Quantifier.{Quantifier}
use Rattle.wire.specs.declared.codes.Statistic.{Statistic}
use Rattle.grammar.specs.Tree.{Reference}
use Rattle.meaning.specs.declared.Truth.{Truth}
use Rattle.meaning.specs.Data.{Result, is, Datum, ◌>>=◌}
use Rattle.meaning.specs.Inputs.{Fetched}
use Rattle.meaning.specs.Meaning.{if_kept}
use Rattle.walking.specs.Walk.{Walked, at, Over, Sight, result_of, such_at, over_at, numbers_at, count_at, value_under, boolean_under, value_at, boolean_at}
use Rattle.values.specs.declared.Stop.{Stop}
use Rattle.values.specs.declared.statistics.Gathered.{Gathered}
use Rattle.values.specs.Values.{Lent, Valued, Tested, lent, stopped, valued, tested}
use Rattle.values.specs.Numbers.{number_of}
use Rattle.values.specs.Statistics.{Gathering, gathered_in, gathering}
use Rattle.surroundings.specs.Bindings.{place_if, bound_sight, run_of}
use Rattle.inputs.specs.declared.singles.Two.{Two}
use Rattle.evaluator.specs.declared.tested.Slices.{Slices as LentSlices}
use Rattle.evaluator.specs.Kept.{Kept, kept_in, kept_over}

-- the request, the dictionary, the rows of the bindings, the rows of the parameters, the images, the records and the runs
pub record Slices : Type 0 where
  pub request : List ℕ
  pub dictionary : List ℕ
  pub bindings : List ℕ
  pub parameters : List ℕ
  pub images : List ℕ
  pub records : List ℕ
  pub runs : List ℕ

abbrev pub slices : List ℕ → List ℕ → List ℕ → List ℕ → List ℕ → List ℕ → List ℕ → Slices
slices s d bindings parameters images records runs =
    record {
      request = s;
      dictionary = d;
      bindings = bindings;
      parameters = parameters;
      images = images;
      records = records;
      runs = runs;
    }

-- those that the code is lent
abbrev pub slices_in : LentSlices → Slices
slices_in x = slices x.request.now x.dictionary.now x.bindings.now x.parameters.now x.images.now x.records.now x.runs.now

abbrev pub lent_of : Slices → Lent
lent_of g = lent g.request g.images g.records g.runs

-- how many parameters are looked at
abbrev pub parameters_of : Slices → ℕ
parameters_of g = min (length g.parameters / parameter_row_numbers) max_parameters

-- what is seen by a table of bindings
unfoldable pub sight_of : Slices → Sight (List ℕ)
sight_of g = bound_sight g.dictionary g.parameters (parameters_of g) g.images g.records g.runs

-- what references give
abbrev pub fetched_by : Slices → Reference → Fetched
fetched_by g = (sight_of g).fetch g.bindings

-- the greatest table of bindings: 10 numbers for each of 32 contexts
abbrev pub binding_numbers : ℕ
binding_numbers = 320

-- the bytes of 32 runs of 65,535 bytes
abbrev pub run_bytes : ℕ
run_bytes = 2097120

-- the bindings have room in a table, and a place in the runs is a number of one
abbrev pub Fits : List ℕ → List ℕ → Type 0
Fits bindings runs = (length bindings ≤ binding_numbers) × (length runs ≤ run_bytes)

-- the values and the booleans at a place, with so many levels left, as they are seen from a table of bindings, and from the one there is
abbrev pub values_from : Slices → ℕ → List ℕ → ℕ → Walked Datum
values_from g levels t q = value_at (sight_of g) t levels g.request q

abbrev pub booleans_from : Slices → ℕ → List ℕ → ℕ → Walked Truth
booleans_from g levels t q = boolean_at (sight_of g) t levels g.request q

abbrev pub values_of : Slices → ℕ → ℕ → Walked Datum
values_of g levels q = values_from g levels g.bindings q

abbrev pub booleans_of : Slices → ℕ → ℕ → Walked Truth
booleans_of g levels q = booleans_from g levels g.bindings q

-- over the run of the code at a place: an any or a unique, a statistic, a count, and how many records are kept
abbrev pub run_there : Slices → ℕ → Option (Over (List ℕ))
run_there g p = (sight_of g).over g.bindings p

abbrev pub runs_of : Slices → ℕ → ℕ → Quantifier → Walked Truth
runs_of g levels p q = over_at q (run_there g p) (booleans_from g levels)

abbrev pub numbers_of : Slices → ℕ → ℕ → Statistic → Walked Datum
numbers_of g levels p k = numbers_at k p (run_there g p) (booleans_from g levels) (values_from g levels)

abbrev pub counts_of : Slices → ℕ → ℕ → Walked Datum
counts_of g levels p = count_at (run_there g p) (booleans_from g levels)

abbrev pub kepts_of : Slices → ℕ → ℕ → Walked ℕ
kepts_of g levels p = kept_over (run_there g p) (booleans_from g levels)

-- a value at a place
abbrev pub ValueAt : Slices → ℕ → ℕ → Valued → Type 0
ValueAt g levels p r = valued (lent_of g) r ≡ values_of g levels p

-- two values stand one after the other from a place on
pub record InTurn (g : Slices) (levels p : ℕ) (x y : Datum) (e : ℕ) : Type 0 where
  pub between : ℕ
  pub first : values_of g levels p ≡ at x between
  pub second : values_of g levels between ≡ at y e

-- the two numbers after the code at a place, if they were found: the walk gives just these
abbrev pub TwoAfter : Slices → ℕ → ℕ → Maybe Two → Type 0
TwoAfter g levels p r =
    IfSome r (λ t. InTurn g levels (p + 1) (number_of t.first t.first_scale) (number_of t.second t.second_scale) t.after)

-- what stands under a value's code at a place, and the same where that place is before the end
abbrev pub under_of : Slices → ℕ → ℕ → ValueCode → Walked Datum
under_of g levels p code =
    value_under (fetched_by g) (values_of g levels) (numbers_of g levels p) (counts_of g levels p) g.request p code

abbrev pub ValueUnder : Slices → ℕ → ℕ → ValueCode → Valued → Type 0
ValueUnder g levels p code r = valued (lent_of g) r ≡ under_of g levels p code

abbrev pub ValueInside : Slices → ℕ → ℕ → ValueCode → Valued → Type 0
ValueInside g levels p code r = p < length g.request → ValueUnder g levels p code r

-- a boolean at a place, and what stands under a boolean's code
abbrev pub BooleanAt : Slices → ℕ → ℕ → Tested → Type 0
BooleanAt g levels p r = tested r ≡ booleans_of g levels p

abbrev pub BooleanUnder : Slices → ℕ → ℕ → BooleanCode → Tested → Type 0
BooleanUnder g levels p code r = tested r ≡ boolean_under (values_of g levels) (booleans_of g levels) (runs_of g levels p) p code

-- how many records are kept of the run of the code at a place, and of that of a row
abbrev pub KeptAt : Slices → ℕ → ℕ → Kept → Type 0
KeptAt g levels p r = kept_in r ≡ kepts_of g levels p

abbrev pub OverRun : Slices → ℕ → ℕ → Kept → Type 0
OverRun g levels row r = kept_in r ≡ kept_over (some (run_of g.runs g.bindings row)) (booleans_from g levels)

-- the statistic at a place over the run of a row
abbrev pub OverNumbers : Slices → ℕ → ℕ → ℕ → Statistic → Valued → Type 0
OverNumbers g levels p row k r =
    valued (lent_of g) r ≡ numbers_at k p (some (run_of g.runs g.bindings row)) (booleans_from g levels) (values_from g levels)

-- an answer of the code without a place, as a result
abbrev pub truth_in : RustResult Truth Stop → Result Truth
truth_in (Ok t) = is t
truth_in (Err x) = result_of (stopped x)

-- the condition of an rse at a place, with the record in turn; 0 says that it has none
abbrev pub SuchAt : Slices → ℕ → ℕ → RustResult Truth Stop → Type 0
SuchAt g levels such r = truth_in r ≡ such_at (place_if such) (booleans_of g levels)

-- what the record in turn makes of what is gathered, for the statistic at p, whose number stands after its rse
abbrev pub GatheredWith : Slices → ℕ → ℕ → ℕ → ℕ → Statistic → Gathered → Gathering → Type 0
GatheredWith g levels p such after k h r =
    gathering h.values h.number r ≡
    (such_at (place_if such) (booleans_of g levels) >>= λ t.
    if_kept t k p (λ y. result_of (values_from g levels y after)) (gathered_in h) g.bindings)
