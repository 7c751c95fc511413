-- What the program answers to an input of any bytes.
use Rattle.std.specs.Prelude.{ℕ, ◌+◌, ◌≡◌, List, drop, Bool, true, false, Option, Some, None}
use Rattle.wire.specs.Words.{word_at}
use Rattle.wire.specs.Entries.{entry_body, message_entry_kind}
use Rattle.meaning.specs.declared.Truth.{Truth}
use Rattle.meaning.specs.Evaluated.{outcome_of}
use Rattle.meaning.specs.ValueEvaluated.{value_outcome_of}
use Rattle.meaning.specs.Evaluation.{Outcome, Answer, evaluation, value_evaluation}
use Rattle.input.specs.Evaluation.{joined, part, number_entry_bytes, asks_row, evaluation_input}
use Rattle.input.specs.declared.Entries.{Entries}
use Rattle.evaluate.specs.declared.ProgramAnswer.{ProgramAnswer}
use Rattle.evaluate.specs.declared.ProgramAnswer.TheVariants.{Is, Value, BadInput}

-- what an input comes to: a condition's outcome; a from-value's, with where request, records and runs begin in the input; or that it is not
-- these entries
pub data Told : Type 0 where
  condition : Outcome Truth → Told
  value : Outcome Answer → ℕ → ℕ → ℕ → Told
  bad : Told

-- the parts of an input that evaluation is lent, and where three of them begin in it
pub record Lent : Type 0 where
  pub request : List ℕ
  pub images : List ℕ
  pub records : List ℕ
  pub runs : List ℕ
  pub request_at : ℕ
  pub records_at : ℕ
  pub runs_at : ℕ

-- the bytes of the request, the messages (the bodies of the entries of kind 10, joined), the records (the entries of kind 3, whole) and the
-- runs (the rest of the input, the entries of kind 7)
abbrev pub lent_in : List ℕ → Entries → Lent
lent_in s at =
    record {
      request = part s (at.request + entry_body) at.number;
      images = joined s (at.number + number_entry_bytes) message_entry_kind;
      records = part s at.records at.runs;
      runs = drop at.runs s;
      request_at = at.request + entry_body;
      records_at = at.records;
      runs_at = at.runs;
    }

-- the from-value of the assignment in that row, or the condition of that number, with what is lent
abbrev pub asked : Bool → Lent → List ℕ → ℕ → Told
asked true m d n =
    value (value_evaluation m.request d n m.images m.records m.runs) m.request_at m.records_at m.runs_at
asked false m d n = condition (evaluation m.request d n m.images m.records m.runs)

abbrev pub outcome : List ℕ → Option Entries → Told
outcome s (Some at) = asked (asks_row s at.number) (lent_in s at) (part s entry_body at.request) (word_at s (at.number + entry_body))
outcome s None = bad

-- what the program answers: a text stands in what was lent
abbrev pub answer_of : List ℕ → Option Entries → ProgramAnswer → Told
answer_of s x (Is e) = condition (outcome_of e)
answer_of s (Some at) (Value v from rows behind) =
    let m = lent_in s at in value (value_outcome_of m.request m.images m.records m.runs v) from rows behind
answer_of s None (Value v from rows behind) = bad
answer_of s x BadInput = bad

abbrev pub Answered : List ℕ → ProgramAnswer → Type 0
Answered s r = answer_of s (evaluation_input s) r ≡ outcome s (evaluation_input s)
