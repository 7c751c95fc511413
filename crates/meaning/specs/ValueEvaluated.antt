-- What the evaluation of a from-value promises. 02, No. 9: "An assignment's from-value can be asked for by its row (from 0)".
use Rattle.std.specs.Prelude.{ℕ, ◌-◌, ◌≡◌, List, take, drop, Result, Ok, Err}
use Rattle.wire.specs.declared.refused.Refused.{Refused}
use Rattle.grammar.specs.declared.Refusal.{Refusal}
use Rattle.grammar.specs.Demands.{Octets}
use Rattle.meaning.specs.declared.Source.{Source}
use Rattle.meaning.specs.declared.Source.TheVariants as Source
use Rattle.meaning.specs.declared.ValueAnswer.{ValueAnswer}
use Rattle.meaning.specs.declared.ValueAnswer.TheVariants as Value
use Rattle.meaning.specs.Evaluation as Evaluation
use Rattle.meaning.specs.Evaluation.{Outcome, Answer, value_evaluation}

-- the slice that a text stands in: the request, the message images, the records or the runs
abbrev pub slice_of : List ℕ → List ℕ → List ℕ → List ℕ → Source → List ℕ
slice_of s images rows runs Source.Request = s
slice_of s images rows runs Source.Images = images
slice_of s images rows runs Source.Records = rows
slice_of s images rows runs Source.Runs = runs

-- the answer of evaluation for a from-value
abbrev pub ValueEvaluation : Type 0
ValueEvaluation = Result ValueAnswer (Refused Refusal)

-- what the code says that a from-value comes out as, beside what was lent: a text is the bytes from its start to its end
abbrev pub value_answer_of : List ℕ → List ℕ → List ℕ → List ℕ → ValueAnswer → Answer
value_answer_of s images rows runs (Value.Number a) = Evaluation.number a
value_answer_of s images rows runs (Value.Text source from to) =
    Evaluation.text (take (to - from) (drop from (slice_of s images rows runs source)))
value_answer_of s images rows runs (Value.Date day fraction) = Evaluation.date day fraction
value_answer_of s images rows runs (Value.Missing w) = Evaluation.missing w

-- an answer of the code, as an outcome
abbrev pub value_outcome_of : List ℕ → List ℕ → List ℕ → List ℕ → ValueEvaluation → Outcome Answer
value_outcome_of s images rows runs (Ok x) = Evaluation.answered (value_answer_of s images rows runs x)
value_outcome_of s images rows runs (Err x) = Evaluation.refusal x.refusal x.place

-- the answer r to a request, a dictionary, a row, message images, records and runs is that of the definition
abbrev pub ValueEvaluates : List ℕ → List ℕ → ℕ → List ℕ → List ℕ → List ℕ → ValueEvaluation → Type 0
ValueEvaluates s d k images rows runs r = value_outcome_of s images rows runs r ≡ value_evaluation s d k images rows runs

-- what evaluation of a from-value answers; and the request holds bytes, as every slice does
pub record ValueEvaluated (s d : List ℕ) (k : ℕ) (images rows runs : List ℕ) (r : ValueEvaluation) : Type 0 where
  pub answered : ValueEvaluates s d k images rows runs r
  pub request_octets : Octets s
