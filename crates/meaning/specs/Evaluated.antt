-- What evaluation promises.
use Rattle.std.specs.Prelude.{ℕ, ◌≡◌, List, Result, Ok, Err}
use Rattle.wire.specs.declared.refused.Refused.{Refused}
use Rattle.grammar.specs.declared.Refusal.{Refusal}
use Rattle.grammar.specs.Demands.{Octets}
use Rattle.meaning.specs.declared.Truth.{Truth}
use Rattle.meaning.specs.Evaluation.{Outcome, answered as truth, refusal, evaluation}

-- the answer of evaluation
abbrev pub Evaluation : Type 0
Evaluation = Result Truth (Refused Refusal)

-- an answer of the code, as an outcome
abbrev pub outcome_of : Evaluation → Outcome Truth
outcome_of (Ok t) = truth t
outcome_of (Err x) = refusal x.refusal x.place

-- the answer r to a request, a dictionary, a boolean number, message images, records and runs is that of the definition
abbrev pub Evaluates : List ℕ → List ℕ → ℕ → List ℕ → List ℕ → List ℕ → Evaluation → Type 0
Evaluates s d n images rows runs r = outcome_of r ≡ evaluation s d n images rows runs

-- what evaluation answers; and the request holds bytes, as every slice does
pub record Evaluated (s d : List ℕ) (n : ℕ) (images rows runs : List ℕ) (r : Evaluation) : Type 0 where
  pub answered : Evaluates s d n images rows runs r
  pub request_octets : Octets s
