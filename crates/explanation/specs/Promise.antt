-- What explanation promises.
use Rattle.std.specs.Prelude.{ℕ, ◌≡◌, List, length, Result, Ok, Err}
use Rattle.wire.specs.declared.refused.Refused.{Refused}
use Rattle.grammar.specs.declared.Refusal.{Refusal}
use Rattle.grammar.specs.Demands.{Octets}
use Rattle.meaning.specs.Evaluation.{Outcome, answered, refusal, strayed}
use Rattle.explanation.specs.Explanation.{Test, explanation, test_table}

-- what the code answers: how many tests the table lists, or the refusal and its place
abbrev pub Explanation : Type 0
Explanation = Result ℕ (Refused Refusal)

-- as an outcome
abbrev pub count_of : Explanation → Outcome ℕ
count_of (Ok n) = answered n
count_of (Err x) = refusal x.refusal x.place

-- how many tests are listed
abbrev pub counted : Outcome (List Test) → Outcome ℕ
counted (answered ts) = answered (length ts)
counted (refusal r p) = refusal r p
counted strayed = strayed

-- the answer r to a request, a dictionary, a boolean number, message images, records and runs, and what it leaves in the lent table; the
-- request holds bytes, as every slice does
pub record Listed (s d : List ℕ) (n : ℕ) (images rows runs table table' : List ℕ) (r : Explanation) : Type 0 where
  pub counts : count_of r ≡ counted (explanation s d n images rows runs (length table))
  pub filled : table' ≡ test_table (explanation s d n images rows runs (length table)) (length table)
  pub request_octets : Octets s
