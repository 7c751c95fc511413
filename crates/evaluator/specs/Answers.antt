-- What the walk over a from-value comes out as.
use Rattle.std.specs.Prelude.{◌≡◌}
use Rattle.meaning.specs.declared.ValueAnswer.{ValueAnswer}
use Rattle.meaning.specs.Data.{Datum}
use Rattle.meaning.specs.Evaluation.{Outcome, Answer, answered, refusal, strayed, refusal_of, answer}
use Rattle.meaning.specs.ValueEvaluated.{ValueEvaluation, value_answer_of, value_outcome_of}
use Rattle.walking.specs.Walk.{Walked, at, fault, astray}
use Rattle.values.specs.declared.Value.{Value}
use Rattle.values.specs.Values.{Lent, Valued, datum, valued}

-- an answer of the code, beside the slices that were lent
abbrev pub answer_in : Lent → ValueEvaluation → Outcome Answer
answer_in m r = value_outcome_of m.request m.images m.records m.runs r

-- what a walk over a from-value comes out as
abbrev pub settled_value : Walked Datum → Outcome Answer
settled_value (at v q) = answered (answer v)
settled_value (fault f p) = refusal (refusal_of f) p
settled_value astray = strayed

abbrev pub AnswerWith : Lent → Value → ValueAnswer → Type 0
AnswerWith m v r = value_answer_of m.request m.images m.records m.runs r ≡ answer (datum m v)

abbrev pub ValueSettled : Lent → Valued → ValueEvaluation → Type 0
ValueSettled m w r = answer_in m r ≡ settled_value (valued m w)
