-- What the functions for C give back.
use Rattle.std.specs.Prelude.{ℕ, suc, ◌+◌, ◌*◌, min, ◌≡◌, List, [], ◌∷◌, ℤ, pos, length, Ok, Err}
use Rattle.grammar.specs.declared.Refusal.{Refusal}
use Rattle.grammar.specs.Refusals.{number}
use Rattle.grammar.specs.Tree.{Request}
use Rattle.grammar.specs.Sizes.{statements_count, parameter_count, contexts_count}
use Rattle.grammar.specs.Reader.{Read, read, refused}
use Rattle.grammar.specs.Reading.{answer, statement_table, parameter_table, context_table}
use Rattle.records.specs.declared.missing.Cause.{Cause}
use Rattle.records.specs.declared.missing.Cause.TheVariants.{Bit, Reading, Flag, Nothing}
use Rattle.meaning.specs.declared.Truth.{Truth}
use Rattle.meaning.specs.declared.Truth.TheVariants.{True, False, Missing}
use Rattle.meaning.specs.declared.Source.{Source}
use Rattle.meaning.specs.declared.Source.TheVariants as Source
use Rattle.meaning.specs.declared.ValueAnswer.TheVariants as Value
use Rattle.meaning.specs.Evaluation.{Outcome, answered, refusal, strayed}
use Rattle.meaning.specs.ValueEvaluated.{ValueEvaluation, ValueEvaluates}
use Rattle.greenblr.specs.Inside.{Inside}

-- 0 for an accepted request, or 01's number of the refusal
abbrev pub number_given : Read Request → ℕ
number_given (read r c) = 0
number_given (refused x p) = number x

-- the counts of rows, or the place of the refusal and zeros
abbrev pub numbers_given : Read Request → List ℕ
numbers_given (read r c) =
    suc (statements_count r.statements) ∷ parameter_count r.messages ∷ contexts_count r.statements ∷ []
numbers_given (refused x p) = p ∷ 0 ∷ 0 ∷ []

-- what a reading gives, and what it leaves in the three tables and in the answer
pub record Exported (s d st pa ct st' pa' ct' an' : List ℕ) (r : ℕ) : Type 0 where
  pub number_is : r ≡ number_given (answer s d (length st) (length pa) (length ct))
  pub answer_filled : an' ≡ numbers_given (answer s d (length st) (length pa) (length ct))
  pub statements_filled : st' ≡ statement_table (answer s d (length st) (length pa) (length ct)) (length st)
  pub parameters_filled : pa' ≡ parameter_table (answer s d (length st) (length pa) (length ct)) (length pa)
  pub contexts_filled : ct' ≡ context_table d (answer s d (length st) (length pa) (length ct)) (length ct)

-- ---- evaluation: one number of 64 bits

-- the number of a cause
abbrev pub cause_given : Cause → ℕ
cause_given Bit = 1
cause_given Reading = 2
cause_given Flag = 3
cause_given Nothing = 4

-- the lowest byte: false, true, missing or refused
abbrev pub false_byte : ℕ
false_byte = 0

abbrev pub true_byte : ℕ
true_byte = 1

abbrev pub missing_byte : ℕ
missing_byte = 2

abbrev pub refused_byte : ℕ
refused_byte = 3

-- one in the next byte, and one in the 48 bits above that
abbrev pub second_byte : ℕ
second_byte = 256

abbrev pub place_bits : ℕ
place_bits = 65536

-- the greatest place that 48 bits hold
abbrev pub greatest_place : ℕ
greatest_place = 281474976710655

-- the cause of missing stands in the second byte
abbrev pub truth_given : Truth → ℕ
truth_given False = false_byte
truth_given True = true_byte
truth_given (Missing w) = missing_byte + second_byte * cause_given w

-- the number of a refusal stands in the second byte, its place in the 48 bits above, which are full for a greater one
abbrev pub refusal_given : Refusal → ℕ → ℕ
refusal_given x p = refused_byte + second_byte * number x + place_bits * min p greatest_place

-- no evaluation strays: the last case is a number that is never given
unfoldable pub outcome_given : Outcome Truth → ℕ
outcome_given (answered t) = truth_given t
outcome_given (refusal x p) = refusal_given x p
outcome_given strayed = 4

-- ---- from-values: one number of 64 bits, and three signed ones

-- the lowest byte where the value is there
abbrev pub number_byte : ℕ
number_byte = 4

abbrev pub text_byte : ℕ
text_byte = 5

abbrev pub date_byte : ℕ
date_byte = 6

-- what a text stands in, numbered as the header's inputs; 1 is the dictionary, which holds none
abbrev pub source_given : Source → ℤ
source_given Source.Request = pos 0
source_given Source.Images = pos 2
source_given Source.Records = pos 3
source_given Source.Runs = pos 4

-- a place, or the greatest that 48 bits hold
abbrev pub place_given : ℕ → ℤ
place_given p = pos (min p greatest_place)

abbrev pub value_given : ValueEvaluation → ℕ
value_given (Ok (Value.Number a)) = number_byte
value_given (Ok (Value.Text source start end)) = text_byte
value_given (Ok (Value.Date day fraction)) = date_byte
value_given (Ok (Value.Missing w)) = truth_given (Missing w)
value_given (Err x) = refusal_given x.refusal x.place

-- value and scale; what the text stands in, where it starts and where it ends; day and fraction
abbrev pub value_numbers : ValueEvaluation → List ℤ
value_numbers (Ok (Value.Number a)) = a.value ∷ a.scale ∷ pos 0 ∷ []
value_numbers (Ok (Value.Text source start end)) = source_given source ∷ place_given start ∷ place_given end ∷ []
value_numbers (Ok (Value.Date day fraction)) = day ∷ pos fraction ∷ pos 0 ∷ []
value_numbers (Ok (Value.Missing w)) = pos 0 ∷ pos 0 ∷ pos 0 ∷ []
value_numbers (Err x) = pos 0 ∷ pos 0 ∷ pos 0 ∷ []

-- what is given, and what is left in the answer, tell the answer to the from-value; a text stands inside what was lent
pub record ValueExported (s d : List ℕ) (k : ℕ) (images rows runs : List ℕ) (an' : List ℤ) (r : ℕ) : Type 0 where
  pub told : ValueEvaluation
  pub evaluated : ValueEvaluates s d k images rows runs told
  pub inside : Inside s images rows runs told
  pub number_is : r ≡ value_given told
  pub answer_filled : an' ≡ value_numbers told
