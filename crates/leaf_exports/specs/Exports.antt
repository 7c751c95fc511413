-- What the test exports give, in numbers.
use Rattle.std.specs.Prelude.{ℕ, cond, List, [], ◌∷◌, ◌≡◌, eqb, ltb, ℤ, pos, negsuc, Option, Some, None, Result, Ok, Err}
use Rattle.std.specs.declared.cmp.Ordering.{Ordering}
use Rattle.std.specs.declared.cmp.Ordering.TheVariants.{Less, Equal, Greater}
use Rattle.wire.specs.declared.codes.Version.{Version}
use Rattle.wire.specs.declared.codes.Version.TheVariants.{Version4, Version5}
use Rattle.wire.specs.declared.codes.Operator.{Operator}
use Rattle.wire.specs.declared.codes.Operator.TheVariants.{Add, Subtract, Multiply, Divide}
use Rattle.wire.specs.declared.codes.TextType.{TextType}
use Rattle.wire.specs.declared.codes.TextType.TheVariants.{Text, Varying, Cstring}
use Rattle.wire.specs.declared.codes.TextSearch.{TextSearch}
use Rattle.wire.specs.declared.codes.TextSearch.TheVariants.{Containing, Matching, Starting}
use Rattle.decimal.specs.declared.Number.{Number}
use Rattle.decimal.specs.declared.ArithmeticError.{ArithmeticError}
use Rattle.decimal.specs.declared.ArithmeticError.TheVariants.{Overflow, ZeroDivisor}
use Rattle.decimal.specs.Number.{Computed, places, computed, negated, rescaled}
use Rattle.records.specs.declared.missing.Cause.{Cause}
use Rattle.text.specs.Value.{TextPart}

-- ---- the numbers that stand for a case

abbrev pub add : ℕ
add = 0

abbrev pub subtract : ℕ
subtract = 1

abbrev pub multiply : ℕ
multiply = 2

abbrev pub negate : ℕ
negate = 4

unfoldable pub operator_of : ℕ → Operator
operator_of n = cond (eqb n add) Add (cond (eqb n subtract) Subtract (cond (eqb n multiply) Multiply Divide))

abbrev pub rescale : ℕ
rescale = 5

-- the divide of version 5
abbrev pub divide5 : ℕ
divide5 = 6

abbrev pub text : ℕ
text = 0

abbrev pub varying : ℕ
varying = 1

unfoldable pub text_type_of : ℕ → TextType
text_type_of n = cond (eqb n text) Text (cond (eqb n varying) Varying Cstring)

abbrev pub containing : ℕ
containing = 0

abbrev pub matching : ℕ
matching = 1

unfoldable pub search_of : ℕ → TextSearch
search_of n = cond (eqb n containing) Containing (cond (eqb n matching) Matching Starting)

-- version 5 for its divide, version 4 for every other operation
unfoldable pub operation_version : ℕ → Version
operation_version n = cond (eqb n divide5) Version5 Version4

unfoldable pub operation : ℕ → Number → Number → Computed
operation n a b =
    cond (eqb n negate) (negated a) (cond (eqb n rescale) (rescaled (places b.scale) a)
    (cond (ltb divide5 n) (rescaled (places b.scale) a) (computed (operation_version n) (operator_of n) a b)))

-- ---- the numbers that a case gives

abbrev pub value_of : Computed → ℤ
value_of (Ok a) = a.value
value_of (Err e) = pos 0

abbrev pub scale_of : Computed → ℤ
scale_of (Ok a) = a.scale
scale_of (Err e) = pos 0

abbrev pub error_number : ArithmeticError → ℕ
error_number Overflow = 24
error_number ZeroDivisor = 25

abbrev pub refusal_of : Computed → ℕ
refusal_of (Ok a) = 0
refusal_of (Err e) = error_number e

-- what an operation gives, and what it leaves in the answer
pub record ComputedInto (c : Computed) (an' : List ℤ) (r : ℕ) : Type 0 where
  pub number_is : r ≡ refusal_of c
  pub answer_filled : an' ≡ value_of c ∷ scale_of c ∷ []

abbrev pub sign_of : Ordering → ℤ
sign_of Less = negsuc 0
sign_of Equal = pos 0
sign_of Greater = pos 1

abbrev pub start_of : TextPart → ℕ
start_of (Some (start, end)) = start
start_of None = 0

abbrev pub end_of : TextPart → ℕ
end_of (Some (start, end)) = end
end_of None = 0

-- where the first fault is; 0 where there is none
abbrev pub fault_of : Result (Unit {0}) ℕ → ℕ
fault_of (Ok u) = 0
fault_of (Err p) = p

abbrev pub presence_given : Option Cause → ℕ
presence_given None = 0
presence_given (Some Cause.Bit) = 1
presence_given (Some Cause.Reading) = 2
presence_given (Some Cause.Flag) = 3
presence_given (Some Cause.Nothing) = 4
