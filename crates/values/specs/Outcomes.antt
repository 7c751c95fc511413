-- What the functions on values alone promise.
use Rattle.std.specs.Prelude.{ℕ, ◌≡◌, Result, Ok, Err}
use Rattle.wire.specs.declared.codes.Version.{Version}
use Rattle.wire.specs.declared.codes.Operator.{Operator}
use Rattle.wire.specs.declared.codes.Comparison.{Comparison}
use Rattle.wire.specs.declared.codes.Comparison.TheVariants.{Geq, Leq}
use Rattle.wire.specs.declared.codes.TextSearch.{TextSearch}
use Rattle.wire.specs.declared.codes.Connective.TheVariants.{And}
use Rattle.decimal.specs.declared.Number.{Number}
use Rattle.decimal.specs.Number.{Computed}
use Rattle.meaning.specs.declared.Truth.{Truth}
use Rattle.meaning.specs.Data as Data
use Rattle.meaning.specs.Data.{is, ◌>>=◌, fault_of, result, arithmetic_of, negate_of, compare_of, search_of, missing_of, connected}
use Rattle.walking.specs.Walk.{ended, result_of}
use Rattle.values.specs.declared.Stop.{Stop}
use Rattle.values.specs.declared.Stop.TheVariants.{Refused}
use Rattle.values.specs.declared.Value.{Value}
use Rattle.values.specs.Values.{Lent, Valued, datum, valued, stopped}

-- ---- tests

-- what a test of values gives, without a place
abbrev pub outcome : Result Truth Stop → Data.Result Truth
outcome (Ok t) = is t
outcome (Err x) = result_of (stopped x)

abbrev pub ComparedOf : Lent → Comparison → Value → Value → Result Truth Stop → Type 0
ComparedOf m c x y r = outcome r ≡ compare_of c (datum m x) (datum m y)

-- both comparisons of between, the first stray met before all else
abbrev pub both_of : Data.Result Truth → Data.Result Truth → Data.Result Truth
both_of u v = u >>= (λ a. v >>= (λ b. is (connected And a b)))

abbrev pub BetweenOf : Lent → Value → Value → Value → Result Truth Stop → Type 0
BetweenOf m x y z r = outcome r ≡ both_of (compare_of Geq (datum m x) (datum m y)) (compare_of Leq (datum m x) (datum m z))

abbrev pub SearchedOf : Lent → TextSearch → Value → Value → Result Truth Stop → Type 0
SearchedOf m t x y r = outcome r ≡ search_of t (datum m x) (datum m y)

abbrev pub MissingOf : Value → Truth → Type 0
MissingOf x r = (m : Lent) → r ≡ missing_of (datum m x)

-- ---- arithmetic on values alone, and the place after them

-- a number, or a refusal at a place
abbrev pub at_place : ℕ → Computed → Result Number Stop
at_place p (Ok a) = Ok a
at_place p (Err e) = Err (Refused (fault_of e) p)

abbrev pub ResultIs : Computed → ℕ → ℕ → Valued → Type 0
ResultIs a place end r = (m : Lent) → valued m r ≡ ended (result place a) end

abbrev pub CalculatedOf : Version → Operator → Value → Value → ℕ → ℕ → Valued → Type 0
CalculatedOf v o x y place end r = (m : Lent) → valued m r ≡ ended (arithmetic_of v o place (datum m x) (datum m y)) end

abbrev pub NegatedOf : Value → ℕ → ℕ → Valued → Type 0
NegatedOf x place end r = (m : Lent) → valued m r ≡ ended (negate_of place (datum m x)) end
