-- Numbers by their values and scales: tests and arithmetic on them are those of the values that they stand for. Assumes nothing.
use Prim.Native.Nat.{ℕ}
use mathlib.Core.Path.{◌≡◌, refl}
use Rattle.wire.specs.declared.codes.Version.{Version}
use Rattle.wire.specs.declared.codes.Version.TheVariants.{Version4, Version5}
use Rattle.wire.specs.declared.codes.Operator.{Operator}
use Rattle.wire.specs.declared.codes.Operator.TheVariants.{Add}
use Rattle.wire.specs.declared.codes.Comparison.{Comparison}
use Rattle.decimal.specs.declared.Number.{Number}
use Rattle.decimal.specs.Number.{added, computed, compared}
use Rattle.meaning.specs.Data.{is, number, kind, pair, result, truth, holds, arithmetic_of, compare_of}

pub compare-numbers : (c : Comparison) (x y : Number) → compare_of c (number x) (number y) ≡ is (truth (holds c (compared x y)))
unfolding compare_of pair kind
compare-numbers c x y = refl

pub compute-numbers : (v : Version) (o : Operator) (p : ℕ) (x y : Number) →
    arithmetic_of v o p (number x) (number y) ≡ result p (computed v o x y)
unfolding arithmetic_of pair kind
compute-numbers v o p x y = refl

pub compute-sum : (v : Version) (x y : Number) → computed v Add x y ≡ added x y
unfolding computed
compute-sum Version4 x y = refl
compute-sum Version5 x y = refl
