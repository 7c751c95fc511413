-- Numbers by their values and scales: what the functions on them promise.
use Rattle.std.specs.Prelude.{ℕ, ◌≡◌, Bool, true, ℤ, ◌+ℤ◌, Ok}
use Rattle.wire.specs.declared.codes.Version.{Version}
use Rattle.wire.specs.declared.codes.Operator.{Operator}
use Rattle.wire.specs.declared.codes.Comparison.{Comparison}
use Rattle.decimal.specs.Number.{fits, computed, scaled}
use Rattle.meaning.specs.Data.{Datum, number, arithmetic_of, compare_of}
use Rattle.walking.specs.Walk.{ended}
use Rattle.values.specs.Values.{Lent, Valued, Tested, valued, tested}

-- the value that a value and a scale stand for
abbrev pub number_of : ℤ → ℤ → Datum
number_of value scale = number (scaled value scale)

-- ---- tests and arithmetic: the meaning's own, of the numbers that the values and scales stand for, with the place after them

abbrev pub NumbersCompared : Comparison → ℤ → ℤ → ℤ → ℤ → ℕ → Tested → Type 0
NumbersCompared c x a y b after r = tested r ≡ ended (compare_of c (number_of x a) (number_of y b)) after

abbrev pub NumbersComputed : Version → Operator → ℤ → ℤ → ℤ → ℤ → ℕ → ℕ → Valued → Type 0
NumbersComputed v o x a y b place after r =
    (m : Lent) → valued m r ≡ ended (arithmetic_of v o place (number_of x a) (number_of y b)) after

-- where it is so, the operator gives the sum of the values at the first scale, and the sum fits
pub record PlainlyComputed (o : Operator) (x a y b : ℤ) (r : Bool) : Type 0 where
  pub gives : r ≡ true → (v : Version) → computed v o (scaled x a) (scaled y b) ≡ Ok (scaled (x +ℤ y) a)
  pub within : r ≡ true → fits (x +ℤ y) ≡ true
