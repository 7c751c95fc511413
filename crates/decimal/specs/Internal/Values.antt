-- A value that may not fit, as a number or an overflow.
use Rattle.std.specs.Prelude.{ℤ, Option, Some, None, Ok, Err}
use Rattle.decimal.specs.declared.ArithmeticError.TheVariants.{Overflow}
use Rattle.decimal.specs.Number.{Computed}

abbrev pub number_of : Option ℤ → ℤ → Computed
number_of (Some z) scale = Ok (record { value = z; scale = scale })
number_of None scale = Err Overflow
