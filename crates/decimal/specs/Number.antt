-- 01: "Numbers are signed 64-bit with a scale, compared exactly over the powers of ten up to 10^18."
use Rattle.std.specs.Prelude.{ℕ, suc, ◌+◌, ◌-◌, ◌*◌, ◌^◌, min, max, Bool, cond, ltb, ℤ, pos, negsuc, neg_ℤ, ◌+ℤ◌, ◌-ℤ◌, ◌*ℤ◌, Result, Ok, Err}
use Rattle.std.specs.Int.Signed.{mag, quot_z}
use Rattle.std.specs.declared.cmp.Ordering.{Ordering}
use Rattle.wire.specs.Orders.{order_ℤ}
use Rattle.wire.specs.declared.codes.Version.{Version}
use Rattle.wire.specs.declared.codes.Version.TheVariants.{Version4, Version5}
use Rattle.wire.specs.declared.codes.Operator.{Operator}
use Rattle.wire.specs.declared.codes.Operator.TheVariants.{Add, Subtract, Multiply, Divide}
use Rattle.decimal.specs.declared.Number.{Number}
use Rattle.decimal.specs.declared.ArithmeticError.{ArithmeticError}
use Rattle.decimal.specs.declared.ArithmeticError.TheVariants.{Overflow, ZeroDivisor}

-- what an operation gives
abbrev pub Computed : Type 0
Computed = Result Number ArithmeticError

-- the number of a value and a scale
abbrev pub scaled : ℤ → ℤ → Number
scaled x a = record { value = x; scale = a }

-- 01: "arithmetic -18 to 0"
abbrev pub max_places : ℕ
max_places = 18

-- a scale of -k is k decimal places; any scale below -18 or above 0 counts as the nearest of these
unfoldable pub places : ℤ → ℕ
places (pos n) = 0
places (negsuc n) = min max_places (suc n)

-- the scale of so many places
abbrev pub scale_of : ℕ → ℤ
scale_of k = neg_ℤ (pos k)

-- whether a signed 64-bit number holds a value; `mag` is n for n and for -(n + 1)
abbrev pub fits : ℤ → Bool
fits z = ltb (mag z) (2 ^ 63)

-- 01: "result that doesn't fit is overflow"
unfoldable pub fitted : ℤ → ℤ → Computed
fitted z scale = cond (fits z) (Ok (record { value = z; scale = scale })) (Err Overflow)

-- a number's value at k places, or at its own where these are more
abbrev pub value_at : ℕ → Number → ℤ
value_at k a = a.value *ℤ pos (10 ^ (k - places a.scale))

-- the same number at k places, or at its own where these are more; or overflow
unfoldable pub rescaled : ℕ → Number → Computed
rescaled k a = fitted (value_at k a) (scale_of (max k (places a.scale)))

infixl 10 ◌>>=◌
abbrev pub ◌>>=◌ : Computed → (Number → Computed) → Computed
◌>>=◌ (Ok a) f = f a
◌>>=◌ (Err e) f = Err e

-- the places of the smaller scale
abbrev pub common : Number → Number → ℕ
common a b = max (places a.scale) (places b.scale)

-- 01: "Add and subtract bring both to the smaller scale; a rescaled operand or result that doesn't fit is overflow."
unfoldable pub added : Number → Number → Computed
added a b = do
  x ← rescaled (common a b) a
  y ← rescaled (common a b) b
  fitted (x.value +ℤ y.value) (scale_of (common a b))

unfoldable pub subtracted : Number → Number → Computed
subtracted a b = do
  x ← rescaled (common a b) a
  y ← rescaled (common a b) b
  fitted (x.value -ℤ y.value) (scale_of (common a b))

-- 01: "multiply the sum"
unfoldable pub multiplied : Number → Number → Computed
multiplied a b = fitted (a.value *ℤ b.value) (scale_of (places a.scale + places b.scale))

-- a number's value divided by another, given a scale; 01: "Division truncates toward zero."
unfoldable pub divided : Number → ℤ → ℤ → Computed
divided a (pos ℕ.zero) scale = Err ZeroDivisor
divided a (pos (suc n)) scale = fitted (quot_z a.value (pos (suc n))) scale
divided a (negsuc n) scale = fitted (quot_z a.value (negsuc n)) scale

-- 01: "divide first minus second"
unfoldable pub quotient : Number → Number → Computed
quotient a b = divided a b.value (scale_of (places a.scale) -ℤ scale_of (places b.scale))

-- 02, No. 8: "a zero divisor is told first"
abbrev pub unless_zero : ℤ → Computed → Computed
unless_zero (pos ℕ.zero) x = Err ZeroDivisor
unless_zero (pos (suc n)) x = x
unless_zero (negsuc n) x = x

-- 02, No. 8: "the dividend times ten to minus twice the divisor's scale", or "overflow if the multiplied dividend .. doesn't fit"
abbrev pub raised_dividend : Number → Number → Computed
raised_dividend a b = fitted (a.value *ℤ pos (10 ^ (2 * places b.scale))) (scale_of (places a.scale))

-- the quotient of a number that may be overflow
abbrev pub divided_from : Computed → ℤ → ℤ → Computed
divided_from a y scale = a >>= λ x. divided x y scale

-- 02, No. 8: "A quotient has the sum of the two scales: the dividend times ten to minus twice the divisor's scale, divided and truncated
-- toward zero, with overflow if the multiplied dividend or the quotient doesn't fit; a zero divisor is told first."
unfoldable pub quotient5 : Number → Number → Computed
quotient5 a b =
    unless_zero b.value (divided_from (raised_dividend a b) b.value (scale_of (places a.scale + places b.scale)))

unfoldable pub negated : Number → Computed
negated a = fitted (neg_ℤ a.value) (scale_of (places a.scale))

-- 02, No. 8: "Version 4 keeps its divide rule"
unfoldable pub computed : Version → Operator → Number → Number → Computed
computed v Add a b = added a b
computed v Subtract a b = subtracted a b
computed v Multiply a b = multiplied a b
computed Version4 Divide a b = quotient a b
computed Version5 Divide a b = quotient5 a b

-- 01: "compared exactly over the powers of ten up to 10^18": both at the most places
unfoldable pub compared : Number → Number → Ordering
compared a b = order_ℤ (value_at max_places a) (value_at max_places b)
