-- Products of values by their signs and magnitudes.
use Prim.Native.Nat.{ℕ, zero, suc, ◌*◌}
use mathlib.Core.Path.{◌≡◌, refl}
use mathlib.Core.Bool.{Bool, true, false, not, beq}
use native.Mathlib.Nat.{zero-mul, mul-zero}
use lib.IntN.{◌*ℤ◌}
use Rattle.decimal.specs.Internal.Signs.{signed}

pub product-signed : (s t : Bool) (a b : ℕ) → signed s a *ℤ signed t b ≡ signed (not (beq s t)) (a * b)
unfolding signed
product-signed true true zero zero = refl
product-signed true true zero (suc b) = rw zero-mul
product-signed true true (suc a) zero = rw mul-zero
product-signed true true (suc a) (suc b) = refl
product-signed true false zero b = rw zero-mul
product-signed true false (suc a) b = refl
product-signed false true a zero = rw mul-zero
product-signed false true a (suc b) = refl
product-signed false false a b = refl
