-- What fits a signed 64-bit number, and what does not.
use Prim.Native.Nat.{ℕ, zero, suc, ◌^◌, ◌≤◌, ◌<◌}
use mathlib.Core.Path.{◌≡◌, sym, ap₂, ◌∙◌}
use native.Mathlib.Omega.{arith}
use native.Mathlib.Decide.{dec_lt}
use borrow.Author.Tests.{lt-ltb, le-ltb}
use lib.IntN.{ℤ, pos, neg_ℤ, ◌*ℤ◌, one, *ℤ-one}
use lib.Signed.{mag}
use mir.Syntax.{w64}
use mir.Val.{SFits}
use Rattle.std.specs.Prelude.{Option, Some, None, Ok, Err, SomeIff, is_some}
use mathlib.Core.Bool.{false}
use Rattle.decimal.specs.declared.ArithmeticError.TheVariants.{Overflow}
use Rattle.decimal.specs.Number.{fits, fitted}
use Rattle.decimal.specs.Internal.Values.{number_of}

pub fits_in : (z scale : ℤ) → mag z < 2 ^ 63 → Ok (record { value = z; scale = scale }) ≡ fitted z scale
unfolding fitted
fits_in z scale h = rw (lt-ltb (mag z) (2 ^ 63) h)

-- a value and a scale that were read back from their bits
pub made : {z scale v s : ℤ} → v ≡ z → s ≡ scale → mag z < 2 ^ 63 → Ok (record { value = v; scale = s }) ≡ fitted z scale
made {z} {scale} e f h = ap₂ (λ (v s : ℤ). Ok (record { value = v; scale = s })) e f ∙ fits_in z scale h

pub fits_out : (z scale : ℤ) → 2 ^ 63 ≤ mag z → Err Overflow ≡ fitted z scale
unfolding fitted
fits_out z scale h = rw (le-ltb (mag z) (2 ^ 63) h)

-- what a checked operation of std gives, as a number
pub number_is : (r : Option ℤ) (z scale : ℤ) → SomeIff r (SFits w64 z) z → number_of r scale ≡ fitted z scale
number_is (Some v) z scale (f, e) = rw e (fits_in z scale f.sfits)
number_is None z scale h = go (dec_lt (mag z) (2 ^ 63))
  where
    go : Dec (mag z < 2 ^ 63) → Err Overflow ≡ fitted z scale
    go (yes l) = absurd (h (record { sfits = l }))
    go (no l) = fits_out z scale (omega arith)

-- -m is in range for an m up to the bound, and for no other
pub negative-in : (m b : ℕ) → m ≤ b → 0 < b → mag (neg_ℤ (pos m)) < b
negative-in zero b l h = h
negative-in (suc k) b l h = l

pub negative-out : (m b : ℕ) → b < m → b ≤ mag (neg_ℤ (pos m))
negative-out zero b l = omega arith
negative-out (suc k) b l = omega arith

-- a value at its own places
pub raised-by-none : (z : ℤ) → z *ℤ pos (10 ^ 0) ≡ z
unfolding one
raised-by-none z = *ℤ-one z

-- whether there is such a value
pub some_fits : (r : Option ℤ) (z : ℤ) → SomeIff r (SFits w64 z) z → is_some r ≡ fits z
some_fits (Some v) z (f, e) = sym (lt-ltb (mag z) (2 ^ 63) f.sfits)
some_fits None z h = go (dec_lt (mag z) (2 ^ 63))
  where
    go : Dec (mag z < 2 ^ 63) → false ≡ fits z
    go (yes l) = absurd (h (record { sfits = l }))
    go (no l) = sym (le-ltb (mag z) (2 ^ 63) (omega arith))
