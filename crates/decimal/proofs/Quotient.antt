-- The quotient of two signed 64-bit values, toward zero. Assumes nothing.
use Prim.Native.Nat.{ℕ, zero, suc, ◌/◌, ◌^◌, ◌<◌}
use mathlib.Core.Path.{◌≡◌, refl, ap}
use native.Mathlib.Omega.{arith}
use native.Mathlib.Nat.{div-one, div-le_self, div-lt_self}
use lib.Dec.{lit<}
use lib.IntN.{ℤ, pos, negsuc, neg_ℤ}
use lib.Signed.{mag, quot_z}
use mir.Syntax.{w64}
use mir.Val.{SFits, of_z}
use Rattle.std.specs.Prelude.{Option, Some, None, SomeIff}
use Rattle.std.specs.Int.{CanDivide}
use Rattle.decimal.specs.declared.Number.{Number}
use Rattle.decimal.specs.Number.{fitted, divided}
use Rattle.decimal.proofs.Fitted.{negative-in}

-- the quotient by any other than -1 fits
pub quotient_fits : (a b : ℤ) → mag a < 2 ^ 63 → (of_z w64 b ≡ 18446744073709551615 → ⊥) → mag (quot_z a b) < 2 ^ 63
quotient_fits (pos a) (pos b) l h = omega (arith, div-le_self a b)
quotient_fits (pos a) (negsuc b) l h = negative-in (a / suc b) (2 ^ 63) (omega (arith, div-le_self a (suc b))) (lit< tt)
quotient_fits (negsuc a) (pos b) l h = negative-in (suc a / b) (2 ^ 63) (omega (arith, div-le_self (suc a) b)) (lit< tt)
quotient_fits (negsuc a) (negsuc zero) l h = absurd (h refl)
quotient_fits (negsuc a) (negsuc (suc b)) l h = let d : suc a / suc (suc b) < suc a = div-lt_self (omega arith) (omega arith) in omega arith

pub quotient-minus : (a : ℤ) → quot_z a (negsuc 0) ≡ neg_ℤ a
quotient-minus (pos a) = ap (λ (n : ℕ). neg_ℤ (pos n)) (div-one a)
quotient-minus (negsuc a) = ap pos (div-one (suc a))

pub divided-other : (a : Number) (b scale : ℤ) → (of_z w64 b ≡ 0 → ⊥) → fitted (quot_z a.value b) scale ≡ divided a b scale
unfolding divided
divided-other a (pos zero) scale h = absurd (h refl)
divided-other a (pos (suc n)) scale h = refl
divided-other a (negsuc n) scale h = refl

positive : (n : ℕ) → (n ≡ 0 → ⊥) → 0 < n
positive n h = omega arith

-- by a divisor that is not zero, what `checked_div` answers goes by whether the quotient fits
pub divides-or-not : (r : Option ℤ) (x b : ℤ) {y : ℤ} → (of_z w64 y ≡ 0 → ⊥) → b ≡ y
    → SomeIff r (CanDivide w64 x b) (quot_z x b) → SomeIff r (SFits w64 (quot_z x b)) (quot_z x b)
divides-or-not (Some v) x b h e (p, q) = (p.1, q)
divides-or-not None x b h e n = λ f. n (positive (of_z w64 b) (λ z. h (rw e at z)), f)
