-- A value times a power of ten, twice. Assumes nothing.
use Prim.Native.Nat.{ℕ, zero, suc, ◌+◌, ◌*◌, ◌^◌, ◌≤◌, ◌<◌}
use mathlib.Core.Path.{◌≡◌, refl, sym, ap, ◌∙◌}
use mathlib.Core.Bool.{true, false}
use native.Mathlib.Omega.{arith}
use native.Mathlib.Nat.{mul_assoc, mul-le-mul_left, mul-one}
use native.Mathlib.Decide.{dec_lt}
use lib.Pow.{pow-add}
use lib.IntN.{ℤ, pos, negsuc, neg_ℤ, ◌*ℤ◌}
use lib.Signed.{mag}
use mir.Syntax.{w64}
use mir.Val.{of_z}
use Rattle.std.specs.Prelude.{Err}
use Rattle.decimal.specs.declared.ArithmeticError.TheVariants.{Overflow}
use Rattle.decimal.specs.Number.{Computed, fitted, unless_zero, ◌>>=◌}
use Rattle.decimal.specs.Internal.Signs.{signed}
use Rattle.decimal.proofs.Fitted.{fits_in, fits_out, negative-out}
use Rattle.decimal.proofs.Signed.{product-signed}
use Rattle.decimal.proofs.Parts.{power_pos}

-- the square of a power
twice : (k : ℕ) → 10 ^ k * 10 ^ k ≡ 10 ^ (2 * k)
twice k = let e : k + k ≡ 2 * k = omega arith in sym (pow-add 10 k k) ∙ ap (λ (n : ℕ). 10 ^ n) e

again : (n k : ℕ) → n * 10 ^ k * 10 ^ k ≡ n * 10 ^ (2 * k)
again n k = mul_assoc n (10 ^ k) (10 ^ k) ∙ ap (λ (m : ℕ). n * m) (twice k)

-- raised by k places, and by k places again
pub raised-again : (x : ℤ) (k : ℕ) → x *ℤ pos (10 ^ k) *ℤ pos (10 ^ k) ≡ x *ℤ pos (10 ^ (2 * k))
unfolding signed
raised-again (pos n) k = ap pos (again n k)
raised-again (negsuc n) k = product-signed true false (suc n * 10 ^ k) (10 ^ k) ∙ ap (λ (m : ℕ). neg_ℤ (pos m)) (again (suc n) k)

no_less : (n m : ℕ) → 0 < m → n ≤ n * m
no_less n m h = let l : n * 1 ≤ n * m = mul-le-mul_left n h in omega (arith, mul-one n)

-- what does not fit does not fit when it is raised
further : (x : ℤ) (m : ℕ) → 0 < m → mag x ≤ mag (x *ℤ pos m)
further (pos n) m h = no_less n m h
further (negsuc n) m h = let l : suc n ≤ suc n * m = no_less (suc n) m h in negative-out (suc n * m) n l

-- a divisor that is not zero
pub unless-other : (y : ℤ) (x : Computed) → (of_z w64 y ≡ 0 → ⊥) → unless_zero y x ≡ x
unless-other (pos zero) x h = absurd (h refl)
unless-other (pos (suc n)) x h = refl
unless-other (negsuc n) x h = refl

-- raised twice, step by step
pub raised-twice : (x scale : ℤ) (k : ℕ) → (fitted (x *ℤ pos (10 ^ k)) scale >>= λ n. fitted (n.value *ℤ pos (10 ^ k)) scale) ≡ fitted (x *ℤ pos (10 ^ (2 * k))) scale
raised-twice x scale k = go (dec_lt (mag (x *ℤ pos (10 ^ k))) (2 ^ 63))
  where
    go : Dec (mag (x *ℤ pos (10 ^ k)) < 2 ^ 63) → (fitted (x *ℤ pos (10 ^ k)) scale >>= λ n. fitted (n.value *ℤ pos (10 ^ k)) scale) ≡ fitted (x *ℤ pos (10 ^ (2 * k))) scale
    go (yes l) = rw (← fits_in (x *ℤ pos (10 ^ k)) scale l, raised-again x k)
    go (no l) =
        let m = further (x *ℤ pos (10 ^ k)) (10 ^ k) (power_pos k) in
        let h : 2 ^ 63 ≤ mag (x *ℤ pos (10 ^ k) *ℤ pos (10 ^ k)) = omega (arith, m) in
        rw (← fits_out (x *ℤ pos (10 ^ k)) scale (omega arith)) (fits_out (x *ℤ pos (10 ^ (2 * k))) scale (rw (raised-again x k) at h))

-- what is raised and does not fit, does not fit when it is raised again
pub fitted-again : (x scale : ℤ) (k : ℕ) → fitted (x *ℤ pos (10 ^ k)) scale ≡ Err Overflow → Err Overflow ≡ fitted (x *ℤ pos (10 ^ (2 * k))) scale
fitted-again x scale k e = rw e at (raised-twice x scale k)
