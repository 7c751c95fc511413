-- Signed numbers and their bits: what a call is handed, and what a test for zero tells. Assumes nothing.
use Prim.Native.Nat.{◌^◌, ◌<◌}
use mathlib.Core.Path.{◌≡◌, ap, subst}
use mathlib.Core.Bool.{Bool, true, false, not}
use native.Mathlib.Omega.{arith}
use lib.Dec.{T}
use lib.IntN.{ℤ, pos, negsuc}
use lib.Signed.{mag}
use mir.Syntax.{Width, w64}
use mir.Val.{SFits, to_z, of_z, hbits}
use mir.Facts.{to_z-of_z}

pub clash : {X : Type 0} → false ≡ true → X
clash e = absurd (subst (λ (b : Bool). T (not b)) e tt)

-- a number in range is read back from its bits
pub read_back : (w : Width) (z : ℤ) → mag z < 2 ^ hbits w → to_z w (of_z w z) ≡ z
read_back w z h = to_z-of_z (record { sfits = h })

-- a test of a signed number against a literal speaks of its bits
pub bits-zero : (b : ℤ) → SFits w64 b → of_z w64 b ≡ 0 → b ≡ pos 0
bits-zero (pos n) f e = ap pos e
bits-zero (negsuc n) f e = let h : n < 9223372036854775808 = f.sfits in absurd (omega arith)
