use native.Mathlib.Omega.{arith}
use native.Mathlib.Nat.{mul-le-mul_right, suc-mul}
use Prim.Native.Nat.{ℕ, suc, ◌+◌, ◌*◌, ◌≤◌, ◌<◌}
use lib.ListN.{length}
use Rattle.listing.proofs.table.rows.Goals as goal

row_inside : (n count width l : ℕ) → n < count → count * width ≤ l → n * width + width ≤ l
row_inside n count width l h fits =
    omega (arith, suc-mul n width, mul-le-mul_right {m = suc n} {n = count} width (omega arith))
