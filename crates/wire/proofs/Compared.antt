-- What `cmp` answers of two numbers is their order.
use mathlib.Core.Path.{◌≡◌, refl}
use mathlib.Core.Bool.{Bool, true, false, cond}
use Prim.Native.Nat.{ℕ, ◌<◌}
use native.Mathlib.Omega.{arith}
use native.Mathlib.Decide.{dec_lt}
use borrow.Author.Tests.{lt-ltb, le-ltb, eq-eqb, ne_eqb}
use lib.Dec.{ltb}
use lib.IntN.{ℤ}
use lib.Signed.{lt_z}
use Rattle.std.specs.Ordering.{nat_cmp, int_cmp}
use Rattle.std.specs.declared.cmp.Ordering.TheVariants.{Less, Equal, Greater}
use Rattle.wire.specs.Orders.{order_by, order_ℕ, order_ℤ}

by_tests : (a b : Bool) → cond a Less (cond b Greater Equal) ≡ order_by a b
by_tests true b = refl
by_tests false true = refl
by_tests false false = refl

pub cmp-order_ℤ : (x y : ℤ) → int_cmp x y ≡ order_ℤ x y
unfolding order_ℤ
cmp-order_ℤ x y = by_tests (lt_z x y) (lt_z y x)

pub cmp-order_ℕ : (x y : ℕ) → nat_cmp x y ≡ order_ℕ x y
unfolding order_ℕ
cmp-order_ℕ x y = go (dec_lt x y) (dec_lt y x)
  where
    go : Dec (x < y) → Dec (y < x) → nat_cmp x y ≡ order_by (ltb x y) (ltb y x)
    go (yes p) d = rw (lt-ltb x y p)
    go (no p) (yes q) = rw (le-ltb x y (omega arith), lt-ltb y x q, ne_eqb x y (omega arith))
    go (no p) (no q) = rw (le-ltb x y (omega arith), le-ltb y x (omega arith), eq-eqb x y (omega arith))
