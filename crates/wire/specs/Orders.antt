-- The order of two numbers, and two orders one after the other.
use Rattle.std.specs.Prelude.{ℕ, Bool, true, false, ltb, ℤ}
use Rattle.std.specs.Int.Signed.{lt_z}
use Rattle.std.specs.declared.cmp.Ordering.{Ordering}
use Rattle.std.specs.declared.cmp.Ordering.TheVariants.{Less, Equal, Greater}

-- by whether the first is less than the second, and the second than the first
abbrev pub order_by : Bool → Bool → Ordering
order_by true b = Less
order_by false true = Greater
order_by false false = Equal

unfoldable pub order_ℕ : ℕ → ℕ → Ordering
order_ℕ x y = order_by (ltb x y) (ltb y x)

unfoldable pub order_ℤ : ℤ → ℤ → Ordering
order_ℤ x y = order_by (lt_z x y) (lt_z y x)

-- the first order, and where that is equal the second
abbrev pub where_equal : Ordering → Ordering → Ordering
where_equal Less o = Less
where_equal Equal o = o
where_equal Greater o = Greater
