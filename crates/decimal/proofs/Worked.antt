-- The numbers of docs/COMPARING.md, computed: whole part and fraction of each, and their order. Assumes nothing.
use Prim.Native.Nat.{ℕ}
use mathlib.Core.Path.{◌≡◌, refl}
use lib.IntN.{ℤ, pos, neg_ℤ}
use Rattle.std.specs.declared.cmp.Ordering.TheVariants.{Less, Equal, Greater}
use Rattle.decimal.specs.declared.Number.{Number}
use Rattle.decimal.specs.Number.{places, scale_of, compared}
use Rattle.wire.specs.Orders.{order_ℤ}
use Rattle.decimal.specs.Comparing.{whole_part, fraction_at}

-- a value with so many places
abbrev number : ℤ → ℕ → Number
number v p = record { value = v; scale = scale_of p }

-- the whole part, and the fraction at k places
abbrev parts : ℕ → Number → ℤ × ℤ
parts k a = (whole_part a, fraction_at k a)

abbrev greatest : ℤ
greatest = pos 9223372036854775807

abbrev least : ℤ
least = neg_ℤ (pos 9223372036854775808)

-- 30 and 30.0
thirty : (parts 1 (number (pos 30) 0) ≡ (pos 30, pos 0)) × (parts 1 (number (pos 300) 1) ≡ (pos 30, pos 0))
    × (compared (number (pos 30) 0) (number (pos 300) 1) ≡ Equal)
unfolding places order_ℤ compared whole_part fraction_at
thirty = (refl, refl, refl)

-- 30.5 and 30.45
fractions : (parts 2 (number (pos 305) 1) ≡ (pos 30, pos 50)) × (parts 2 (number (pos 3045) 2) ≡ (pos 30, pos 45))
    × (compared (number (pos 305) 1) (number (pos 3045) 2) ≡ Greater)
unfolding places order_ℤ compared whole_part fraction_at
fractions = (refl, refl, refl)

-- -0.5 and 0
below-zero : (parts 1 (number (neg_ℤ (pos 5)) 1) ≡ (pos 0, neg_ℤ (pos 5))) × (parts 1 (number (pos 0) 0) ≡ (pos 0, pos 0))
    × (compared (number (neg_ℤ (pos 5)) 1) (number (pos 0) 0) ≡ Less)
unfolding places order_ℤ compared whole_part fraction_at
below-zero = (refl, refl, refl)

-- -1 and -0.5
minus_one : (parts 1 (number (neg_ℤ (pos 1)) 0) ≡ (neg_ℤ (pos 1), pos 0)) × (compared (number (neg_ℤ (pos 1)) 0) (number (neg_ℤ (pos 5)) 1) ≡ Less)
unfolding places order_ℤ compared whole_part fraction_at
minus_one = (refl, refl)

-- the greatest value with no places, and with 18
far_apart : (parts 18 (number greatest 0) ≡ (greatest, pos 0)) × (parts 18 (number greatest 18) ≡ (pos 9, pos 223372036854775807))
    × (compared (number greatest 0) (number greatest 18) ≡ Greater)
unfolding places order_ℤ compared whole_part fraction_at
far_apart = (refl, refl, refl)

-- the least value with 18 places, and -9
near-nine : (parts 18 (number least 18) ≡ (neg_ℤ (pos 9), neg_ℤ (pos 223372036854775808))) × (parts 18 (number (neg_ℤ (pos 9)) 0) ≡ (neg_ℤ (pos 9), pos 0))
    × (compared (number least 18) (number (neg_ℤ (pos 9)) 0) ≡ Less)
unfolding places order_ℤ compared whole_part fraction_at
near-nine = (refl, refl, refl)
