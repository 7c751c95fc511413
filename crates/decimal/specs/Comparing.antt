-- How two numbers compare, as one sees it in the written numbers: by what stands before the point, and where that is the same by what
-- stands after it. This is the order that `compare` promises, `Number.compared`: the theorem `compares-by-parts` in proofs/Parts.antt.
use Rattle.std.specs.Prelude.{ℕ, ◌-◌, ◌^◌, ℤ, pos, ◌*ℤ◌}
use Rattle.std.specs.Int.Signed.{quot_z, rem_z}
use Rattle.std.specs.declared.cmp.Ordering.{Ordering}
use Rattle.wire.specs.Orders.{order_ℤ, where_equal}
use Rattle.decimal.specs.declared.Number.{Number}
use Rattle.decimal.specs.Number.{places, common}

-- the whole part: the value divided by ten to the number of its places, cut toward zero. Of 30.5 it is 30, of -30.5 it is -30, of -0.5
-- it is 0.
unfoldable pub whole_part : Number → ℤ
whole_part a = quot_z a.value (pos (10 ^ places a.scale))

-- the signed fraction: what the whole part leaves, with the number's own sign, counted at k places. Of 30.5 it is 5 at one place and 50
-- at two, of -0.5 it is -5 at one place, of 30 it is 0 at any.
unfoldable pub fraction_at : ℕ → Number → ℤ
fraction_at k a = rem_z a.value (pos (10 ^ places a.scale)) *ℤ pos (10 ^ (k - places a.scale))

-- 02: "two numbers compare as their whole parts, cut toward zero, and where these are equal as their signed fractions." Both fractions
-- are counted at the places of the number that has more of them.
unfoldable pub by_parts : Number → Number → Ordering
by_parts a b = where_equal (order_ℤ (whole_part a) (whole_part b)) (order_ℤ (fraction_at (common a b) a) (fraction_at (common a b) b))
