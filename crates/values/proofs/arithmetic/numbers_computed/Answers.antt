-- `values::arithmetic::numbers_computed` meets its contract, where the sum is plain. Assumes nothing.
use lib.IntN.{◌+ℤ◌}
use borrow.Author.Tests.{ltb-true}
use mir.Syntax.{w64}
use mir.Facts.{to_z-of_z}
use Rattle.decimal.specs.Number.{scaled}
use Rattle.decimal.proofs.Bits.{read_back}
use Rattle.values.proofs.NumberLaws.{compute-numbers}
use Rattle.values.proofs.arithmetic.numbers_computed.Goals as goal

pub returns-then-plain_sum : goal.returns-then-plain_sum
returns-then-plain_sum c =
    let h = rw (to_z-of_z c.ranges.x, to_z-of_z c.ranges.y) at (c.plain_sum.ensures.within c.if-plain_sum.true) in
    let g =
    rw (to_z-of_z c.ranges.x, to_z-of_z c.ranges.a, to_z-of_z c.ranges.y, to_z-of_z c.ranges.b) at (c.plain_sum.ensures.gives c.if-plain_sum.true c.args.v) in
    λ m.
    rw (
      to_z-of_z c.ranges.x,
      to_z-of_z c.ranges.y,
      to_z-of_z c.ranges.a,
      read_back w64 (c.args.x +ℤ c.args.y) (ltb-true _ _ h),
      compute-numbers c.args.v c.args.o c.args.place (scaled c.args.x c.args.a) (scaled c.args.y c.args.b),
      g,
    )
