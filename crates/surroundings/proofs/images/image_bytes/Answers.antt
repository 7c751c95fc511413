use Prim.Native.Nat.{◌-◌}
use mathlib.Core.Path.{◌≡◌}
use native.Mathlib.Omega.{arith}
use Rattle.surroundings.proofs.ParameterLoops.{held_next, held-end}
use Rattle.surroundings.proofs.images.image_bytes.Goals as goal

pub loop-row-init : goal.loop-row-init
loop-row-init c = let k : c.min-rows.result - 0 ≡ c.min-rows.result = omega arith in
    (rw k (omega arith), omega arith)

pub loop-row-preserved : goal.loop-row-preserved
loop-row-preserved c = let next = held_next c.args.parameters.now c.loop-row.row c.min-rows.result c.loop-row-test.true in
    (omega (arith, c.loop-row.invariant.0, c.number_at.ensures, next), omega (arith, c.loop-row.invariant.1))

pub returns : goal.returns
returns c = rw (← c.min-rows.ensures)
    (omega (arith, c.loop-row.invariant.0, held-end c.args.parameters.now c.loop-row.row c.min-rows.result c.loop-row-test.false))
