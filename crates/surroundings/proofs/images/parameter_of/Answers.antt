use Prim.Native.Nat.{◌-◌}
use mathlib.Core.Path.{◌≡◌, sym, ◌∙◌}
use native.Mathlib.Omega.{arith}
use Rattle.surroundings.proofs.ParameterLoops.{parameter-here, parameter-next, parameter-end}
use Rattle.surroundings.proofs.images.parameter_of.Goals as goal

pub loop-row-init : goal.loop-row-init
loop-row-init c = let k : c.min-rows.result - 0 ≡ c.min-rows.result = omega arith in
    (rw k, omega arith)

pub returns-then-is_row : goal.returns-then-is_row
returns-then-is_row c = let law = parameter-here c.args.parameters.now c.args.message.0 c.args.index c.loop-row.row c.min-rows.result c.loop-row.p in
    rw (← c.min-rows.ensures)
    (c.described.ensures
    ∙ law c.loop-row-test.true c.is_row.result c.is_row.ensures c.if-is_row.true
    c.number_at-code.result c.number_at-scale.result c.number_at-held.result c.number_at-code.ensures c.number_at-scale.ensures c.number_at-held.ensures
    ∙ sym c.loop-row.invariant.0)

pub loop-row-preserved : goal.loop-row-preserved
loop-row-preserved c = let law = parameter-next c.args.parameters.now c.args.message.0 c.args.index c.loop-row.row c.min-rows.result c.loop-row.p in
    let next = law c.loop-row-test.true c.is_row.result c.is_row.ensures c.if-is_row.false c.number_at-held.result c.number_at-held.ensures in
    (c.loop-row.invariant.0 ∙ next, omega (arith, c.loop-row.invariant.1))

pub returns : goal.returns
returns c = let law = parameter-end c.args.parameters.now c.args.message.0 c.args.index c.loop-row.row c.min-rows.result c.loop-row.p in
    rw (← c.min-rows.ensures) (law c.loop-row-test.false ∙ sym c.loop-row.invariant.0)
