use Prim.Native.Nat.{◌-◌}
use native.Mathlib.Omega.{arith}
use Rattle.explanation.proofs.RowLaws.{moving-starts, moving-on, moving-ends}
use Rattle.explanation.proofs.rows.move_down.Goals as goal

pub loop-i-init : goal.loop-i-init
loop-i-init c = (omega arith, c.requires.1, moving-starts _ _ _)

pub overflow_add-j : goal.overflow_add-j
overflow_add-j c = let step = c.loop-i.invariant.2.step in
    let down = c.requires.0 in
    let few = c.requires.2 in
    let test = c.loop-i-test.true in
    record { fits = omega arith }

pub loop-i-preserved : goal.loop-i-preserved
loop-i-preserved c = let test = c.loop-i-test.true in
    let few = c.requires.2 in
    (omega (arith, c.loop-i.invariant.0), omega (arith, test), moving-on c.requires.0 c.loop-i.invariant.0 (omega (arith, test, few)) c.loop-i.invariant.2 c.number_at.ensures c.put.ensures)

pub shape_of-noted : goal.shape_of-noted
shape_of-noted c = c.loop-i.invariant.2.same

pub returns : goal.returns
returns c = moving-ends c.requires.1 (omega (arith, c.loop-i.invariant.1, c.loop-i-test.false)) c.loop-i.invariant.2
