use Prim.Native.Nat.{◌-◌}
use Rattle.surroundings.proofs.BindingLoops.{lay-start, lay-next, lay-end}
use Rattle.surroundings.proofs.bindings.lay_contexts.Goals as goal

pub loop-row-init : goal.loop-row-init
loop-row-init c = lay-start c.args.numbers.now c.args.relations.now c.args.records.now c.min-rows.result c.args.bindings.now

pub loop-row-preserved : goal.loop-row-preserved
loop-row-preserved c = let law =
    lay-next c.args.numbers.now c.args.relations.now c.args.records.now c.min-rows.result c.args.bindings.now c.loop-row.bindings
    c.loop-row.row c.loop-row.p c.loop-row.invariant c.loop-row-test.true in
    law c.number_at.result c.number_at-in-loop-row.result c.word_at.result c.number_at.ensures c.number_at-in-loop-row.ensures c.word_at.ensures.0
    c.word_at.ensures.1 _ c.put_context.ensures

pub returns : goal.returns
returns c = let all =
    lay-end c.args.numbers.now c.args.relations.now c.args.records.now c.min-rows.result c.args.bindings.now c.loop-row.bindings
    c.loop-row.row c.loop-row.p c.loop-row.invariant c.loop-row-test.false in
    rw c.min-rows.ensures at all
