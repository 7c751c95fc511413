use mathlib.Core.Path.{sym, ◌∙◌}
use Rattle.text.proofs.OrderLaws.{order-start, order-told, order_same, order-end}
use Rattle.text.proofs.order.compare.Goals as goal

pub loop-i-init : goal.loop-i-init
loop-i-init c = order-start c.args.a.now c.args.b.now c.max-i-end.result c.max-i-end.ensures

pub returns-then-ne : goal.returns-then-ne
returns-then-ne c = order-told c.args.a.now c.args.b.now c.max-i-end.result c.loop-i.i c.loop-i-test.true
    c.padded.ensures c.padded-in-loop-i.ensures c.cmp-order.ensures (sym c.if-ne.true ∙ c.ne.ensures)
    ∙ sym c.loop-i.invariant

pub loop-i-preserved : goal.loop-i-preserved
loop-i-preserved c = c.loop-i.invariant ∙ order_same c.args.a.now c.args.b.now c.max-i-end.result c.loop-i.i c.loop-i-test.true
    c.padded.ensures c.padded-in-loop-i.ensures c.cmp-order.ensures (sym c.if-ne.false ∙ c.ne.ensures)

pub returns : goal.returns
returns c = sym (c.loop-i.invariant ∙ order-end c.args.a.now c.args.b.now c.max-i-end.result c.loop-i.i c.loop-i-test.false)
