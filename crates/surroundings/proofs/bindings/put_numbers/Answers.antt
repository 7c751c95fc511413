use Rattle.surroundings.proofs.BindingLoops.{stored-start, stored-next, stored-end}
use Rattle.surroundings.proofs.bindings.put_numbers.Goals as goal

pub loop-k-init : goal.loop-k-init
loop-k-init c = stored-start c.args.bindings.now c.args.numbers.now c.args.at

pub loop-k-preserved : goal.loop-k-preserved
loop-k-preserved c = rw c.put.ensures (stored-next c.args.bindings.now c.loop-k.bindings c.args.numbers.now c.args.at c.loop-k.k c.loop-k.invariant c.loop-k-test.true)

pub returns : goal.returns
returns c = stored-end c.args.bindings.now c.loop-k.bindings c.args.numbers.now c.args.at c.loop-k.k c.loop-k.invariant c.loop-k-test.false
