use mathlib.Core.Path.{◌∙◌}
use borrow.Author.Tests.{eq-eqb}
use Rattle.store.proofs.Spare.{no-spare, spare-byte}
use Rattle.store.proofs.layout.is_spare_clear.Goals as goal

pub returns-then-n-eq0 : goal.returns-then-n-eq0
returns-then-n-eq0 c = eq-eqb _ 0 c.if-n-eq0.true ∙ no-spare c.args.s.now c.args.p c.args.n c.if-n-eq0.true

pub returns-else-n-eq0 : goal.returns-else-n-eq0
returns-else-n-eq0 c = spare-byte c.args.s.now c.args.p c.args.n c.byte_on.result c.if-n-eq0.false c.byte_on.ensures c.byte_on.type_inv
