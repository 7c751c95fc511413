use mathlib.Core.Path.{refl, ◌∙◌}
use Rattle.tables.proofs.Closed.{closed_next, closed_all}
use Rattle.tables.proofs.contexts.close.Goals as goal

pub loop-i-init : goal.loop-i-init
loop-i-init c = (c.if-opened-le-MAX_CONTEXTS.true, refl)

pub loop-i-preserved : goal.loop-i-preserved
loop-i-preserved c = (c.loop-i.invariant.0, closed_next _ _ _ _ _ _ c.loop-i-test.true (rw (c.put-in-loop-i.ensures, c.put.ensures)) ∙ c.loop-i.invariant.1)

pub returns-after-loop-i : goal.returns-after-loop-i
returns-after-loop-i c = rw c.in-Ok.is (closed_all _ _ _ _ _ _ _ c.loop-i.invariant.0 c.loop-i-test.false c.loop-i.invariant.1)
