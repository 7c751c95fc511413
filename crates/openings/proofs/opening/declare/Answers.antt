use mathlib.Core.Path.{◌∙◌}
use Rattle.openings.proofs.opening.declare.Goals as goal

pub returns : goal.returns
returns c = record { scope_is = c.add_context.ensures; filled = c.put_context.ensures ∙ rw c.relation_id.ensures }
