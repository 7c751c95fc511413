use Rattle.kinds.proofs.Returns.{around_some}
use Rattle.kinds.proofs.leaves.relation_around.Goals as goal

pub returns : goal.returns
returns c = rw (around_some c.args.bindings.now c.args.number.0 c.args.at _ c.row_around.ensures c.in_ok-row.was, c.number_at.ensures)
