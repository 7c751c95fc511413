use Rattle.kinds.proofs.Returns.{coded_some}
use Rattle.kinds.proofs.walk.count_kind.Goals as goal

pub returns-in-Some : goal.returns-in-Some
returns-in-Some c = rw (coded_some c.args.bindings.now c.args.at _ c.row_coded.ensures c.in-Some.is, c.place_in.ensures)
