-- `wire::table::put` meets its contract. By the test of the place. Assumes nothing.
use mathlib.Core.Path.{sym}
use lib.Seq.{set_out}
use Rattle.wire.proofs.table.put.Goals as goal

pub returns-else-at-table : goal.returns-else-at-table
returns-else-at-table c = sym (set_out c.args.table.now c.args.at c.args.x c.if-at-table.false)
