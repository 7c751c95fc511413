-- `padded` meets its contract. Assumes nothing.
use mathlib.Core.Path.{sym}
use lib.ListN.{get_or-eq_default}
use Rattle.text.proofs.OrderLaws.{default-unused}
use Rattle.text.specs.Value.{blank}
use Rattle.text.proofs.order.padded.Goals as goal

pub returns-then-i-s : goal.returns-then-i-s
returns-then-i-s c = default-unused c.args.s.now c.args.i 0 blank c.if-i-s.true

pub returns-else-i-s : goal.returns-else-i-s
returns-else-i-s c = sym (get_or-eq_default c.args.s.now blank c.if-i-s.false)
