use native.Mathlib.Omega.{arith}
use Rattle.wire.proofs.Past.{past}
use Rattle.wire.proofs.bytes.byte_at.Goals as goal

pub returns-else-at-s : goal.returns-else-at-s
returns-else-at-s c = past c.args.s.now c.args.at (omega arith)
