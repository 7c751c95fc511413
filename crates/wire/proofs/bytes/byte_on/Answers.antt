use Prim.Native.Nat.{◌+◌}
use native.Mathlib.Omega.{arith}
use Rattle.wire.proofs.Past.{past}
use Rattle.wire.proofs.bytes.byte_on.Goals as goal

pub returns-else-n-s : goal.returns-else-n-s
returns-else-n-s c = past c.args.s.now (c.args.at + c.args.n) (omega arith)

pub returns-else-at-s : goal.returns-else-at-s
returns-else-at-s c = past c.args.s.now (c.args.at + c.args.n) (omega arith)
