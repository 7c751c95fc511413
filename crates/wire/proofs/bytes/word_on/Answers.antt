use native.Mathlib.Omega.{arith}
use Prim.Native.Nat.{◌+◌}
use Rattle.wire.proofs.Past.{word-past}
use Rattle.wire.proofs.bytes.word_on.Goals as goal

pub returns-then-s-at : goal.returns-then-s-at
returns-then-s-at c = (word-past c.args.s.now (c.args.at + c.args.n) (omega arith), omega arith)

pub returns-then-s-at-2 : goal.returns-then-s-at-2
returns-then-s-at-2 c = (word-past c.args.s.now (c.args.at + c.args.n) (omega arith), omega arith)
