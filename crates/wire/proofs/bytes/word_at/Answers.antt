use native.Mathlib.Omega.{arith}
use native.Mathlib.Nat.{add-zero}
use Rattle.wire.proofs.bytes.word_at.Goals as goal

pub returns : goal.returns
returns c = (rw (c.wide.ensures.0, c.byte_on.ensures, c.wide-2.ensures.0, c.byte_on-2.ensures, add-zero), omega arith)
