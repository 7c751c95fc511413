use native.Mathlib.Omega.{arith}
use Rattle.wire.proofs.bytes.long_at.Goals as goal

pub overflow_add-result : goal.overflow_add-result
overflow_add-result c = omega arith

pub returns : goal.returns
returns c = rw (c.word_at.ensures.0, c.word_on.ensures.0)
