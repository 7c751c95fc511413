use Prim.Native.Nat.{◌+◌}
use mathlib.Core.Path.{◌≡◌}
use native.Mathlib.Omega.{arith}
use Rattle.wire.proofs.bytes.int64_at.Goals as goal

pub returns : goal.returns
returns c = let z : c.args.at + 4 + 2 ≡ c.args.at + 6 = omega arith in
    rw (c.word_at.ensures.0, c.word_on.ensures.0, c.word_on-2.ensures.0, c.word_on-3.ensures.0, z)
