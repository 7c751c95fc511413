use Prim.Native.Nat.{◌+◌, ◌/◌, ◌<◌}
use Rattle.store.proofs.Written.{bit-fits}
use Rattle.wire.specs.Words.{byte_at}
use mathlib.Core.Path.{sym, ◌∙◌}
use native.Mathlib.Omega.{arith}
use Rattle.store.proofs.changes.set_bit.Goals as goal

pub overflow_add-b-then-not-missing_bit-2 : goal.overflow_add-b-then-not-missing_bit-2
overflow_add-b-then-not-missing_bit-2 c = let at = c.args.p + (6 + c.args.i / 8) in
    let byte : byte_at c.args.b.now at < 256 = omega (arith, c.slice_known-1.given at) in
    omega (arith, bit-fits c.args.b.now c.args.p c.args.i (sym c.missing_bit.ensures ∙ c.if-not-missing_bit.true) byte, c.power.ensures)
