use native.Mathlib.Omega.{arith}
use mathlib.Core.Path.{refl}
use Prim.Native.Nat.{◌+◌}
use Rattle.dictionary.proofs.entries.word_within.Goals as goal

pub overflow_cast-result : goal.overflow_cast-result
overflow_cast-result c = omega (arith, c.type_inv.d c.args.at)

pub overflow_cast-result-2 : goal.overflow_cast-result-2
overflow_cast-result-2 c = omega (arith, c.type_inv.d (c.args.at + 1))

pub overflow_mul-result : goal.overflow_mul-result
overflow_mul-result c = omega (arith, c.type_inv.d (c.args.at + 1))

pub overflow_add-result-2 : goal.overflow_add-result-2
overflow_add-result-2 c =
    let low = c.type_inv.d c.args.at in
    let high = c.type_inv.d (c.args.at + 1) in
    omega (arith, low, high)

pub returns : goal.returns
returns c =
    let low = c.type_inv.d c.args.at in
    let high = c.type_inv.d (c.args.at + 1) in
    (refl, omega (arith, low, high))
