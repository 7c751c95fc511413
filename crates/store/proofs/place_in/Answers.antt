-- `store::place_in` meets its contract. By its test. Assumes nothing.
use Prim.Native.Nat.{◌<◌}
use Rattle.store.proofs.Called.{place_none, place-some}
use Rattle.store.proofs.Written.{place-before}
use mathlib.Core.Path.{◌∙◌}
use native.Mathlib.Omega.{arith}
use Rattle.store.proofs.place_in.Goals as goal

pub returns-then-s-k : goal.returns-then-s-k
returns-then-s-k c = c.refused.ensures ∙ place_none c.args.s c.args.k c.if-s-k.true

pub overflow_mul-result : goal.overflow_mul-result
overflow_mul-result c = let there : c.args.k < c.args.s.count = omega (arith, c.if-s-k.false) in
    omega (arith, place-before c.args.s c.args.k there, c.requires)

pub overflow_add-result : goal.overflow_add-result
overflow_add-result c = let there : c.args.k < c.args.s.count = omega (arith, c.if-s-k.false) in
    omega (arith, place-before c.args.s c.args.k there, c.requires)

pub returns : goal.returns
returns c = place-some c.args.s c.args.k (omega (arith, c.if-s-k.false))
