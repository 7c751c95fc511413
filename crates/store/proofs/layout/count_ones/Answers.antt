use Rattle.store.proofs.Layouts.{no_ones, ones-next}
use Rattle.store.specs.Internal.Layouts.{ones_at}
use Prim.Native.Nat.{◌+◌, ◌-◌, ◌<◌}
use mathlib.Core.Path.{◌≡◌, ap, ◌∙◌}
use native.Mathlib.Omega.{arith}
use lib.Count.{ones}
use lib.ListN.{drop, length-drop}
use lib.Seq.{length-take-le, get_or-drop}
use Rattle.std.proofs.Common.{get_or-take}
use Rattle.store.proofs.layout.count_ones.Goals as goal

pub loop-x-init : goal.loop-x-init
loop-x-init c = (no_ones c.args.s.now c.args.p, omega arith)

pub overflow_add-sum : goal.overflow_add-sum
overflow_add-sum c =
    let long = length-take-le (c.args.p + c.args.n - c.args.p) (drop c.args.p c.args.s.now) (omega (arith, length-drop c.args.p c.args.s.now, c.requires.0)) in
    omega (arith, c.loop-x-test.true, long, c.loop-x.invariant.1, c.byte_ones-sum.ensures.1, c.requires.0, c.requires.1)

pub loop-x-preserved : goal.loop-x-preserved
loop-x-preserved c =
    let long = length-take-le (c.args.p + c.args.n - c.args.p) (drop c.args.p c.args.s.now) (omega (arith, length-drop c.args.p c.args.s.now, c.requires.0)) in
    let inside : c.loop-x.x-index < c.args.n = omega (arith, c.loop-x-test.true, long) in (
      ones-next c.args.s.now c.args.p c.loop-x.x-index c.loop-x.sum c.byte_ones-sum.result (omega (arith, inside, c.requires.0)) c.loop-x.invariant.0
          (c.byte_ones-sum.ensures.0 ∙ ap ones (get_or-take _ (drop c.args.p c.args.s.now) c.loop-x.x-index 0 (omega (arith, inside)) ∙ get_or-drop c.args.p c.args.s.now c.loop-x.x-index 0)),
      omega (arith, c.loop-x.invariant.1, c.byte_ones-sum.ensures.1),
    )

pub returns : goal.returns
returns c =
    let long = length-take-le (c.args.p + c.args.n - c.args.p) (drop c.args.p c.args.s.now) (omega (arith, length-drop c.args.p c.args.s.now, c.requires.0)) in
    let e : c.loop-x.x-index ≡ c.args.n = omega (arith, c.loop-x-test.false, c.loop-x.auto.x-index-end, long) in
    (c.loop-x.invariant.0 ∙ ap (ones_at c.args.s.now c.args.p) e, omega (arith, c.loop-x.invariant.1, e))
