use Prim.Native.Nat.{◌+◌, ◌-◌}
use mathlib.Core.Path.{◌≡◌, subst}
use native.Mathlib.Omega.{arith}
use lib.ListN.{length}
use Rattle.runs.proofs.PassLaws.{Passing, passing-start, passing-done, passing-ended, passing-next}
use Rattle.runs.proofs.pass.pass_over.Goals as goal

pub loop-init : goal.loop-init
loop-init c = passing-start c.args.request.now c.args.at c.args.count c.requires.0 c.requires.1 c.requires.2

pub over_code-pass-requires : goal.over_code-pass-requires
over_code-pass-requires c = let m = c.loop.invariant.due-few in
    let e = c.if-pass-eq0.false in
    (c.loop.invariant.short, omega (arith, e), omega (arith, m), c.loop.invariant.near)

pub loop-preserved : goal.loop-preserved
loop-preserved c = let n = length c.args.request.now in
    let left : n - c.loop.counter - 1 ≡ n - (c.loop.counter + 1) = omega arith in
    subst (Passing c.args.request.now c.args.at c.args.count c.over_code-pass.result) left
    (passing-next c.args.request.now c.args.at c.args.count c.loop.pass _ c.loop.invariant c.over_code-pass.result (omega arith)
    c.if-pass-eq0.false c.over_code-pass.ensures)

pub returns-after-loop : goal.returns-after-loop
returns-after-loop c = passing-ended c.args.request.now c.args.at c.args.count c.loop.pass _ c.loop.invariant (omega arith)

pub returns-then-pass-eq0 : goal.returns-then-pass-eq0
returns-then-pass-eq0 c = passing-done c.args.request.now c.args.at c.args.count c.loop.pass _ c.loop.invariant c.if-pass-eq0.true
