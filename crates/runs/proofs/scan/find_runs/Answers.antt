use Prim.Native.Nat.{◌+◌, ◌-◌}
use mathlib.Core.Path.{◌≡◌, subst}
use native.Mathlib.Omega.{arith}
use lib.ListN.{length}
use Rattle.runs.proofs.StepLaws.{Scanning, scan-long, scan-start, scan-done, scan-ended, scan-next}
use Rattle.runs.proofs.scan.find_runs.Goals as goal

pub returns-then-request-gt-MAX_REQUEST_BYTES : goal.returns-then-request-gt-MAX_REQUEST_BYTES
returns-then-request-gt-MAX_REQUEST_BYTES c = scan-long c.args.dictionary.now c.args.request.now c.args.at c.args.from c.args.bindings.now c.if-request-gt-MAX_REQUEST_BYTES.true

pub loop-init : goal.loop-init
loop-init c = scan-start c.args.dictionary.now c.args.request.now c.args.at c.args.from c.args.bindings.now c.if-request-gt-MAX_REQUEST_BYTES.false

pub step-scan-requires : goal.step-scan-requires
step-scan-requires c = let m = c.loop.invariant.due-few in
    let e = c.if-scan-eq0.false in
    (c.loop.invariant.short, omega (arith, e), omega (arith, m))

pub loop-preserved : goal.loop-preserved
loop-preserved c = let n = length c.args.request.now in
    let left : n - c.loop.counter - 1 ≡ n - (c.loop.counter + 1) = omega arith in
    subst (Scanning c.args.dictionary.now c.args.request.now c.args.at c.args.from c.args.bindings.now c.step-scan.new.bindings c.step-scan.result) left
    (scan-next c.args.dictionary.now c.args.request.now c.args.at c.args.from c.args.bindings.now c.loop.bindings c.loop.scan _ c.loop.invariant
    c.step-scan.result c.step-scan.new.bindings (omega arith) c.if-scan-eq0.false c.step-scan.ensures)

pub returns-after-loop : goal.returns-after-loop
returns-after-loop c = scan-ended c.args.dictionary.now c.args.request.now c.args.at c.args.from c.args.bindings.now c.loop.bindings c.loop.scan _ c.loop.invariant (omega arith)

pub returns-then-scan-eq0 : goal.returns-then-scan-eq0
returns-then-scan-eq0 c = scan-done c.args.dictionary.now c.args.request.now c.args.at c.args.from c.args.bindings.now c.loop.bindings c.loop.scan _ c.loop.invariant c.if-scan-eq0.true
