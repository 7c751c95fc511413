use Prim.Native.Nat.{◌-◌, ◌/◌}
use mathlib.Core.Path.{◌≡◌, sym, ap, ◌∙◌}
use native.Mathlib.Omega.{arith}
use lib.ListN.{length}
use Rattle.wire.specs.Options.{option_of}
use Rattle.surroundings.proofs.BindingLoops.{coded-here, coded-next, coded-end}
use Rattle.surroundings.proofs.bindings.row_coded.Goals as goal

pub loop-row-init : goal.loop-row-init
loop-row-init c = let k : length c.args.bindings.now / 10 - 0 ≡ length c.args.bindings.now / 10 = omega arith in
    rw k

pub returns-then-number_at-at : goal.returns-then-number_at-at
returns-then-number_at-at c = let rows = length c.args.bindings.now / 10 in
    coded-here c.args.bindings.now c.args.at rows c.loop-row.row c.loop-row-test.true c.number_at.result c.number_at.ensures c.if-number_at-at.true
    ∙ sym (ap option_of c.loop-row.invariant)

pub loop-row-preserved : goal.loop-row-preserved
loop-row-preserved c = let rows = length c.args.bindings.now / 10 in
    let next =
    coded-next c.args.bindings.now c.args.at rows c.loop-row.row c.loop-row-test.true c.number_at.result c.number_at.ensures c.if-number_at-at.false in
    c.loop-row.invariant ∙ next

pub returns : goal.returns
returns c = let rows = length c.args.bindings.now / 10 in
    coded-end c.args.bindings.now c.args.at rows c.loop-row.row c.loop-row-test.false ∙ sym (ap option_of c.loop-row.invariant)
