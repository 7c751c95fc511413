use Prim.Native.Nat.{◌-◌, ◌/◌}
use mathlib.Core.Path.{◌≡◌, sym, ap, ◌∙◌}
use native.Mathlib.Omega.{arith}
use lib.ListN.{length}
use Rattle.wire.specs.Options.{option_of}
use Rattle.kinds.proofs.Returns.{around_here, around-next, around-end}
use Rattle.kinds.proofs.around.row_around.Goals as goal

pub loop-row-init : goal.loop-row-init
loop-row-init c = let k : length c.args.bindings.now / 10 - 0 ≡ length c.args.bindings.now / 10 = omega arith in
    rw k

pub returns-then-holds_at : goal.returns-then-holds_at
returns-then-holds_at c = let rows = length c.args.bindings.now / 10 in
    around_here c.args.bindings.now c.args.number.0 c.args.at rows c.loop-row.row c.loop-row-test.true (sym c.holds_at.ensures ∙ c.if-holds_at.true)
    ∙ sym (ap option_of c.loop-row.invariant)

pub loop-row-preserved : goal.loop-row-preserved
loop-row-preserved c = let rows = length c.args.bindings.now / 10 in
    let next =
    around-next c.args.bindings.now c.args.number.0 c.args.at rows c.loop-row.row c.loop-row-test.true (sym c.holds_at.ensures ∙ c.if-holds_at.false) in
    c.loop-row.invariant ∙ next

pub returns : goal.returns
returns c = let rows = length c.args.bindings.now / 10 in
    around-end c.args.bindings.now c.args.number.0 c.args.at rows c.loop-row.row c.loop-row-test.false ∙ sym (ap option_of c.loop-row.invariant)
