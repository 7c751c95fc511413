use Prim.Native.Nat.{◌-◌, ◌/◌}
use mathlib.Core.Path.{◌≡◌, sym, ap, ◌∙◌}
use native.Mathlib.Omega.{arith}
use lib.ListN.{length}
use Rattle.wire.specs.Options.{option_of}
use Rattle.surroundings.proofs.BindingLoops.{binding-here, binding-next, binding-end}
use Rattle.surroundings.proofs.bindings.binding_of.Goals as goal

pub loop-row-init : goal.loop-row-init
loop-row-init c = let k : length c.args.bindings.now / 10 - 0 ≡ length c.args.bindings.now / 10 = omega arith in
    rw k

pub returns-then-binds_at : goal.returns-then-binds_at
returns-then-binds_at c = let rows = length c.args.bindings.now / 10 in
    binding-here c.args.bindings.now c.args.number.0 rows c.loop-row.row c.loop-row-test.true (sym c.binds_at.ensures ∙ c.if-binds_at.true)
    ∙ sym (ap option_of c.loop-row.invariant)

pub loop-row-preserved : goal.loop-row-preserved
loop-row-preserved c = let rows = length c.args.bindings.now / 10 in
    let next =
    binding-next c.args.bindings.now c.args.number.0 rows c.loop-row.row c.loop-row-test.true (sym c.binds_at.ensures ∙ c.if-binds_at.false) in
    c.loop-row.invariant ∙ next

pub returns : goal.returns
returns c = let rows = length c.args.bindings.now / 10 in
    binding-end c.args.bindings.now c.args.number.0 rows c.loop-row.row c.loop-row-test.false ∙ sym (ap option_of c.loop-row.invariant)
