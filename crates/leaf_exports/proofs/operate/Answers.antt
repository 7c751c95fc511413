-- `leaf_exports::operate` meets its contract. By the number of the operation. Assumes nothing.
use mathlib.Core.Path.{ap₂, ◌∙◌}
use borrow.Author.Tests.{lt-ltb, le-ltb, eq-eqb, ne_eqb}
use mir.Facts.{to_z-of_z}
use Rattle.wire.specs.declared.codes.Version.{Version}
use Rattle.wire.specs.declared.codes.Operator.{Operator}
use Rattle.decimal.specs.Number.{computed}
use Rattle.leaf_exports.specs.Exports.{operation}
use Rattle.leaf_exports.proofs.operate.Goals as goal

pub returns-then-o-eq-NEGATE : goal.returns-then-o-eq-NEGATE
unfolding operation
returns-then-o-eq-NEGATE c = rw (eq-eqb c.args.o 4 c.if-o-eq-NEGATE.true) (rw (to_z-of_z c.ranges.a, to_z-of_z c.ranges.a_scale) at c.negate.ensures)

pub returns-then-o-eq-RESCALE : goal.returns-then-o-eq-RESCALE
unfolding operation
returns-then-o-eq-RESCALE c = rw (ne_eqb c.args.o 4 c.if-o-eq-NEGATE.false, eq-eqb c.args.o 5 c.if-o-eq-RESCALE.true)
    (rw (to_z-of_z c.ranges.a, to_z-of_z c.ranges.a_scale, to_z-of_z c.ranges.b_scale) at c.rescale.ensures)

pub returns-then-o-gt-DIVIDE5 : goal.returns-then-o-gt-DIVIDE5
unfolding operation
returns-then-o-gt-DIVIDE5 c = rw (ne_eqb c.args.o 4 c.if-o-eq-NEGATE.false, ne_eqb c.args.o 5 c.if-o-eq-RESCALE.false, lt-ltb 6 c.args.o c.if-o-gt-DIVIDE5.true)
    (rw (to_z-of_z c.ranges.a, to_z-of_z c.ranges.a_scale, to_z-of_z c.ranges.b_scale) at c.rescale-then-o-gt-DIVIDE5.ensures)

pub returns : goal.returns
unfolding operation
returns c = let parts = rw (to_z-of_z c.ranges.a, to_z-of_z c.ranges.a_scale, to_z-of_z c.ranges.b, to_z-of_z c.ranges.b_scale) at c.compute.ensures in
    rw (ne_eqb c.args.o 4 c.if-o-eq-NEGATE.false, ne_eqb c.args.o 5 c.if-o-eq-RESCALE.false, le-ltb 6 c.args.o c.if-o-gt-DIVIDE5.false)
    (parts
    ∙ ap₂ (λ (v : Version) (o : Operator). computed v o (record { value = c.args.a; scale = c.args.a_scale }) (record { value = c.args.b; scale = c.args.b_scale }))
    c.version_of.ensures c.operator_of.ensures)
