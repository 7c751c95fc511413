-- `inputs::singles::held` meets its contract, at a number. Assumes nothing.
use mir.Syntax.{w64}
use mathlib.Core.Path.{ap, ◌∙◌}
use mir.Facts.{to_z-of_z}
use Rattle.wire.specs.declared.codes.FieldType.TheVariants.{Plain}
use Rattle.inputs.proofs.SingleLaws.{number-held}
use Rattle.inputs.proofs.singles.held.Goals as goal

pub returns-in-Plain-Number : goal.returns-in-Plain-Number
returns-in-Plain-Number c n =
    let number = rw c.in-Plain-Number.is at c.in-Plain-Number.field-0-is in
    number-held c.single_of.result c.args.after c.args.s.now c.args.at c.in-Plain-Number.w _
    (record { type = c.args.t; scale = c.args.scale; size = n }) c.single_of.ensures
    (to_z-of_z {w = w64} (record { sfits = c.integer_at.type_inv }) ∙ c.integer_at.ensures)
    (c.in-Plain-Number.is ∙ ap Plain number)
