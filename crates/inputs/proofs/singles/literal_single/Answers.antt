-- `inputs::singles::literal_single` meets its contract, at a number. Assumes nothing.
use mir.Syntax.{w64}
use mathlib.Core.Path.{sym, ap, ◌∙◌}
use mir.Facts.{to_z-of_z}
use Rattle.std.specs.Prelude.{Ok}
use Rattle.wire.specs.Classes.{literal_class}
use Rattle.wire.specs.declared.codes.LiteralType.TheVariants.{NumberLiteral}
use Rattle.inputs.proofs.LiteralLaws.{class-due}
use Rattle.inputs.proofs.SingleLaws.{literal-single}
use Rattle.inputs.proofs.singles.literal_single.Goals as goal

pub returns-in-Ok-NumberLiteral : goal.returns-in-Ok-NumberLiteral
returns-in-Ok-NumberLiteral c =
    literal-single c.args.request.now c.args.at c.in-Ok-NumberLiteral.w c.single_of.result _ _ _ c.byte_at.result c.single_of.ensures
    (to_z-of_z {w = w64} (record { sfits = c.integer_at-value.type_inv }) ∙ c.integer_at-value.ensures) c.byte_at-scale.ensures c.width_bytes.ensures
    (class-due (literal_class c.byte_at.result) (NumberLiteral c.in-Ok-NumberLiteral.w)
    (sym (c.in-Ok-NumberLiteral.is ∙ ap Ok c.in-Ok-NumberLiteral.field-0-is) ∙ c.of.ensures))
    c.byte_at.ensures
