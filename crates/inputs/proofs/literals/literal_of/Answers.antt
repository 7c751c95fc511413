-- `inputs::literals::literal_of` meets its contract. Assumes nothing.
use Prim.Native.Nat.{◌+◌}
use mathlib.Core.Path.{refl}
use native.Mathlib.Omega.{arith}
use Rattle.wire.specs.declared.codes.TextType.TheVariants.{Text}
use Rattle.meaning.specs.declared.Source.TheVariants.{Request}
use Rattle.inputs.proofs.TextLaws.{text-literal}
use Rattle.inputs.proofs.LiteralLaws.{width_small, number-literal, text-walked}
use Rattle.inputs.proofs.literals.literal_of.Goals as goal

pub returns-in-NumberLiteral : goal.returns-in-NumberLiteral
returns-in-NumberLiteral c m e = rw c.in-NumberLiteral.is
    (number-literal c.args.request.now c.args.at c.in-NumberLiteral.w c.byte_at-scale.result c.width_bytes.result c.number_at-x.result
    c.byte_at-scale.ensures c.number_at-x.ensures c.width_bytes.ensures)

pub returns-in-TextLiteral : goal.returns-in-TextLiteral
returns-in-TextLiteral c m e = rw c.in-TextLiteral.is
    (text-walked c.args.request.now c.args.at c.word_at-n.result _ c.word_at-n.ensures.0
    (text-literal Request Text c.word_at-n.result c.args.request.now (c.args.at + 3) c.held_at-x.result c.held_at-x.ensures m e refl))
