-- `inputs::singles::reading` meets its contract. Assumes nothing.
use mathlib.Core.Path.{◌∙◌}
use mir.Syntax.{w64}
use mir.Facts.{to_z-of_z}
use Rattle.inputs.proofs.SingleLaws.{reading-held}
use Rattle.inputs.proofs.singles.reading.Goals as goal

pub returns : goal.returns
returns c n = reading-held c.single_of.result c.args.after c.args.s.now c.args.at _ n c.args.scale c.word_at-word.result c.single_of.ensures
    (to_z-of_z {w = w64} (record { sfits = c.from.type_inv }) ∙ c.from.ensures) c.word_at-word.ensures.0 c.if-word-eq-MISSING_READING.false
