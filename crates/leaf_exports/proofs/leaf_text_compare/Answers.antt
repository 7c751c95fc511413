use mathlib.Core.Path.{ap, ◌∙◌}
use mir.Syntax.{w64}
use mir.Facts.{to_z-of_z}
use Rattle.leaf_exports.specs.Exports.{sign_of}
use Rattle.leaf_exports.proofs.leaf_text_compare.Goals as goal

pub returns : goal.returns
returns c = to_z-of_z {w = w64} (record { sfits = c.sign_of.type_inv }) ∙ c.sign_of.ensures ∙ ap sign_of c.compare.ensures
