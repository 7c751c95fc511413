use mathlib.Core.Path.{ap, ◌∙◌}
use mir.Syntax.{w64}
use mir.Facts.{to_z-of_z}
use Rattle.leaf_exports.specs.Exports.{sign_of}
use Rattle.leaf_exports.proofs.leaf_compare.Goals as goal

pub returns : goal.returns
returns c = to_z-of_z {w = w64} (record { sfits = c.sign_of.type_inv }) ∙ c.sign_of.ensures ∙ ap sign_of (rw (to_z-of_z c.ranges.a, to_z-of_z c.ranges.a_scale, to_z-of_z c.ranges.b, to_z-of_z c.ranges.b_scale) at c.compare.ensures)
