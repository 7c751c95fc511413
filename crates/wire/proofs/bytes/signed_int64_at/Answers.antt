use mir.Facts.{to_z-of_z}
use mir.Syntax.{w64}
use mathlib.Core.Path.{ap, ◌∙◌}
use Rattle.wire.specs.Words.{twos, signed}
use Rattle.wire.proofs.bytes.signed_int64_at.Goals as goal

pub returns : goal.returns
unfolding signed
returns c = to_z-of_z {w = w64} (record { sfits = c.signed_of.type_inv }) ∙ c.signed_of.ensures ∙ ap (twos 9223372036854775808) c.int64_at.ensures
