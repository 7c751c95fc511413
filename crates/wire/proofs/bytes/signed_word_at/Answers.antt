use native.Mathlib.Omega.{arith}
use Rattle.wire.specs.Words.{twos, signed}
use mir.Facts.{to_z-of_z}
use mir.Syntax.{w64}
use mathlib.Core.Path.{ap, ◌∙◌}
use Rattle.wire.proofs.bytes.signed_word_at.Goals as goal

pub signed_of-requires : goal.signed_of-requires
signed_of-requires c = (c.word_at.ensures.1, omega arith)

pub returns : goal.returns
unfolding signed
returns c = to_z-of_z {w = w64} (record { sfits = c.signed_of.type_inv }) ∙ c.signed_of.ensures ∙ ap (twos 32768) c.word_at.ensures.0
