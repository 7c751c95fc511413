-- `wire::bytes::signed_byte` meets its contract. A byte in two's complement is from -128 to 127. Assumes nothing.
use mathlib.Core.Path.{ap, ◌∙◌}
use mir.Facts.{to_z-of_z}
use mir.Syntax.{w64}
use Rattle.wire.specs.Words.{twos, signed}
use Rattle.wire.proofs.SignedByte.{byte-in}
use Rattle.wire.proofs.bytes.signed_byte.Goals as goal

pub overflow_cast-result : goal.overflow_cast-result
overflow_cast-result c = record { sfits = rw (to_z-of_z {w = w64} (record { sfits = c.signed_of.type_inv }), c.signed_of.ensures) (byte-in c.wide.result c.wide.ensures.1) }

pub returns : goal.returns
unfolding signed
returns c =
    to_z-of_z (overflow_cast-result c) ∙ to_z-of_z {w = w64} (record { sfits = c.signed_of.type_inv }) ∙ c.signed_of.ensures ∙ ap (twos 128) c.wide.ensures.0
