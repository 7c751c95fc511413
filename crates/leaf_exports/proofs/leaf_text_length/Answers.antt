use mathlib.Core.Path.{ap, ◌∙◌}
use lib.ListN.{length}
use Rattle.text.specs.Value.{text_part, bytes_of}
use Rattle.leaf_exports.proofs.leaf_text_length.Goals as goal

pub returns : goal.returns
returns c = ap length c.text_of.ensures.bytes ∙ ap (λ x. length (bytes_of c.args.s.now (text_part x c.args.s.now))) c.text_type_of.ensures
