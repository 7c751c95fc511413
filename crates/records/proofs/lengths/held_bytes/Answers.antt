use mathlib.Core.Path.{ap₂, ◌∙◌}
use Rattle.dictionary.specs.Format.{type_bytes, held}
use Rattle.dictionary.specs.Internal.Walk.{entry_field}
use Rattle.records.proofs.lengths.held_bytes.Goals as goal

pub returns : goal.returns
unfolding held entry_field
returns c = c.type_bytes.ensures ∙ ap₂ type_bytes c.type_at.ensures c.word_on.ensures.0
