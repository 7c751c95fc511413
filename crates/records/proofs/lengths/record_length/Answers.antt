use Rattle.records.proofs.Offsets.{length-is}
use mathlib.Core.Path.{ap, ◌∙◌}
use Rattle.records.specs.Internal.Answers.{within}
use Rattle.records.proofs.lengths.record_length.Goals as goal

pub returns : goal.returns
returns c = c.offset_within.ensures ∙ ap (within 4096) (length-is c.args.d.now c.args.relation)
