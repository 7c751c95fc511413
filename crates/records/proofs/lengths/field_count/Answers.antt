use mathlib.Core.Path.{ap, ◌∙◌}
use lib.ListN.{length}
use Rattle.dictionary.specs.Internal.Walk.{fields_from}
use Rattle.records.proofs.Offsets.{count_of}
use Rattle.records.proofs.lengths.field_count.Goals as goal

pub returns : goal.returns
returns c = let d = c.args.d.now in
    c.count_from.ensures ∙ ap (λ q. length (fields_from d q)) c.next_place.ensures ∙ count_of d c.args.relation
