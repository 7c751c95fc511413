use Rattle.records.proofs.lengths.field_offset.Goals as goal

pub returns : goal.returns
returns c = c.offset_within.ensures
