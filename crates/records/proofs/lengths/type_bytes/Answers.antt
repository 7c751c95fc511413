use Rattle.records.proofs.lengths.type_bytes.Goals as goal

pub returns-in-Plain : goal.returns-in-Plain
returns-in-Plain c = rw c.in-Plain.is c.plain_bytes.ensures
