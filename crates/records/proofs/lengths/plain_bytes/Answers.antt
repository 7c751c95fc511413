use Rattle.records.proofs.lengths.plain_bytes.Goals as goal

pub returns-in-Chars : goal.returns-in-Chars
returns-in-Chars c = rw c.in-Chars.is c.text_bytes.ensures
