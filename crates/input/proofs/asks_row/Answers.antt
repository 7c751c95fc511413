-- `input::asks_row` meets its contract. By the word of its kind. Assumes nothing.
use Rattle.input.specs.Evaluation.{asks_row}
use Rattle.input.proofs.asks_row.Goals as goal

pub returns : goal.returns
unfolding asks_row
returns c = rw (asks_row, ← c.word_on.ensures.0)
