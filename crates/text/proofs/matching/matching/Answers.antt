-- `matching` meets its contract, by what each answer tells. Assumes nothing.
use mathlib.Core.Path.{sym}
use Rattle.text.proofs.matching.matching.Goals as goal

pub returns-in-Yes : goal.returns-in-Yes
returns-in-Yes c = sym (rw c.in-Yes.is at c.answer_of.ensures)

pub returns-in-No : goal.returns-in-No
returns-in-No c = sym (rw c.in-No.is at c.answer_of.ensures)

pub returns-in-Never : goal.returns-in-Never
returns-in-Never c = sym ((rw c.in-Never.is at c.answer_of.ensures) 0)
