-- `sign_matches` meets its contract. Assumes nothing.
use borrow.Author.Tests.{eq-eqb, ne_eqb}
use Rattle.text.proofs.matching.sign_matches.Goals as goal

pub returns-then-c-eq-ONE_BYTE : goal.returns-then-c-eq-ONE_BYTE
returns-then-c-eq-ONE_BYTE c = rw (eq-eqb _ _ c.if-c-eq-ONE_BYTE.true)

pub returns : goal.returns
returns c = rw (ne_eqb _ _ c.if-c-eq-ONE_BYTE.false) c.same_letter.ensures
