use Rattle.explanation.proofs.RowLaws.{kept-first, kept_second, kept-both}
use Rattle.explanation.proofs.rows.keep_needed.Goals as goal

pub returns-then-first : goal.returns-then-first
returns-then-first c = kept-first c.if-first.true

pub returns-then-second : goal.returns-then-second
returns-then-second c = kept_second c.if-first.false c.if-second.true c.move_down.ensures

pub returns : goal.returns
returns c = kept-both c.if-first.false c.if-second.false
