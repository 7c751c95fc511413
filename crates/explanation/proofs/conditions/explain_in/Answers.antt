-- By what the walk came out as, in a table of rows that are enough. Assumes nothing.
use mathlib.Core.Path.{sym, ap, ◌∙◌}
use Rattle.explanation.specs.Internal.Noting.{settled_in}
use Rattle.explanation.proofs.Questions.{same_outcome, enough-walk, there-listed, there-refused}
use Rattle.explanation.proofs.conditions.explain_in.Goals as goal

pub returns-in-Ok : goal.returns-in-Ok
returns-in-Ok g c =
    same_outcome (ap settled_in (enough-walk c.requires.0 g.row.ROWS c.requires.1))
    (there-listed c.in-Ok.ensures c.requires.0.zeros c.list_rows.ensures)

pub returns-in-Err : goal.returns-in-Err
returns-in-Err g c =
    let whole = enough-walk c.requires.0 g.row.ROWS c.requires.1 in
    rw c.refused_by.ensures
    (same_outcome (ap settled_in whole) (there-refused c.in-Err.stop c.in-Err.ensures c.requires.0.zeros (λ e. c.requires.0.never (sym whole ∙ e))))
