-- `messages::reading::read_messages` meets its contract. What was read stays, and a refusal leaves zeros. Assumes nothing.
use mathlib.Core.Path.{sym, ◌∙◌}
use Rattle.messages.proofs.Readings.{declares-read, declares-nothing}
use Rattle.messages.proofs.reading.read_messages.Goals as goal
use Rattle.messages.proofs.reading.read_messages.Goals.{then-is_err, else-is_err}

pub returns : goal.returns
returns c = elim c.if-is_err.branch [
  | then-is_err w ↦ declares-nothing _ _ c.read_each-r.ensures (sym c.is_err.ensures.value ∙ w.if-is_err.true) c.read_each-r.auto.table
      (w.table-is ∙ w.fill.ensures.after (λ y e. e)) (w.around-is ∙ w.fill-then-is_err.ensures.after (λ y e. e)) c.put_version.ensures
  | else-is_err w ↦ declares-read _ _ c.read_each-r.ensures (sym c.is_err.ensures.value ∙ w.if-is_err.false) w.table-is w.around-is c.put_version.ensures
]
