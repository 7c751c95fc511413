use mathlib.Core.Path.{sym, ◌∙◌}
use Rattle.std.proofs.lemmas.Result.{err_from_is_err_and}
use Rattle.grammar.specs.Statements.{exchanged}
use Rattle.grammar.proofs.StepLaws.{message-read, answer-refused}
use Rattle.references.specs.Promises.{environment_of}
use Rattle.scopes.specs.Scopes.{scope_of}
use Rattle.openings.specs.Headings.{message_number}
use Rattle.openings.proofs.OpenHeadings.{opens-send, send-refused}
use Rattle.openings.proofs.opening.read_send.Goals as goal

pub returns-in_err-m : goal.returns-in_err-m
returns-in_err-m c =
    let p = err_from_is_err_and c.from_residual.result c.from_residual.ensures.1 in
    rw (p.1, p.2) (λ d ct ready. send-refused ready _ _ ct
    (answer-refused message_number (exchanged (environment_of d _) (scope_of d _) _ _ _) (sym c.in_err-m.was ∙ c.exchanged_message.ensures d)))

pub returns : goal.returns
returns c = λ d ct ready. rw c.add_send.ensures (opens-send ready _ _ ct
    (message-read (exchanged (environment_of d _) (scope_of d _) _ _ _) (sym c.in_ok-m.was ∙ c.exchanged_message.ensures d)))
