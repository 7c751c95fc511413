use mathlib.Core.Path.{sym, ◌∙◌}
use Rattle.std.proofs.lemmas.Result.{err_from_is_err_and}
use Rattle.grammar.specs.Statements.{exchanged}
use Rattle.grammar.proofs.StepLaws.{message-read, answer-refused}
use Rattle.scopes.specs.Scopes.{scope_of}
use Rattle.references.specs.Promises.{environment_of}
use Rattle.openings.specs.Headings.{message_number}
use Rattle.openings.proofs.HeadingLaws.{selected-is}
use Rattle.openings.proofs.parts.selected_message.Goals as goal

pub returns-in_err-m : goal.returns-in_err-m
returns-in_err-m c =
    let p = err_from_is_err_and c.from_residual.result c.from_residual.ensures.1 in
    rw (p.1, p.2) (λ d ms h. rw (
      selected-is (environment_of d c.args.around.now) (scope_of d c.args.scope.now) c.args.at c.args.request.now c.args.c ms,
      answer-refused message_number (exchanged (environment_of d _) (scope_of d _) _ _ _) (sym c.in_err-m.was ∙ c.exchanged_message.ensures d),
    ))

pub returns-then-seen-m : goal.returns-then-seen-m
returns-then-seen-m c = λ d ms h. rw (
  c.new.ensures,
  selected-is (environment_of d c.args.around.now) (scope_of d c.args.scope.now) c.args.at c.args.request.now c.args.c ms,
  message-read (exchanged (environment_of d _) (scope_of d _) _ _ _) (sym c.in_ok-m.was ∙ c.exchanged_message.ensures d),
  sym (h.holds _) ∙ c.if-seen-m.true,
)

pub returns : goal.returns
returns c = λ d ms h. rw (
  selected-is (environment_of d c.args.around.now) (scope_of d c.args.scope.now) c.args.at c.args.request.now c.args.c ms,
  message-read (exchanged (environment_of d _) (scope_of d _) _ _ _) (sym c.in_ok-m.was ∙ c.exchanged_message.ensures d),
  sym (h.holds _) ∙ c.if-seen-m.false,
)
