use mathlib.Core.Bool.{true, false}
use mathlib.Core.Path.{refl, sym, ◌∙◌}
use Rattle.std.proofs.lemmas.Result.{err_from_is_err_and}
use Rattle.grammar.specs.Reader.{byte}
use Rattle.grammar.proofs.StepLaws.{message-read, answer-refused}
use Rattle.scopes.specs.Scopes.{scope_of}
use Rattle.scopes.proofs.Scopes.{updating-is}
use Rattle.references.specs.Promises.{environment_of}
use Rattle.openings.specs.Headings.{message_number}
use Rattle.openings.proofs.HeadingLaws.{declared-by, exchanged-updating, exchanged-is, exchanged-cut}
use Rattle.openings.proofs.opening.exchanged_message.Goals as goal

pub returns-then-updating : goal.returns-then-updating
returns-then-updating c = λ d. rw (
  c.new.ensures,
  exchanged-updating (environment_of d c.args.around.now) (scope_of d c.args.scope.now) c.args.at c.args.request.now c.args.c
      (updating-is d _ ∙ sym c.updating.ensures ∙ c.if-updating.true),
)

pub returns-in_err-m : goal.returns-in_err-m
returns-in_err-m c =
    let p = err_from_is_err_and c.from_residual.result c.from_residual.ensures.1 in
    rw (p.1, p.2) (λ d. rw (exchanged-cut (environment_of d c.args.around.now) (scope_of d c.args.scope.now) c.args.at c.args.request.now c.args.c
    (updating-is d _ ∙ sym c.updating.ensures ∙ c.if-updating.false)
    (answer-refused message_number (byte _ _) (sym c.in_err-m.was ∙ c.next_number.ensures))))

pub returns-then-is_none : goal.returns-then-is_none
unfolding environment_of
returns-then-is_none c = λ d. rw (
  c.new-then-is_none.ensures,
  exchanged-is (environment_of d c.args.around.now) (scope_of d c.args.scope.now) c.args.at c.args.request.now c.args.c
      (updating-is d _ ∙ sym c.updating.ensures ∙ c.if-updating.false)
      (message-read (byte _ _) (sym c.in_ok-m.was ∙ c.next_number.ensures)) false
      (declared-by _ _ refl _ c.find.ensures ∙ c.is_none.ensures ∙ rw c.if-is_none.true),
)

pub returns : goal.returns
unfolding environment_of
returns c = λ d. rw (exchanged-is (environment_of d c.args.around.now) (scope_of d c.args.scope.now) c.args.at c.args.request.now c.args.c
    (updating-is d _ ∙ sym c.updating.ensures ∙ c.if-updating.false)
    (message-read (byte _ _) (sym c.in_ok-m.was ∙ c.next_number.ensures)) true
    (declared-by _ _ refl _ c.find.ensures ∙ c.is_none.ensures ∙ rw c.if-is_none.false))
