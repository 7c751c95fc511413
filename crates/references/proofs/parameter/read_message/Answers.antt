-- `references::parameter::read_message` meets its contract. A law for each way through the definition. Assumes nothing.
use mathlib.Core.Path.{◌≡◌, refl, sym, ap, ◌∙◌}
use Rattle.std.proofs.Common.{rules}
use Rattle.std.specs.Prelude.{Err}
use Rattle.grammar.specs.Reader.{byte}
use Rattle.grammar.proofs.StepLaws.{message-read, answer-refused}
use Rattle.scopes.proofs.Scopes.{sends-are}
use Rattle.messages.proofs.Found.{is_declared, not-declared}
use Rattle.references.specs.Promises.{environment_of, allowed_by}
use Rattle.references.proofs.References.{parameter-ended, parameter-undeclared, parameter-misplaced, parameter-found}
use Rattle.references.proofs.parameter.read_message.Goals as goal

pub returns-in_err-m : goal.returns-in_err-m
returns-in_err-m c d =
    let f : c.from_residual.result ≡ Err c.in_err-m.field-0.0 = search rules in
    rw f (λ p b. parameter-ended _ _ _ p b c.args.request.now c.args.c
    (answer-refused _ (byte c.args.request.now c.args.c) (sym c.in_err-m.was ∙ c.next_number.ensures)))

pub returns-in_default : goal.returns-in_default
unfolding environment_of
returns-in_default c d = rw c.new.ensures (λ p b. parameter-undeclared _ _ _ p b c.args.request.now c.args.c
    (message-read (byte c.args.request.now c.args.c) (sym c.in_ok-m.was ∙ c.next_number.ensures))
    (not-declared (environment_of d c.args.around.now) c.args.around.now refl _ (sym c.find.ensures ∙ c.in_default.is)))

pub returns-then-not-allowed : goal.returns-then-not-allowed
unfolding environment_of
returns-then-not-allowed c d = rw (c.new-then-not-allowed.ensures, c.target_place.ensures)
    (λ p b. parameter-misplaced _ _ _ p b c.args.request.now c.args.c
    (message-read (byte c.args.request.now c.args.c) (sym c.in_ok-m.was ∙ c.next_number.ensures))
    (is_declared (environment_of d c.args.around.now) c.args.around.now refl _ _ (sym c.find.ensures ∙ c.in-Some.is))
    (ap (allowed_by c.args.role) (sends-are d c.args.scope.now c.in_ok-m.m.0 ∙ sym c.has_send.ensures) ∙ sym c.allowed.ensures ∙
    c.if-not-allowed.true))

pub returns : goal.returns
returns c d = parameter-found d c.args.around.now c.args.scope.now c.args.role c.args.request.now c.args.c
    (message-read (byte c.args.request.now c.args.c) (sym c.in_ok-m.was ∙ c.next_number.ensures)) (sym c.find.ensures ∙ c.in-Some.is)
    (ap (allowed_by c.args.role) (sends-are d c.args.scope.now c.in_ok-m.m.0 ∙ sym c.has_send.ensures) ∙ sym c.allowed.ensures ∙
    c.if-not-allowed.false)
