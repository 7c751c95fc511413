-- `references::field::read_context` meets its contract. A law for each way through the definition. Assumes nothing.
use mathlib.Core.Path.{◌≡◌, sym, ap, ◌∙◌}
use Rattle.std.proofs.Common.{rules}
use Rattle.std.specs.Prelude.{Err}
use Rattle.grammar.specs.Reader.{byte}
use Rattle.grammar.proofs.StepLaws.{context-read, answer-refused}
use Rattle.scopes.proofs.Scopes.{is-in-scope, nothing-in-scope, target_is}
use Rattle.references.specs.Promises.{allowed_by}
use Rattle.references.proofs.References.{field-ended, field-out-of-scope, field-misplaced, field-found}
use Rattle.references.proofs.field.read_context.Goals as goal

pub returns-in_err-n : goal.returns-in_err-n
returns-in_err-n c d =
    let f : c.from_residual.result ≡ Err c.in_err-n.field-0.0 = search rules in
    rw f (λ e p b. field-ended e _ _ p b c.args.request.now c.args.c
    (answer-refused _ (byte c.args.request.now c.args.c) (sym c.in_err-n.was ∙ c.next_number.ensures)))

pub returns-in_default : goal.returns-in_default
returns-in_default c d = rw c.new.ensures (λ e p b. field-out-of-scope e _ _ p b c.args.request.now c.args.c
    (context-read (byte c.args.request.now c.args.c) (sym c.in_ok-n.was ∙ c.next_number.ensures))
    (nothing-in-scope d _ _ (sym c.find.ensures ∙ c.in_default.is)))

pub returns-then-not-allowed : goal.returns-then-not-allowed
returns-then-not-allowed c d = rw (c.new-then-not-allowed.ensures, c.target_place.ensures)
    (λ e p b. field-misplaced e _ _ p b c.args.request.now c.args.c
    (context-read (byte c.args.request.now c.args.c) (sym c.in_ok-n.was ∙ c.next_number.ensures))
    (is-in-scope d _ _ _ (sym c.find.ensures ∙ c.in-Some.is))
    (ap (allowed_by c.args.role) (target_is d c.args.scope.now c.in_ok-n.n.0 ∙ sym c.is_target.ensures) ∙ sym c.allowed.ensures ∙
    c.if-not-allowed.true))

pub returns : goal.returns
returns c d = λ e p b. field-found e d c.args.scope.now c.args.role p b c.args.request.now c.args.c
    (context-read (byte c.args.request.now c.args.c) (sym c.in_ok-n.was ∙ c.next_number.ensures)) (sym c.find.ensures ∙ c.in-Some.is)
    (ap (allowed_by c.args.role) (target_is d c.args.scope.now c.in_ok-n.n.0 ∙ sym c.is_target.ensures) ∙ sym c.allowed.ensures ∙
    c.if-not-allowed.false) c.relation_at.ensures
