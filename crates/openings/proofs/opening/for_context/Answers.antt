use mathlib.Core.Option.{some}
use mathlib.Core.Bool.{true, false}
use mathlib.Core.Path.{sym, ap, ◌∙◌}
use Rattle.std.proofs.lemmas.Result.{err_from_is_err_and}
use Rattle.grammar.specs.Reader.{byte}
use Rattle.grammar.proofs.StepLaws.{context-read, answer-refused}
use Rattle.dictionary.specs.Internal.Walk.{relation_at}
use Rattle.scopes.proofs.Scopes.{is-in-scope, nothing-in-scope, is-of-for, is-relation}
use Rattle.openings.specs.Streams.{context_number}
use Rattle.openings.proofs.HeadingLaws.{for-none, for-there, for-cut}
use Rattle.openings.proofs.opening.for_context.Goals as goal

pub returns-in_err-n : goal.returns-in_err-n
returns-in_err-n c =
    let p = err_from_is_err_and c.from_residual.result c.from_residual.ensures.1 in
    rw (p.1, p.2) (λ d. for-cut _ _ _ _ (answer-refused context_number (byte _ _) (sym c.in_err-n.was ∙ c.next_number.ensures)))

pub returns-in_default : goal.returns-in_default
returns-in_default c = λ d. rw c.new.ensures (for-none _ _ _ _ (context-read (byte _ _) (sym c.in_ok-n.was ∙ c.next_number.ensures))
    (nothing-in-scope d _ _ (sym c.find.ensures ∙ c.in_default.is)))

pub returns-then-not-is_of_for : goal.returns-then-not-is_of_for
returns-then-not-is_of_for c = λ d. let f = sym c.find.ensures ∙ c.in-Some.is in
    rw c.new-then-not-is_of_for.ensures (for-there _ _ _ _ (context-read (byte _ _) (sym c.in_ok-n.was ∙ c.next_number.ensures)) (is-in-scope d _ _ _ f) false
    (is-of-for d _ _ _ f ∙ sym c.is_of_for.ensures ∙ c.if-not-is_of_for.true))

pub returns : goal.returns
returns c = λ d. let f = sym c.find.ensures ∙ c.in-Some.is in (
  _,
  for-there _ _ _ _ (context-read (byte _ _) (sym c.in_ok-n.was ∙ c.next_number.ensures)) (is-in-scope d _ _ _ f) true
      (is-of-for d _ _ _ f ∙ sym c.is_of_for.ensures ∙ c.if-not-is_of_for.false),
  is-relation d _ _ _ f ∙ ap (λ x. some (relation_at d x)) (sym c.relation_of.ensures),
)
