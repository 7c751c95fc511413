use mathlib.Core.Bool.{true, false}
use mathlib.Core.Path.{sym, ◌∙◌}
use Rattle.grammar.specs.Reader.{byte}
use Rattle.grammar.proofs.StepLaws.{context-read}
use Rattle.scopes.specs.Scopes.{scope_of}
use Rattle.openings.proofs.StreamLaws.{in-scope, fresh-is}
use Rattle.openings.proofs.streams.fresh_context.Goals as goal

pub returns-then-is_some : goal.returns-then-is_some
returns-then-is_some c = λ d. rw (
  c.new.ensures,
  fresh-is (scope_of d c.args.scope.now) c.args.request.now c.args.c (context-read (byte _ _) (sym c.in_ok-n.was ∙ c.next_number.ensures))
      true (in-scope d _ _ c.find.ensures ∙ sym c.is_some.ensures ∙ c.if-is_some.true),
)

pub returns : goal.returns
returns c = λ d. rw (fresh-is (scope_of d c.args.scope.now) c.args.request.now c.args.c
    (context-read (byte _ _) (sym c.in_ok-n.was ∙ c.next_number.ensures)) false
    (in-scope d _ _ c.find.ensures ∙ sym c.is_some.ensures ∙ c.if-is_some.false))
