use mathlib.Core.Path.{sym, ◌∙◌}
use Rattle.std.proofs.lemmas.Result.{err_from_is_err_and}
use Rattle.grammar.specs.Reader.{opened}
use Rattle.grammar.proofs.StepLaws.{cursor-read, cursor-refused, answer-refused, context-read}
use Rattle.scopes.specs.Scopes.{scope_of}
use Rattle.openings.specs.Streams.{context_number, fresh_byte}
use Rattle.openings.proofs.HeadingLaws.{modify-is, modify-room, modify-full}
use Rattle.openings.proofs.opening.modify_context.Goals as goal

pub returns-in_err-first : goal.returns-in_err-first
returns-in_err-first c =
    let p = err_from_is_err_and c.from_residual.result c.from_residual.ensures.1 in
    rw (p.1, p.2) (λ d. modify-full _ _ _ _ (cursor-refused (opened _ _ _) (sym c.in_err-first.was ∙ c.open_context.ensures _)))

pub returns-in_err-relation : goal.returns-in_err-relation
returns-in_err-relation c =
    let p = err_from_is_err_and c.from_residual-in_err-relation.result c.from_residual-in_err-relation.ensures.1 in
    rw (p.1, p.2) (λ d. modify-is _ _ _ _ (cursor-read (opened _ _ _) (sym c.in_ok-first.was ∙ c.open_context.ensures _)).1
    ((rw c.in_err-relation.was at c.for_context.ensures) d))

pub returns-in_err-number : goal.returns-in_err-number
returns-in_err-number c =
    let p = err_from_is_err_and c.from_residual-in_err-number.result c.from_residual-in_err-number.ensures.1 in
    rw (p.1, p.2) (λ d. let e = (rw c.in_ok-relation.was at c.for_context.ensures) d in
    modify-is _ _ _ _ (cursor-read (opened _ _ _) (sym c.in_ok-first.was ∙ c.open_context.ensures _)).1 e.1 ∙
    rw (answer-refused context_number (fresh_byte (scope_of d c.args.scope.now) _ _) (sym c.in_err-number.was ∙ c.fresh_context.ensures d)))

pub returns : goal.returns
returns c = λ d. let e = (rw c.in_ok-relation.was at c.for_context.ensures) d in
    let i = (cursor-read (opened _ _ _) (sym c.in_ok-first.was ∙ c.open_context.ensures c.args.request.now)).1 in (
      e.0,
      modify-is _ _ _ _ i e.1 ∙
          rw (context-read (fresh_byte (scope_of d c.args.scope.now) _ _) (sym c.in_ok-number.was ∙ c.fresh_context.ensures d)),
      rw e.2,
      modify-room (scope_of d c.args.scope.now) _ _ _ i,
    )
