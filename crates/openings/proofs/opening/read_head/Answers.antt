use mathlib.Core.Path.{sym, ◌∙◌}
use Rattle.std.proofs.lemmas.Result.{err_from_is_err_and}
use Rattle.wire.specs.Codes as blr
use Rattle.grammar.specs.declared.Refusal.TheVariants.{NotDue}
use Rattle.grammar.specs.Reader.{code}
use Rattle.grammar.specs.Statements.{stream_count}
use Rattle.grammar.specs.Internal.Steps.{same}
use Rattle.grammar.proofs.StepLaws.{cursor-read, cursor-refused, same-read, answer-refused}
use Rattle.openings.proofs.OpenLaws.{opens-head, head-uncounted, head-refused}
use Rattle.openings.proofs.opening.read_head.Goals as goal

pub returns-in_err-first : goal.returns-in_err-first
returns-in_err-first c =
    let p = err_from_is_err_and c.from_residual.result c.from_residual.ensures.1 in
    rw (p.1, p.2) (λ ready. head-refused ready _ _ (cursor-refused (code blr.rse NotDue _ _) (sym c.in_err-first.was ∙ c.due_code.ensures)))

pub returns-in_err-n : goal.returns-in_err-n
returns-in_err-n c =
    let p = err_from_is_err_and c.from_residual-in_err-n.result c.from_residual-in_err-n.ensures.1 in
    rw (p.1, p.2) (λ ready. head-uncounted ready _ _ (cursor-read (code blr.rse NotDue _ _) (sym c.in_ok-first.was ∙ c.due_code.ensures)).1
    (answer-refused same (stream_count _ _ _) (sym c.in_err-n.was ∙ c.stream_count.ensures)))

pub returns : goal.returns
returns c = λ ready. opens-head ready _ _ (cursor-read (code blr.rse NotDue _ _) (sym c.in_ok-first.was ∙ c.due_code.ensures)).1
    (same-read (stream_count _ _ _) (sym c.in_ok-n.was ∙ c.stream_count.ensures)) c.read_streams.ensures
