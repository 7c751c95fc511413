use Rattle.std.proofs.lemmas.Result.{err_from_is_err_and}
use Rattle.openings.proofs.HeadingLaws.{erase-is}
use Rattle.openings.proofs.parts.erase.Goals as goal

pub returns-in_err-next : goal.returns-in_err-next
returns-in_err-next c =
    let p = err_from_is_err_and c.from_residual.result c.from_residual.ensures.1 in
    rw (p.1, p.2) (λ d. erase-is _ _ _ _ ((rw c.in_err-next.was at c.for_context.ensures) d))

pub returns : goal.returns
returns c = λ d. erase-is _ _ _ _ ((rw c.in_ok-next.was at c.for_context.ensures) d).1
