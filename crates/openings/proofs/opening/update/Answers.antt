use mathlib.Core.Path.{refl}
use Rattle.std.proofs.lemmas.Result.{err_from_is_err_and}
use Rattle.openings.proofs.opening.update.Goals as goal

pub returns-in_err-x : goal.returns-in_err-x
returns-in_err-x c =
    let p = err_from_is_err_and c.from_residual.result c.from_residual.ensures.1 in
    rw (p.1, p.2, c.in_err-x.was) (refl, refl, refl)

pub returns : goal.returns
returns c = rw c.in_ok-x.was (_, c.declare.ensures, c.set_target.ensures, refl)
