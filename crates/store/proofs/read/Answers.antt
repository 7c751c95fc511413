-- `store::read` meets its contract. By opening the store. Assumes nothing.
use Rattle.store.proofs.Called.{refused-read, read_is}
use mathlib.Core.Path.{sym, ap, ◌∙◌}
use Rattle.std.specs.Prelude.{Err}
use Rattle.std.proofs.lemmas.Result.{err_from_is_err_and}
use Rattle.store.proofs.read.Goals as goal

pub returns-in_err-s : goal.returns-in_err-s
returns-in_err-s c = let e = err_from_is_err_and c.from_residual.result c.from_residual.ensures.1 in
    e.1 ∙ ap Err e.2 ∙ refused-read c.args.dictionary.now c.args.buffer.now c.in_err-s.field-0.0 (sym c.in_err-s.was ∙ c.open_store.ensures.opened)

pub returns : goal.returns
returns c = read_is c.args.dictionary.now c.args.buffer.now c.in_ok-s.s (sym c.in_ok-s.was ∙ c.open_store.ensures.opened)
