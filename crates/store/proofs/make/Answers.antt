-- `store::make` meets its contract. By the dictionary and the relation. Assumes nothing.
use Rattle.store.proofs.Called.{make-fault, make-unknown, make-found}
use mathlib.Core.Path.{sym, ap, ◌∙◌}
use Rattle.std.specs.Prelude.{Err}
use Rattle.std.proofs.lemmas.Result.{err_from_is_err_and}
use Rattle.store.proofs.make.Goals as goal

pub returns-in_err-good_dictionary : goal.returns-in_err-good_dictionary
returns-in_err-good_dictionary c = let e = err_from_is_err_and c.from_residual.result c.from_residual.ensures.1 in
    make-fault c.args.dictionary.now c.args.buffer.now c.args.relation c.in_err-good_dictionary.field-0.0 c.from_residual.result
    (sym c.in_err-good_dictionary.was ∙ c.good_dictionary.ensures) (e.1 ∙ ap Err e.2)

pub returns-in-None : goal.returns-in-None
returns-in-None c = make-unknown c.args.dictionary.now c.args.buffer.now c.args.relation (sym c.in_ok-good_dictionary.was ∙ c.good_dictionary.ensures)
    c.refused.result c.refused.ensures (sym c.in-None.is ∙ c.relation_numbered.ensures)

pub returns-in-Some : goal.returns-in-Some
returns-in-Some c = make-found c.args.dictionary.now c.args.buffer.now c.args.relation (sym c.in_ok-good_dictionary.was ∙ c.good_dictionary.ensures) c.in-Some.q
    (sym c.in-Some.is ∙ c.relation_numbered.ensures) _ _ c.make_of.ensures
