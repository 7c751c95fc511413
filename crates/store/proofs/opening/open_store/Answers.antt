-- `store::opening::open_store` meets its contract. By the dictionary and the relation. Assumes nothing.
use Rattle.store.proofs.Starts.{opens-same, store-unknown, store_found, fair-found, opens-refused, opens-fault}
use mathlib.Core.Path.{sym, ap, ◌∙◌}
use Rattle.std.specs.Prelude.{Err}
use Rattle.std.proofs.lemmas.Result.{err_from_is_err_and}
use Rattle.store.proofs.opening.open_store.Goals as goal

pub returns-in_err-good_dictionary : goal.returns-in_err-good_dictionary
returns-in_err-good_dictionary c = let e = err_from_is_err_and c.from_residual.result c.from_residual.ensures.1 in
    opens-fault c.args.d.now c.args.b.now _ c.in_err-good_dictionary.field-0.0 c.from_residual.result
    (sym c.in_err-good_dictionary.was ∙ c.good_dictionary.ensures) (e.1 ∙ ap Err e.2)

pub open_of-requires : goal.open_of-requires
open_of-requires c = let good = sym c.in_ok-good_dictionary.was ∙ c.good_dictionary.ensures in
    (fair-found c.args.d.now good c.word_at.result c.in-Some.relation (sym c.in-Some.is ∙ c.relation_numbered.ensures), c.requires)

pub returns-in-None : goal.returns-in-None
returns-in-None c = let good = sym c.in_ok-good_dictionary.was ∙ c.good_dictionary.ensures in
    opens-refused _ _ _ (store-unknown c.args.d.now c.args.b.now good c.word_at.result c.word_at.ensures.0 (sym c.in-None.is ∙ c.relation_numbered.ensures)) c.refused.ensures

pub returns-in-Some : goal.returns-in-Some
returns-in-Some c = let good = sym c.in_ok-good_dictionary.was ∙ c.good_dictionary.ensures in
    opens-same (store_found c.args.d.now c.args.b.now good c.word_at.result c.word_at.ensures.0 c.in-Some.relation (sym c.in-Some.is ∙ c.relation_numbered.ensures)) c.open_of.ensures
