-- `scopes::scope::position` meets its contract. By what std's `take` and `position` give. Assumes nothing.
use Rattle.std.proofs.Common.{rules, tests}
use Rattle.std.proofs.lemmas.Iterator.{YieldsList-from_slice, YieldsList-from_take}
use Rattle.std.proofs.lemmas.Iterator.Search.{position_from_yields_List}
use mathlib.Core.Path.{sym, ◌∙◌}
use lib.Dec.{eqb}
use lib.ListN.{take}
use Rattle.scopes.proofs.Rests.{index-position}
use Rattle.scopes.proofs.scope.position.Goals as goal

pub returns : goal.returns
returns c = rw (sym c.from.ensures)
    (position_from_yields_List (λ x. eqb x c.args.n) _ _ c.position.result c.position.ensures.ran
    (YieldsList-from_take _ (YieldsList-from_slice c.args.column.now cc) c.take.ensures.count) (λ x b q k. search (rules, tests)) ∙
    index-position (λ x. eqb x c.args.n) (take c.from.result c.args.column.now))
