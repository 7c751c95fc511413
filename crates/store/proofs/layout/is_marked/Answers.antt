use Rattle.std.proofs.Common.{rules, ◌≡◌, ◌∙◌, arith, refl}
use Rattle.std.specs.List.{list_all, range_with_len}
use Rattle.std.proofs.lemmas.Iterator.{YieldsList-from_range}
use Rattle.std.proofs.lemmas.Iterator.Search.{all_from_yields_List}
use Rattle.store.specs.Internal.Layouts.{marked_field}
use Rattle.store.proofs.Layouts.{marked_is}
use Rattle.store.proofs.layout.is_marked.Goals as goal

pub returns : goal.returns
returns c =
    let e : c.all.result ≡ list_all (marked_field c.args.table.now c.args.s.now c.args.p) (range_with_len 0 c.args.n) =
    all_from_yields_List (marked_field c.args.table.now c.args.s.now c.args.p) _ _ _ c.all.ensures.ran (YieldsList-from_range 0 c.args.n _ refl (omega arith)) (λ x b q k. search rules) in
    e ∙ marked_is c.args.table.now c.args.s.now c.args.p c.args.n
