use Rattle.std.proofs.Common.{rules, ◌≡◌, ◌==◌, drop, sym, ◌∙◌}
use Rattle.std.specs.List.{list_all}
use Rattle.std.proofs.lemmas.Iterator.{YieldsList-from_slice}
use Rattle.std.proofs.lemmas.Iterator.Adapters.{YieldsList-from_skip}
use Rattle.std.proofs.lemmas.Iterator.Search.{all_from_yields_List}
use Rattle.dictionary.proofs.Bytes.{all_is}
use Rattle.store.proofs.bytes.is_clear.Goals as goal

pub returns : goal.returns
returns c =
    let e : c.all.result ≡ list_all (λ x. x == 0) (drop c.args.from c.args.b.now) =
    all_from_yields_List (λ x. x == 0) _ _ _ c.all.ensures.ran (YieldsList-from_skip c.args.from (YieldsList-from_slice c.args.b.now (rw c.skip.ensures.source c.iter.ensures.rest)) c.skip.ensures.count) (λ x b q k. search rules) in
    e ∙ sym (all_is (λ x. x == 0) (drop c.args.from c.args.b.now))
