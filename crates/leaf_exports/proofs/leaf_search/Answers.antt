use mathlib.Core.Path.{ap, ◌∙◌}
use Rattle.text.specs.Tests as tests
use Rattle.leaf_exports.proofs.leaf_search.Goals as goal

pub returns : goal.returns
returns c = c.searched.ensures ∙ ap (λ x. tests.search x c.args.a.now c.args.b.now) c.search_of.ensures
