-- `scopes::scope::has_label` meets its contract. By the column of the labels. Assumes nothing.
use native.Mathlib.Omega.{arith}
use Rattle.scopes.specs.Scopes.{labels_held}
use Rattle.scopes.specs.Internal.Columns.{labels_from}
use Rattle.scopes.proofs.Rests.{among-index}
use Rattle.scopes.proofs.scope.has_label.Goals as goal

pub returns : goal.returns
returns c = rw (c.is_some.ensures, c.position.ensures) (among-index c.args.scope.now labels_from (labels_held c.args.scope.now) c.args.n.0 (omega arith))
