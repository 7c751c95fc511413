-- `scopes::scope::find` meets its contract. By the column of the numbers. Assumes nothing.
use mathlib.Core.Path.{ap, ◌∙◌}
use native.Mathlib.Omega.{arith}
use Rattle.wire.specs.Options.{option_of}
use Rattle.scopes.proofs.Rests.{context-index}
use Rattle.scopes.proofs.scope.find.Goals as goal

pub returns : goal.returns
returns c = c.position.ensures ∙ ap option_of (context-index c.args.scope.now c.args.n.0 (omega arith))
