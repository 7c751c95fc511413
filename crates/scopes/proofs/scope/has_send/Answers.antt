-- `scopes::scope::has_send` meets its contract. By the column of the sends. Assumes nothing.
use native.Mathlib.Omega.{arith}
use Rattle.scopes.specs.Scopes.{sends_held}
use Rattle.scopes.specs.Internal.Columns.{sends_from}
use Rattle.scopes.proofs.Rests.{among-index}
use Rattle.scopes.proofs.scope.has_send.Goals as goal

pub returns : goal.returns
returns c = rw (c.is_some.ensures, c.position.ensures) (among-index c.args.scope.now sends_from (sends_held c.args.scope.now) c.args.m.0 (omega arith))
