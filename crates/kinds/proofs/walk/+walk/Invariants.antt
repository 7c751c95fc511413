-- `kinds::walk::kind_at` and `kinds::walk::kind_under` meet their contracts. Assumes nothing.
use Rattle.kinds.specs.KindAt.{kind_under, kind_at}
use Prim.Native.Nat.{◌*◌, ◌+◌}
use Rattle.kinds.proofs.walk.+walk.Given as goal

abbrev pub decreases-kind_at : goal.decreases-kind_at
decreases-kind_at l = 2 * l.levels

abbrev pub decreases-kind_under : goal.decreases-kind_under
decreases-kind_under l = 2 * l.levels + 1
