use Prim.Native.Nat.{◌*◌, ◌≤◌}
use Rattle.store.specs.Internal.Layouts.{ones_at}
use mathlib.Core.Path.{◌≡◌}
use Rattle.store.proofs.layout.count_ones.Given as goal

abbrev pub invariant-loop-x : goal.invariant-loop-x
invariant-loop-x l = (l.sum ≡ ones_at l.s l.p l.x-index) × (l.sum ≤ 8 * l.x-index)
