use Prim.Native.Nat.{◌+◌, ◌≤◌}
use Rattle.store.proofs.Layouts.{Tallying}
use lib.ListN.{length}
use Rattle.store.proofs.layout.tally_of.Given as goal

abbrev pub invariant-loop : goal.invariant-loop
invariant-loop l = (l.p ≤ length l.s + 10) × ((l.sum ≤ l.p) × Tallying l.fn.l l.table l.s l.count l.p l.sum l.counter)
