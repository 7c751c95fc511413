-- `store::layout::lay_out` meets its contract. Field by field. Assumes nothing.
use Prim.Native.Nat.{◌-◌}
use Rattle.store.proofs.Layouts.{Laying}
use lib.ListN.{length}
use mathlib.Core.Path.{◌≡◌}
use Rattle.store.proofs.layout.lay_out.Given as goal

abbrev pub invariant-loop-table : goal.invariant-loop-table
invariant-loop-table l = (length l.table ≡ length l.initial.table) × Laying l.d l.relation l.initial.table l.table l.q l.at l.i

abbrev pub decreases-loop-table : goal.decreases-loop-table
decreases-loop-table l = length l.d - l.q
