-- `store::changes::mark` meets its contract. Field by field. Assumes nothing.
use Rattle.store.specs.Internal.Changes.{marked_with}
use lib.ListN.{length}
use mathlib.Core.Path.{◌≡◌}
use Rattle.store.proofs.changes.mark.Given as goal

abbrev pub invariant-loop-i : goal.invariant-loop-i
invariant-loop-i l = (length l.b ≡ length l.initial.b) × (l.b ≡ marked_with l.table l.x l.initial.b l.p l.i)
