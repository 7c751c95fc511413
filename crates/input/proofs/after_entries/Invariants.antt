-- `input::after_entries` meets its contract. By the law of one entry. Assumes nothing.
use Prim.Native.Nat.{◌-◌}
use mathlib.Core.Path.{◌≡◌}
use lib.ListN.{length}
use Rattle.input.specs.Evaluation.{after_entries}
use Rattle.input.proofs.after_entries.Given as goal

abbrev pub invariant-loop-next : goal.invariant-loop-next
invariant-loop-next l = after_entries l.s l.at l.kind ≡ after_entries l.s l.p l.kind

abbrev pub decreases-loop-next : goal.decreases-loop-next
decreases-loop-next l = length l.s - l.p
