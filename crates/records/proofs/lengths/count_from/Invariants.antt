use Prim.Native.Nat.{◌+◌, ◌-◌, ◌≤◌}
use mathlib.Core.Path.{◌≡◌}
use lib.ListN.{length}
use Rattle.dictionary.specs.Internal.Walk.{fields_from}
use Rattle.records.proofs.lengths.count_from.Given as goal

abbrev pub invariant-loop-n : goal.invariant-loop-n
invariant-loop-n l = (l.n ≤ l.q) × (length (fields_from l.d l.from) ≡ l.n + length (fields_from l.d l.q))

abbrev pub decreases-loop-n : goal.decreases-loop-n
decreases-loop-n l = length l.d - l.q
