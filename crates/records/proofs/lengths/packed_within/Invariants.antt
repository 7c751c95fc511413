use Prim.Native.Nat.{◌+◌, ◌-◌, ◌≤◌}
use mathlib.Core.Path.{◌≡◌}
use lib.ListN.{take}
use Rattle.dictionary.specs.Internal.Walk.{fields_from}
use Rattle.records.specs.Internal.Answers.{all_held}
use Rattle.records.proofs.lengths.packed_within.Given as goal

abbrev pub invariant-loop : goal.invariant-loop
invariant-loop l =
    (l.sum ≤ l.limit) × (l.start + all_held l.d (take l.i (fields_from l.d l.from)) ≡ l.sum + all_held l.d (take (l.i - l.counter) (fields_from l.d l.q)))
