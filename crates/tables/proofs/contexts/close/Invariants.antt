use Prim.Native.Nat.{◌-◌, ◌≤◌}
use mathlib.Core.Path.{◌≡◌}
use Rattle.wire.specs.Limits.{max_contexts}
use Rattle.tables.specs.Written.{closed}
use Rattle.tables.proofs.contexts.close.Given as goal

abbrev pub invariant-loop-i : goal.invariant-loop-i
invariant-loop-i l =
    (l.opened ≤ max_contexts) ×
    (closed l.contexts l.i (l.opened - l.i) l.from.at l.end.at ≡ closed l.initial.contexts l.row (l.opened - l.row) l.from.at l.end.at)
