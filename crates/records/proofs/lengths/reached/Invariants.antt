use Prim.Native.Nat.{◌≤◌, ◌-◌}
use mathlib.Core.Path.{◌≡◌}
use Rattle.records.specs.Internal.Locations.{reached_from}
use Rattle.records.proofs.Locations.{rest}
use Rattle.records.proofs.lengths.reached.Given as goal

abbrev pub invariant-loop : goal.invariant-loop
invariant-loop l = (l.sum ≤ 4096) × (reached_from l.d l.from l.i ≡ rest l.d l.q (l.i - l.counter) l.sum)
