-- What all the rows give is what those from here on give. Assumes nothing.
use Prim.Native.Nat.{◌-◌}
use mathlib.Core.Path.{◌≡◌}
use Rattle.surroundings.specs.Bindings.{rows_in, row_binding}
use Rattle.surroundings.proofs.bindings.binding_of.Given as goal

abbrev pub invariant-loop-row : goal.invariant-loop-row
invariant-loop-row l = row_binding l.bindings l.number.0 (rows_in l.bindings) 0 ≡ row_binding l.bindings l.number.0 (l.rows - l.row) l.row
