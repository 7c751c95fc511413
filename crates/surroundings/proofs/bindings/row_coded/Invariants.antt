-- What all the rows give is what those from here on give. Assumes nothing.
use Prim.Native.Nat.{◌-◌}
use mathlib.Core.Path.{◌≡◌}
use Rattle.surroundings.specs.Bindings.{rows_in, row_coded}
use Rattle.surroundings.proofs.bindings.row_coded.Given as goal

abbrev pub invariant-loop-row : goal.invariant-loop-row
invariant-loop-row l = row_coded l.bindings l.at (rows_in l.bindings) 0 ≡ row_coded l.bindings l.at (l.rows - l.row) l.row
