-- What all the rows give is what those from here on give. Assumes nothing.
use Prim.Native.Nat.{◌-◌}
use mathlib.Core.Path.{◌≡◌}
use Rattle.surroundings.specs.Bindings.{rows_in}
use Rattle.kinds.specs.Spans.{row_around}
use Rattle.kinds.proofs.around.row_around.Given as goal

abbrev pub invariant-loop-row : goal.invariant-loop-row
invariant-loop-row l = row_around l.bindings l.number.0 l.at (rows_in l.bindings) 0 ≡ row_around l.bindings l.number.0 l.at (l.rows - l.row) l.row
