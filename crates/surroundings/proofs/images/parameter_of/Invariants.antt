-- What all the rows give is what those from here on give. Assumes nothing.
use Prim.Native.Nat.{◌*◌, ◌-◌, ◌≤◌}
use mathlib.Core.Path.{◌≡◌}
use Rattle.surroundings.specs.Parameters.{parameter_from}
use Rattle.surroundings.proofs.images.parameter_of.Given as goal

abbrev pub invariant-loop-row : goal.invariant-loop-row
invariant-loop-row l =
    (parameter_from l.parameters l.message.0 l.index l.rows 0 0 ≡ parameter_from l.parameters l.message.0 l.index (l.rows - l.row) l.row l.p)
    × (l.p ≤ l.row * 4294967295)
