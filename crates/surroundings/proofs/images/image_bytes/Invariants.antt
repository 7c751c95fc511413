-- All rows hold the sum and what those from here on hold. Assumes nothing.
use Prim.Native.Nat.{◌+◌, ◌*◌, ◌-◌, ◌≤◌}
use mathlib.Core.Path.{◌≡◌}
use Rattle.surroundings.specs.Parameters.{held_from}
use Rattle.surroundings.proofs.images.image_bytes.Given as goal

abbrev pub invariant-loop-row : goal.invariant-loop-row
invariant-loop-row l =
    (held_from l.parameters l.rows 0 ≡ l.sum + held_from l.parameters (l.rows - l.row) l.row) × (l.sum ≤ l.row * 4294967295)
