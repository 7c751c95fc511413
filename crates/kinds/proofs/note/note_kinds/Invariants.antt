-- `kinds::note::note_kinds` meets its contract. Assumes nothing.
use Prim.Native.Nat.{◌*◌, ◌-◌, ◌≤◌, min}
use lib.ListN.{length}
use Rattle.wire.specs.Limits.{max_parameters}
use Rattle.kinds.proofs.Noting.{Noting}
use Rattle.kinds.proofs.note.note_kinds.Given as goal

abbrev pub invariant-loop-row : goal.invariant-loop-row
invariant-loop-row l =
    Noting l.dictionary l.parameters (min l.rows max_parameters) l.request l.count l.initial.bindings l.bindings l.row × (l.count * 10 ≤ length l.initial.bindings)
