-- `input::join_bodies` meets its contract. By the law of one entry, `body-turn`. Assumes nothing.
use Prim.Native.Nat.{◌+◌, ◌-◌, ◌≤◌}
use mathlib.Core.Path.{◌≡◌}
use lib.ListN.{length}
use lib.Seq.{sets}
use Rattle.input.specs.Evaluation.{joined}
use Rattle.input.proofs.join_bodies.Given as goal

abbrev pub invariant-loop-next : goal.invariant-loop-next
invariant-loop-next l =
    (l.n ≤ l.p) × ((length l.lent ≡ length l.initial.lent) ×
    ((length (joined l.s l.at l.kind) ≡ l.n + length (joined l.s l.p l.kind)) × (sets l.initial.lent 0 (joined l.s l.at l.kind) ≡ sets l.lent l.n (joined l.s l.p l.kind))))

abbrev pub decreases-loop-next : goal.decreases-loop-next
decreases-loop-next l = length l.s - l.p
