use Prim.Native.Nat.{◌+◌, ◌-◌, ◌≤◌}
use mathlib.Core.Path.{◌≡◌}
use lib.ListN.{length, drop}
use lib.Seq.{paste}
use Rattle.store.proofs.bytes.move_down.Given as goal

abbrev pub invariant-loop-i : goal.invariant-loop-i
invariant-loop-i l = (l.i ≤ length l.initial.b - l.n - l.at) × ((length l.b ≡ length l.initial.b) × (l.b ≡ paste l.initial.b l.at (drop (l.at + l.n) l.initial.b) l.i))

abbrev pub decreases-loop-i : goal.decreases-loop-i
decreases-loop-i l = length l.initial.b - l.n - l.at - l.i
