use Prim.Native.Nat.{◌-◌, ◌≤◌}
use Rattle.explanation.proofs.RowLaws.{Moving}
use Rattle.explanation.proofs.rows.move_down.Given as goal

abbrev pub invariant-loop-i : goal.invariant-loop-i
invariant-loop-i l = (l.start ≤ l.i) × (l.i ≤ l.end) × Moving l.to l.start l.initial.noted l.i l.j l.noted

abbrev pub decreases-loop-i : goal.decreases-loop-i
decreases-loop-i l = l.end - l.i
