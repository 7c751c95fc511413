-- `runs::check::check_runs` meets its contract. The answer for the rows that are left, and the table that it gives, are those for all.
-- Assumes nothing.
use Prim.Native.Nat.{◌-◌}
use Rattle.runs.proofs.Checks.{Checking}
use Rattle.runs.proofs.check.check_runs.Given as goal

abbrev pub invariant-loop-row : goal.invariant-loop-row
invariant-loop-row l = Checking l.dictionary l.runs l.rows l.from l.initial.bindings l.bindings l.row l.p
