-- What is still to come, from here on, is the whole. Assumes nothing.
use Prim.Native.Nat.{◌-◌}
use Rattle.runs.proofs.StepLaws.{Scanning}
use Rattle.runs.proofs.scan.find_runs.Given as goal

abbrev pub invariant-loop : goal.invariant-loop
invariant-loop l = Scanning l.dictionary l.request l.at l.from l.initial.bindings l.bindings l.scan (l.end - l.counter)
