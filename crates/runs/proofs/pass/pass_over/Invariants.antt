-- What is still to come, from here on, is the whole. Assumes nothing.
use Prim.Native.Nat.{◌-◌}
use Rattle.runs.proofs.PassLaws.{Passing}
use Rattle.runs.proofs.pass.pass_over.Given as goal

abbrev pub invariant-loop : goal.invariant-loop
invariant-loop l = Passing l.request l.at l.count l.pass (l.end - l.counter)
