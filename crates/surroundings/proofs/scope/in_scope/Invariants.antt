-- `surroundings::scope::in_scope` meets its contract. What is still to come, laid from here on, gives the whole. Assumes nothing.
use Prim.Native.Nat.{◌-◌}
use Rattle.surroundings.proofs.ContextLoops.{Filling}
use Rattle.surroundings.proofs.scope.in_scope.Given as goal

abbrev pub invariant-loop-row : goal.invariant-loop-row
invariant-loop-row l =
    Filling l.dictionary l.contexts l.at l.rows l.initial.numbers l.initial.relations l.numbers l.relations l.row l.filled
