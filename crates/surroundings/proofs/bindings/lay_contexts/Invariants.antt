-- What is still to come, laid from here on, gives the whole. Assumes nothing.
use Rattle.surroundings.proofs.BindingLoops.{Laying}
use Rattle.surroundings.proofs.bindings.lay_contexts.Given as goal

abbrev pub invariant-loop-row : goal.invariant-loop-row
invariant-loop-row l = Laying l.numbers l.relations l.records l.rows l.initial.bindings l.bindings l.row l.p
