-- What is still to come, stored from here on, gives the whole. Assumes nothing.
use Prim.Native.Nat.{◌+◌}
use mathlib.Core.Path.{◌≡◌}
use lib.ListN.{drop}
use lib.Seq.{sets}
use Rattle.surroundings.proofs.bindings.put_numbers.Given as goal

abbrev pub invariant-loop-k : goal.invariant-loop-k
invariant-loop-k l = sets l.bindings (l.at + l.k) (drop l.k l.numbers) ≡ sets l.initial.bindings l.at l.numbers
