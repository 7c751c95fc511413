use Prim.Native.Nat.{◌-◌}
use lib.ListN.{length}
use Rattle.dictionary.proofs.Loop.{Going}
use Rattle.dictionary.proofs.check.check.Given as goal

abbrev pub invariant-loop-p : goal.invariant-loop-p
invariant-loop-p l = Going l.d l.m l.p

abbrev pub decreases-loop-p : goal.decreases-loop-p
decreases-loop-p l = length l.d - l.p
