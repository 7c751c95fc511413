-- a contains b where what is left of a does.
use mathlib.Core.Path.{◌≡◌}
use lib.ListN.{drop}
use Rattle.text.specs.Tests.{containing}
use Rattle.text.proofs.search.containing.Given as goal

abbrev pub invariant-loop-at : goal.invariant-loop-at
invariant-loop-at l = containing l.a l.b ≡ containing (drop l.at l.a) l.b
