-- a starts with b where what is left of a does with what is left of b.
use mathlib.Core.Path.{◌≡◌}
use lib.ListN.{drop}
use Rattle.text.specs.Tests.{same_letter, starts_by}
use Rattle.text.proofs.search.starting_any_case.Given as goal

abbrev pub invariant-loop-i : goal.invariant-loop-i
invariant-loop-i l = starts_by same_letter l.a l.b ≡ starts_by same_letter (drop l.i l.a) (drop l.i l.b)
