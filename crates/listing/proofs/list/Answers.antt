use native.Mathlib.Omega.{arith}
use Rattle.listing.proofs.Counts.{accepted-few}
use Rattle.listing.proofs.list.Goals as goal

pub rows-requires : goal.rows-requires
rows-requires c = let few = accepted-few c.read.ensures c.in-Ok.counts c.in-Ok.is in omega (arith, few.statements, few.parameters, few.contexts)

pub rows-requires-in-Ok : goal.rows-requires-in-Ok
rows-requires-in-Ok c = let few = accepted-few c.read.ensures c.in-Ok.counts c.in-Ok.is in omega (arith, few.statements, few.parameters, few.contexts)

pub rows-requires-in-Ok-2 : goal.rows-requires-in-Ok-2
rows-requires-in-Ok-2 c = let few = accepted-few c.read.ensures c.in-Ok.counts c.in-Ok.is in omega (arith, few.statements, few.parameters, few.contexts)
