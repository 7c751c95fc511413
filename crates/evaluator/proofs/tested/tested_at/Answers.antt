use native.Mathlib.Omega.{arith}
use Rattle.inputs.proofs.NotedLaws.{none-noted}
use Rattle.evaluator.proofs.tested.tested_at.Goals as goal

pub invariant_of-walk : goal.invariant_of-walk
invariant_of-walk c =
    record { fits = (omega arith, omega arith); noted = c.note.ensures (none-noted c.args.x.dictionary.now 256) }
