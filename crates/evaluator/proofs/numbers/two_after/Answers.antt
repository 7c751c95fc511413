use native.Mathlib.Omega.{arith}
use Rattle.evaluator.proofs.Walks.{two-found}
use Rattle.evaluator.proofs.numbers.two_after.Goals as goal

pub returns : goal.returns
returns c = two-found _ _ _ c.two_at.result (λ z. omega (arith, z)) c.place_after.ensures (c.two_at.ensures c.args.walk.now.noted)
