use mathlib.Core.Path.{ap, ◌∙◌}
use native.Mathlib.Omega.{arith}
use Prim.Native.Nat.{ℕ}
use lib.ListN.{drop, replicate, length-drop}
use lib.Seq.{length-take-le}
use Rattle.store.proofs.Pastes.{cleared_by}
use Rattle.store.proofs.bytes.clear.Goals as goal

pub returns : goal.returns
returns c = cleared_by c.args.b.now c.args.from c.fill.new.self c.requires
    (c.fill.ensures.after (λ y e. e) ∙
    ap (λ (n : ℕ). replicate n 0) (length-take-le _ (drop c.args.from c.args.b.now) (omega (arith, length-drop c.args.from c.args.b.now))))
