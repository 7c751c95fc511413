use Prim.Native.Nat.{◌+◌, ◌-◌}
use mathlib.Core.Path.{◌≡◌, refl, sym, ap, ◌∙◌}
use native.Mathlib.Omega.{arith}
use lib.ListN.{length, get_or, drop, length-set}
use lib.Seq.{sets, drop-length}
use Rattle.evaluator.proofs.RunLaws.{number-turn}
use Rattle.evaluator.proofs.rows.copy.Goals as goal

pub loop-i-init : goal.loop-i-init
loop-i-init c = (omega arith, refl, refl)

pub loop-i-preserved : goal.loop-i-preserved
loop-i-preserved c = (
  omega (arith, c.loop-i-test.true),
  ap length c.put.ensures ∙ length-set c.loop-i.to c.loop-i.i (get_or c.args.from.now c.loop-i.i 0) ∙ c.loop-i.invariant.1,
  c.loop-i.invariant.2 ∙ number-turn c.args.from.now c.loop-i.to c.loop-i.i c.loop-i-test.true
      ∙ ap (λ y. sets y (c.loop-i.i + 1) (drop (c.loop-i.i + 1) c.args.from.now)) (sym c.put.ensures),
)

pub shape_of-to : goal.shape_of-to
shape_of-to c = c.loop-i.invariant.1

pub returns : goal.returns
returns c = let e : c.loop-i.i ≡ length c.args.from.now = omega (arith, c.loop-i.invariant.0, c.loop-i-test.false) in
    sym (c.loop-i.invariant.2 ∙ ap (λ i. sets c.loop-i.to i (drop i c.args.from.now)) e ∙ ap (sets c.loop-i.to _) (drop-length c.args.from.now))
