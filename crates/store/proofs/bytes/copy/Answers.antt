use Prim.Native.Nat.{ℕ, ◌+◌, ◌-◌}
use mathlib.Core.Path.{◌≡◌, refl, ap, ◌∙◌}
use native.Mathlib.Omega.{arith}
use lib.ListN.{length, get_or, set, length-set}
use lib.Seq.{paste, paste-zero}
use Rattle.store.proofs.Pastes.{paste-turn, copied}
use Rattle.store.proofs.bytes.copy.Goals as goal

pub loop-i-init : goal.loop-i-init
loop-i-init c = (omega arith, (refl, paste-zero c.args.b.now c.args.at c.args.x.now))

pub bounds-b-at : goal.bounds-b-at
bounds-b-at c = omega (arith, c.loop-i.invariant.1.0, c.requires, c.loop-i-test.true)

pub loop-i-smaller : goal.loop-i-smaller
loop-i-smaller c = omega (arith, c.loop-i-test.true)

pub loop-i-preserved : goal.loop-i-preserved
loop-i-preserved c = let i : ℕ = c.loop-i.i in
    let v : ℕ = get_or c.args.x.now i 0 in (
      omega (arith, c.loop-i-test.true),
      (
        length-set c.loop-i.b (c.args.at + i) v ∙ c.loop-i.invariant.1.0,
        ap (λ z. set z (c.args.at + i) v) c.loop-i.invariant.1.1 ∙
            paste-turn c.args.b.now c.args.x.now c.args.at i v (omega (arith, c.loop-i-test.true, c.requires)) (omega (arith, c.loop-i-test.true)) refl,
      ),
    )

pub shape_of-b : goal.shape_of-b
shape_of-b c = c.loop-i.invariant.1.0

pub returns : goal.returns
returns c = let e : c.loop-i.i ≡ length c.args.x.now = omega (arith, c.loop-i.invariant.0, c.loop-i-test.false) in
    c.loop-i.invariant.1.1 ∙ copied c.args.b.now c.args.x.now c.args.at c.loop-i.i e
