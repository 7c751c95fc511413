use native.Mathlib.Omega.{arith}
use Prim.Native.Nat.{◌-◌, ◌+◌}
use mathlib.Core.Path.{◌≡◌, refl, sym, ap, ◌∙◌}
use Rattle.text.proofs.PartLaws.{kept-none, kept-stop, kept_step}
use Rattle.text.specs.Value.{kept}
use Rattle.text.proofs.value.kept_length.Goals as goal

pub loop-k-init : goal.loop-k-init
loop-k-init c = refl

pub returns-then-s-p-ne-BLANK : goal.returns-then-s-p-ne-BLANK
returns-then-s-p-ne-BLANK c = let k : c.loop-k.k - 1 + 1 ≡ c.loop-k.k = omega arith in
    k ∙ sym (c.loop-k.invariant ∙ kept-stop c.args.s.now c.args.p c.loop-k.k c.loop-k-test.true c.if-s-p-ne-BLANK.true)

pub loop-k-preserved : goal.loop-k-preserved
loop-k-preserved c = c.loop-k.invariant ∙ kept_step c.args.s.now c.args.p c.loop-k.k c.loop-k-test.true c.if-s-p-ne-BLANK.false

pub returns : goal.returns
returns c = let z : c.loop-k.k ≡ 0 = omega arith in
    sym (c.loop-k.invariant ∙ ap (kept c.args.s.now c.args.p) z ∙ kept-none c.args.s.now c.args.p)
