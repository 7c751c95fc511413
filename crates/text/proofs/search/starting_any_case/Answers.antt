use native.Mathlib.Omega.{arith}
use Prim.Native.Nat.{◌<◌}
use mathlib.Core.Path.{◌≡◌, refl, sym, ◌∙◌}
use lib.ListN.{length, drop, length-drop}
use Rattle.text.proofs.SearchLaws.{starts-differ, starts-agree, starts-empty}
use Rattle.text.specs.Tests.{same_letter}
use Rattle.text.proofs.search.starting_any_case.Goals as goal

pub loop-i-init : goal.loop-i-init
loop-i-init c = refl

pub returns-then-not-same_letter : goal.returns-then-not-same_letter
returns-then-not-same_letter c = let h : c.loop-i.i < length c.args.a.now = omega arith in
    sym (c.loop-i.invariant ∙ starts-differ same_letter c.args.a.now c.args.b.now c.loop-i.i h c.loop-i-test.true (sym c.same_letter.ensures ∙ c.if-not-same_letter.true))

pub loop-i-preserved : goal.loop-i-preserved
loop-i-preserved c = let h : c.loop-i.i < length c.args.a.now = omega arith in
    c.loop-i.invariant ∙ starts-agree same_letter c.args.a.now c.args.b.now c.loop-i.i h c.loop-i-test.true (sym c.same_letter.ensures ∙ c.if-not-same_letter.false)

pub returns : goal.returns
returns c = let rest = drop c.loop-i.i c.args.b.now in
    let z : length rest ≡ 0 = simp length-drop (omega arith) in
    sym (c.loop-i.invariant ∙ starts-empty same_letter (drop c.loop-i.i c.args.a.now) rest z)
