use native.Mathlib.Omega.{arith}
use mathlib.Core.Path.{sym, ap, ◌∙◌, ◌≡◌}
use mathlib.Core.Bool.{true, false}
use Prim.Native.Nat.{◌+◌, ◌<◌}
use Rattle.wire.specs.Words.{word_at}
use Rattle.wire.specs.Lists.{any_of}
use Rattle.dictionary.specs.Internal.Walk.{between}
use Rattle.dictionary.proofs.Places.{scan-stuck, scan-found, scan-next, scan-end}
use Rattle.dictionary.proofs.check.taken.Goals as goal

pub returns-then-n-eq0 : goal.returns-then-n-eq0
returns-then-n-eq0 g c = λ t decides.
    scan-stuck t c.args.d.now c.loop-q.q c.args.p (sym c.word_within-n.ensures.0 ∙ c.if-n-eq0.true) ∙ sym (c.loop-q.invariant t decides)

pub returns-then-same : goal.returns-then-same
returns-then-same g c = λ t decides.
    let long : 0 < word_at c.args.d.now c.loop-q.q = omega (arith, c.word_within-n.ensures.0) in
    let same : t c.loop-q.q ≡ true = sym (decides c.loop-q.q c.same.result c.same.ensures) ∙ c.if-same.true in
    scan-found t c.args.d.now c.loop-q.q c.args.p c.loop-q-test.true long same ∙ sym (c.loop-q.invariant t decides)

pub loop-q-preserved : goal.loop-q-preserved
loop-q-preserved g c = λ t decides.
    let long : 0 < word_at c.args.d.now c.loop-q.q = omega (arith, c.word_within-n.ensures.0) in
    let other : t c.loop-q.q ≡ false = sym (decides c.loop-q.q c.same.result c.same.ensures) ∙ c.if-same.false in
    c.loop-q.invariant t decides ∙ scan-next t c.args.d.now c.loop-q.q c.args.p c.loop-q-test.true long other ∙
    ap (λ n. any_of t (between c.args.d.now (c.loop-q.q + n) c.args.p)) (sym c.word_within-n.ensures.0)

pub returns : goal.returns
returns g c = λ t decides. scan-end t c.args.d.now c.loop-q.q c.args.p c.loop-q-test.false ∙ sym (c.loop-q.invariant t decides)
