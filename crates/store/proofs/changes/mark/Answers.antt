use Rattle.store.proofs.Written.{no-marks, marks-next, bit-inside}
use Rattle.store.specs.Internal.Changes.{bit_set_if, marked_with}
use mathlib.Core.Path.{◌≡◌, refl, sym, ap, ◌∙◌}
use native.Mathlib.Omega.{arith}
use Rattle.store.proofs.changes.mark.Goals as goal
use Rattle.store.proofs.changes.mark.Goals.{then-is_lost, else-is_lost}

pub loop-i-init : goal.loop-i-init
loop-i-init c = (refl, no-marks c.args.table.now c.args.x.now c.args.b.now c.args.p)

pub set_bit-requires : goal.set_bit-requires
set_bit-requires c = bit-inside c.args.l c.requires.0 c.args.p c.loop-i.i _ c.loop-i-test.true (omega (arith, c.requires.1, c.loop-i.invariant.0))

pub loop-i-preserved : goal.loop-i-preserved
loop-i-preserved c =
    let marked : c.if-is_lost.b ≡ bit_set_if c.is_lost.result c.loop-i.b c.args.p c.loop-i.i =
    elim c.if-is_lost.branch [
      | then-is_lost w ↦ w.b-is ∙ w.set_bit.ensures ∙ ap (λ b. bit_set_if b c.loop-i.b c.args.p c.loop-i.i) (sym w.if-is_lost.true)
      | else-is_lost w ↦ w.b-is ∙ ap (λ b. bit_set_if b c.loop-i.b c.args.p c.loop-i.i) (sym w.if-is_lost.false)
    ] in (
      c.if-is_lost.auto.b ∙ c.loop-i.invariant.0,
      marked ∙ marks-next c.args.table.now c.args.x.now c.args.b.now c.args.p c.loop-i.i c.is_lost.result c.loop-i.b c.loop-i.invariant.1 c.is_lost.ensures,
    )

pub returns : goal.returns
returns c = let e : c.loop-i.i ≡ c.args.l.fields = omega (arith, c.loop-i.auto.i-end, c.loop-i-test.false) in
    c.loop-i.invariant.1 ∙ ap (marked_with c.args.table.now c.args.x.now c.args.b.now c.args.p) e
