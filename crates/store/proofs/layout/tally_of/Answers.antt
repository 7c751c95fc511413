use Rattle.store.proofs.Layouts.{tally-begin, tally-next, tally-wrong, tally-end, kept-inside}
use mathlib.Core.Path.{sym, ◌∙◌}
use native.Mathlib.Omega.{arith}
use Rattle.store.proofs.layout.tally_of.Goals as goal

pub loop-init : goal.loop-init
loop-init c = (omega arith, (omega arith, tally-begin c.args.l c.args.table.now c.args.s.now c.args.count))

pub returns-then-not-is_kept : goal.returns-then-not-is_kept
returns-then-not-is_kept c = tally-wrong c.args.l c.args.table.now c.args.s.now c.args.count c.loop.p c.loop.sum c.loop.counter c.loop-test.true c.loop.invariant.1.1
    (sym c.is_kept.ensures ∙ c.if-not-is_kept.true)

pub overflow_add-p : goal.overflow_add-p
overflow_add-p c = omega (arith, c.loop.invariant.0, c.requires.0)

pub count_ones-sum-requires : goal.count_ones-sum-requires
count_ones-sum-requires c = let inside = kept-inside c.args.l c.args.table.now c.args.s.now c.loop.p (sym c.is_kept.ensures ∙ c.if-not-is_kept.false) in
    (omega (arith, inside, c.requires.1.bits_inside), c.requires.0)

pub overflow_add-sum : goal.overflow_add-sum
overflow_add-sum c = let inside = kept-inside c.args.l c.args.table.now c.args.s.now c.loop.p (sym c.is_kept.ensures ∙ c.if-not-is_kept.false) in
    omega (arith, c.loop.invariant.1.0, c.count_ones-sum.ensures.1, inside, c.requires.1.bits_fewer, c.requires.0)

pub overflow_add-p-in-loop : goal.overflow_add-p-in-loop
overflow_add-p-in-loop c = let inside = kept-inside c.args.l c.args.table.now c.args.s.now c.loop.p (sym c.is_kept.ensures ∙ c.if-not-is_kept.false) in
    omega (arith, inside, c.requires.0)

pub loop-preserved : goal.loop-preserved
loop-preserved c = let kept = sym c.is_kept.ensures ∙ c.if-not-is_kept.false in
    let inside = kept-inside c.args.l c.args.table.now c.args.s.now c.loop.p kept in (
      omega (arith, inside),
      (
        omega (arith, c.loop.invariant.1.0, c.count_ones-sum.ensures.1, c.requires.1.bits_fewer),
        tally-next c.args.l c.args.table.now c.args.s.now c.args.count c.loop.p c.loop.sum c.loop.counter c.count_ones-sum.result c.loop-test.true c.loop.invariant.1.1 kept c.count_ones-sum.ensures.0,
      ),
    )

pub returns : goal.returns
returns c = tally-end c.args.l c.args.table.now c.args.s.now c.args.count c.loop.p c.loop.sum c.loop.counter c.loop-test.false c.loop.invariant.1.1
