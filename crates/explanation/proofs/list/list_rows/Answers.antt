use Prim.Native.Nat.{◌+◌, ◌-◌, ◌*◌, ◌/◌, ◌%◌, ◌≤◌}
use mathlib.Core.Path.{refl, sym, ap, ◌∙◌}
use native.Mathlib.Omega.{arith}
use lib.ListN.{length, get_or, drop, set, length-set}
use lib.Seq.{sets}
use Rattle.explanation.specs.Internal.Noting.{unpacked}
use Rattle.explanation.proofs.RowLaws.{rows-turn, rows_end, too_few, all_listed}
use Rattle.explanation.proofs.list.list_rows.Goals as goal

pub returns-then-tests-noted : goal.returns-then-tests-noted
returns-then-tests-noted c = too_few _ _ c.if-tests-noted.true c.new.ensures

pub loop-i-init : goal.loop-i-init
loop-i-init c = (omega arith, refl, refl)

pub loop-i-preserved : goal.loop-i-preserved
loop-i-preserved c = let rows = c.args.noted.now in
    let row = get_or rows c.loop-i.i 0 in
    let both = c.put-in-loop-i.ensures ∙ ap (λ z. set z (2 * c.loop-i.i + 1) (row % 4)) c.put.ensures in (
      omega (arith, c.loop-i-test.true),
      ap length both ∙ length-set (set c.loop-i.tests (2 * c.loop-i.i) (row / 4)) (2 * c.loop-i.i + 1) (row % 4)
          ∙ length-set c.loop-i.tests (2 * c.loop-i.i) (row / 4) ∙ c.loop-i.invariant.1,
      c.loop-i.invariant.2 ∙ rows-turn rows c.loop-i.tests c.loop-i.i c.loop-i-test.true
          ∙ ap (λ y. sets y (2 * (c.loop-i.i + 1)) (unpacked (drop (c.loop-i.i + 1) rows))) (sym both),
    )

pub shape_of-tests : goal.shape_of-tests
shape_of-tests c = c.loop-i.invariant.1

pub returns : goal.returns
returns c = let rows = c.args.noted.now in
    let all : length rows ≤ c.loop-i.i = omega (arith, c.loop-i-test.false) in
    all_listed rows c.args.tests.now c.loop-i.tests (omega (arith, c.if-tests-noted.false)) (sym (c.loop-i.invariant.2 ∙ rows_end rows c.loop-i.tests c.loop-i.i all))
