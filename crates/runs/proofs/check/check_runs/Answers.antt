use Prim.Native.Nat.{◌-◌}
use borrow.Author.Rules.{rules}
use Rattle.runs.proofs.Checks.{check-start, check-wrong, check-next, check-more, check-due}
use Rattle.runs.proofs.check.check_runs.Goals as goal

pub loop-row-init : goal.loop-row-init
loop-row-init c = check-start _ _ _ _ _

pub returns-then-not-proper_run : goal.returns-then-not-proper_run
returns-then-not-proper_run c = rw (← c.min-rows.ensures)
    (check-wrong _ _ _ _ _ _ _ _ c.loop-row.invariant c.loop-row-test.true _ c.number_at-relation.ensures _ c.proper_run.ensures (search rules))

pub loop-row-preserved : goal.loop-row-preserved
loop-row-preserved c = rw (c.put-in-loop-row.ensures, c.put.ensures)
    (check-next _ _ _ _ _ _ _ _ c.loop-row.invariant c.loop-row-test.true _ c.number_at-relation.ensures _ c.proper_run.ensures (search rules)
    c.word_at-bytes.result c.records_held.result c.word_at-bytes.ensures.0 c.word_at-bytes.ensures.1 c.records_held.ensures.0)

pub returns-then-p-runs : goal.returns-then-p-runs
returns-then-p-runs c = rw (← c.min-rows.ensures) (check-more _ _ _ _ _ _ _ _ c.loop-row.invariant c.loop-row-test.false c.if-p-runs.true)

pub returns : goal.returns
returns c = rw (← c.min-rows.ensures) (check-due _ _ _ _ _ _ _ _ c.loop-row.invariant c.loop-row-test.false c.if-p-runs.false)
