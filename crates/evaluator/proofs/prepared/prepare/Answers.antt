use mathlib.Core.Path.{sym, ◌∙◌}
use native.Mathlib.Omega.{arith}
use lib.Seq.{length-take-le}
use Rattle.evaluator.specs.Prepared.{given_in}
use Rattle.evaluator.proofs.PreparedLaws.{laid-ready, numbers_fit, relations-fit, wrong-records, rows-prepared}
use Rattle.evaluator.proofs.prepared.prepare.Goals as goal

pub slice_bounds-relations-end : goal.slice_bounds-relations-end
slice_bounds-relations-end c =
    relations-fit (laid-ready (given_in c.args.x c.args.at) (c.if-x-total.false ∙ c.image_bytes-total.ensures) c.in_scope-count.ensures (omega arith) (omega arith))

pub slice_bounds-records-end : goal.slice_bounds-records-end
slice_bounds-records-end c =
    sym (length-take-le _ _ (relations-fit (laid-ready (given_in c.args.x c.args.at) (c.if-x-total.false ∙ c.image_bytes-total.ensures) c.in_scope-count.ensures (omega arith) (omega arith))))

pub slice_bounds-numbers-end : goal.slice_bounds-numbers-end
slice_bounds-numbers-end c =
    numbers_fit (laid-ready (given_in c.args.x c.args.at) (c.if-x-total.false ∙ c.image_bytes-total.ensures) c.in_scope-count.ensures (omega arith) (omega arith))

pub slice_bounds-lay_rows-end : goal.slice_bounds-lay_rows-end
slice_bounds-lay_rows-end c =
    sym (length-take-le _ _ (numbers_fit (laid-ready (given_in c.args.x c.args.at) (c.if-x-total.false ∙ c.image_bytes-total.ensures) c.in_scope-count.ensures (omega arith) (omega arith))))

pub slice_bounds-relations-end-in-Ok : goal.slice_bounds-relations-end-in-Ok
slice_bounds-relations-end-in-Ok c =
    relations-fit (laid-ready (given_in c.args.x c.args.at) (c.if-x-total.false ∙ c.image_bytes-total.ensures) c.in_scope-count.ensures (omega arith) (omega arith))

pub slice_bounds-lay_rows-end-in-Ok : goal.slice_bounds-lay_rows-end-in-Ok
slice_bounds-lay_rows-end-in-Ok c =
    sym (length-take-le _ _ (relations-fit (laid-ready (given_in c.args.x c.args.at) (c.if-x-total.false ∙ c.image_bytes-total.ensures) c.in_scope-count.ensures (omega arith) (omega arith))))

pub returns-in-Ok : goal.returns-in-Ok
returns-in-Ok c =
    rows-prepared (laid-ready (given_in c.args.x c.args.at) (c.if-x-total.false ∙ c.image_bytes-total.ensures) c.in_scope-count.ensures (omega arith) (omega arith))
    c.records.result c.records.ensures _ c.lay_rows.result c.in-Ok.is c.lay_rows.ensures

pub returns-in-Err : goal.returns-in-Err
returns-in-Err c =
    rw c.new-in-Err.ensures
    (wrong-records (laid-ready (given_in c.args.x c.args.at) (c.if-x-total.false ∙ c.image_bytes-total.ensures) c.in_scope-count.ensures (omega arith) (omega arith))
    c.records.result c.records.ensures _ _ c.in-Err.is)
