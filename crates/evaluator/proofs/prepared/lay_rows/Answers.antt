use Rattle.evaluator.proofs.BoundLaws.{rows-laid, wrong-runs}
use Rattle.evaluator.proofs.prepared.lay_rows.Goals as goal

pub returns-in-Ok : goal.returns-in-Ok
returns-in-Ok c = rows-laid _ c.requires c.lay_contexts.ensures c.find_runs-all.ensures.0 c.find_runs-all.ensures.1 c.note_kinds.ensures
    c.check_runs.ensures c.in-Ok.is

pub returns-in-Err : goal.returns-in-Err
returns-in-Err c = rw c.new.ensures (wrong-runs _ c.requires c.lay_contexts.ensures c.find_runs-all.ensures.0 c.find_runs-all.ensures.1 c.note_kinds.ensures
    c.check_runs.ensures _ c.in-Err.is)
