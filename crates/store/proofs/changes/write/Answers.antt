-- `store::changes::write` meets its contract. Bytes, marks, then the count of ones. Assumes nothing.
use Rattle.store.proofs.Pastes.{length_over}
use Rattle.store.proofs.Written.{is-written}
use native.Mathlib.Omega.{arith}
use Rattle.store.proofs.changes.write.Goals as goal

pub copy-requires : goal.copy-requires
copy-requires c = omega (arith, c.requires.1.0, c.requires.1.1.0)

pub mark-requires : goal.mark-requires
mark-requires c = (c.requires.0, rw (c.copy.ensures, length_over c.args.b.now c.args.p c.args.x.now (omega (arith, c.requires.1.0, c.requires.1.1.0))) c.requires.1.1.0)

pub returns : goal.returns
returns c = is-written c.args.l c.args.table.now c.args.b.now c.args.p c.args.x.now _ _ c.copy.ensures c.mark.ensures
    c.count_ones.ensures.0 c.count_ones.ensures.1
