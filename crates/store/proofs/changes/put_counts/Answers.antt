-- `store::changes::put_counts` meets its contract. By its callees. Assumes nothing.
use Rattle.store.proofs.Written.{counts-over}
use Rattle.store.proofs.changes.put_counts.Goals as goal

pub returns : goal.returns
returns c = rw (c.put_word-2.ensures, c.put_word.ensures) (counts-over c.args.b.now c.args.count c.args.missing c.requires.0)
