-- `store::changes::power` meets its contract. Computed. Assumes nothing.
use Rattle.store.proofs.Bits.{power-is}
use Rattle.store.proofs.changes.power.Goals as goal

pub returns : goal.returns
returns c = power-is c.args.k c.requires
