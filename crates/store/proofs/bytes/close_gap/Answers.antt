-- `store::bytes::close_gap` meets its contract. A move, then zeros. Assumes nothing.
use mathlib.Core.Path.{refl}
use Rattle.store.proofs.Pastes.{gap-closed}
use Rattle.store.proofs.bytes.close_gap.Goals as goal

pub returns : goal.returns
returns c = rw (c.clear.ensures, c.move_down.ensures) (gap-closed c.args.b.now c.args.at c.args.n _ c.requires refl)
