-- `store::layout::byte_ones` meets its contract. A byte has eight bits. Assumes nothing.
use lib.Count.{ones-le}
use mathlib.Core.Path.{refl}
use native.Mathlib.Omega.{arith}
use Rattle.store.proofs.layout.byte_ones.Goals as goal

pub overflow_cast-result : goal.overflow_cast-result
overflow_cast-result c = omega (arith, ones-le 8 c.args.x c.ranges.x.fits)

pub returns : goal.returns
returns c = (refl, ones-le 8 c.args.x c.ranges.x.fits)
