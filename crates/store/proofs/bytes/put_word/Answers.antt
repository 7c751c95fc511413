use native.Mathlib.Omega.{arith}
use Prim.Native.Nat.{◌%◌}
use lib.ListN.{length-set}
use Rattle.store.proofs.Pastes.{word_over}
use Rattle.store.proofs.bytes.put_word.Goals as goal

pub bounds-b-at-2 : goal.bounds-b-at-2
bounds-b-at-2 c = omega (arith, length-set c.args.b.now c.args.at (c.args.n % 256), c.requires.0)

pub returns : goal.returns
returns c = word_over c.args.b.now c.args.at c.args.n c.requires.0
