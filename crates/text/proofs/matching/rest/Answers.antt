-- `rest` meets its contract. Assumes nothing.
use native.Mathlib.Omega.{arith}
use Prim.Native.Nat.{◌-◌}
use lib.ListN.{length, drop, length-drop}
use lib.Seq.{take_all}
use Rattle.text.proofs.matching.rest.Goals as goal

pub returns : goal.returns
returns c = let s = c.args.s.now in take_all (length s - 1) (drop 1 s) (simp length-drop (omega arith))
