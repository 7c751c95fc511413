-- `input::put_all` meets its contract. By the law of one byte, `byte-turn`. Assumes nothing.
use Prim.Native.Nat.{◌+◌}
use mathlib.Core.Path.{◌≡◌}
use lib.ListN.{drop}
use lib.Seq.{sets}
use Rattle.input.proofs.put_all.Given as goal

abbrev pub invariant-loop-i : goal.invariant-loop-i
invariant-loop-i l = sets l.initial.lent l.at l.bytes ≡ sets l.lent (l.at + l.i) (drop l.i l.bytes)
