use Prim.Native.Nat.{◌-◌, ◌*◌, ◌≤◌}
use mathlib.Core.Path.{◌≡◌}
use lib.ListN.{length, drop, set}
use lib.Seq.{sets}
use Rattle.explanation.specs.Internal.Noting.{unpacked}
use Rattle.explanation.proofs.list.list_rows.Given as goal

abbrev pub invariant-loop-i : goal.invariant-loop-i
invariant-loop-i l =
    (l.i ≤ length l.noted) × (length l.tests ≡ length l.initial.tests) × (sets l.initial.tests 0 (unpacked l.noted) ≡ sets l.tests (2 * l.i) (unpacked (drop l.i l.noted)))
