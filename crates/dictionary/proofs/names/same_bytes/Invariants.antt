use mathlib.Core.Path.{◌≡◌}
use lib.ListN.{length, take}
use Rattle.wire.specs.Lists.{same_bytes}
use Rattle.dictionary.proofs.names.same_bytes.Given as goal

abbrev pub invariant-loop-i : goal.invariant-loop-i
invariant-loop-i l = (length l.a ≡ length l.b) × (same_bytes l.a l.b ≡ same_bytes (take l.i l.a) (take l.i l.b))
