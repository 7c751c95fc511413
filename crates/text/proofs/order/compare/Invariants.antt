-- The order is that of what stands from i on.
use Prim.Native.Nat.{◌-◌}
use mathlib.Core.Path.{◌≡◌}
use Rattle.text.specs.Tests.{order_from, text_order}
use Rattle.text.proofs.order.compare.Given as goal

abbrev pub invariant-loop-i : goal.invariant-loop-i
invariant-loop-i l = text_order l.a l.b ≡ order_from (l.i-end - l.i) l.i l.a l.b
