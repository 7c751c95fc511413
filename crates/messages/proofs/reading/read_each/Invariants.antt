-- `messages::reading::read_each` meets its contract. One message after another, each beside those before it. Assumes nothing.
use Prim.Native.Nat.{◌-◌}
use Rattle.wire.specs.Limits.{max_messages}
use Rattle.messages.proofs.Readings.{Reached}
use Rattle.messages.proofs.reading.read_each.Given as goal

abbrev pub invariant-loop : goal.invariant-loop
invariant-loop l = Reached l.v l.request l.initial.at l.at (max_messages - l.counter) l.initial.table l.table l.around
