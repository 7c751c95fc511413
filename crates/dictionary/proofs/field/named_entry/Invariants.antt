-- `dictionary::field::named_entry` meets its contract. Field by field. Assumes nothing.
use mathlib.Core.Path.{◌≡◌}
use Prim.Native.Nat.{◌-◌}
use lib.ListN.{length}
use Rattle.wire.specs.Lists.{find}
use Rattle.dictionary.specs.Internal.Walk.{has_name, fields_from, fields_of}
use Rattle.dictionary.proofs.field.named_entry.Given as goal

abbrev pub invariant-loop-relation : goal.invariant-loop-relation
invariant-loop-relation l = find (has_name l.d l.name) (fields_of l.d l.relation) ≡ find (has_name l.d l.name) (fields_from l.d l.q)

abbrev pub decreases-loop-relation : goal.decreases-loop-relation
decreases-loop-relation l = length l.d - l.q
