-- `dictionary::field::field_named` meets its contract. Field by field. Assumes nothing.
use mathlib.Core.Path.{◌≡◌}
use Prim.Native.Nat.{◌≤◌, ◌-◌}
use lib.ListN.{length}
use Rattle.wire.specs.Lists.{index_of}
use Rattle.dictionary.specs.Naming.{named, field_of}
use Rattle.dictionary.specs.Internal.Walk.{has_name, fields_from, relation_at}
use Rattle.dictionary.proofs.FieldSearches.{passed}
use Rattle.dictionary.proofs.field.field_named.Given as goal

abbrev pub invariant-loop-relation : goal.invariant-loop-relation
invariant-loop-relation l =
    (l.i ≤ l.q) × (field_of (relation_at l.d l.relation) (named l.name) ≡ passed l.i (index_of (has_name l.d l.name) (fields_from l.d l.q)))

abbrev pub decreases-loop-relation : goal.decreases-loop-relation
decreases-loop-relation l = length l.d - l.q
