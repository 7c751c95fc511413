-- `dictionary::field::field_entry` meets its contract. Field by field. Assumes nothing.
use mathlib.Core.Path.{◌≡◌}
use Prim.Native.Nat.{◌-◌}
use lib.ListN.{length, get_elem?}
use Rattle.dictionary.specs.Internal.Walk.{fields_from, fields_of}
use Rattle.dictionary.proofs.field.field_entry.Given as goal

abbrev pub invariant-loop-relation : goal.invariant-loop-relation
invariant-loop-relation l = get_elem? (fields_of l.d l.relation) l.id ≡ get_elem? (fields_from l.d l.q) l.left

abbrev pub decreases-loop-relation : goal.decreases-loop-relation
decreases-loop-relation l = length l.d - l.q
