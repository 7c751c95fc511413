use mathlib.Core.Path.{◌≡◌}
use mathlib.Core.Bool.{Bool}
use Prim.Native.Nat.{ℕ, ◌-◌}
use lib.ListN.{length}
use Rattle.dictionary.specs.Internal.Walk.{last_place}
use Rattle.dictionary.proofs.Searches.{left, back_of}
use Rattle.dictionary.proofs.lookup.find_relation.Given as goal

abbrev pub invariant-loop-q : goal.invariant-loop-q
invariant-loop-q g l = (t : ℕ → Bool) → ((q : ℕ) (b : Bool) → goal.F-post g l.wanted q b → b ≡ t q) → last_place l.d t ≡ left t l.d l.q (back_of l.found)

abbrev pub decreases-loop-q : goal.decreases-loop-q
decreases-loop-q g l = length l.d - l.q
