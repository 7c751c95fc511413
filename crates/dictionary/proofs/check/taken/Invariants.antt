use mathlib.Core.Path.{◌≡◌}
use mathlib.Core.Bool.{Bool}
use Prim.Native.Nat.{ℕ, ◌-◌}
use Rattle.wire.specs.Lists.{any_of}
use Rattle.dictionary.specs.Internal.Walk.{between}
use Rattle.dictionary.proofs.check.taken.Given as goal

abbrev pub invariant-loop-q : goal.invariant-loop-q
invariant-loop-q g l = (t : ℕ → Bool) → ((q : ℕ) (b : Bool) → goal.F-post g l.same q b → b ≡ t q) → any_of t (between l.d l.from l.p) ≡ any_of t (between l.d l.q l.p)

abbrev pub decreases-loop-q : goal.decreases-loop-q
decreases-loop-q g l = l.p - l.q
