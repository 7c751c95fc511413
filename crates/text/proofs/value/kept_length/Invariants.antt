-- As many bytes are left of the first k as of all.
use mathlib.Core.Path.{◌≡◌}
use Rattle.text.specs.Value.{kept}
use Rattle.text.proofs.value.kept_length.Given as goal

abbrev pub invariant-loop-k : goal.invariant-loop-k
invariant-loop-k l = kept l.s l.p l.n ≡ kept l.s l.p l.k
