use Prim.Native.Nat.{◌-◌}
use Rattle.grammar.specs.Demands.{Octets}
use Rattle.openings.specs.Openings.{Prepared}
use Rattle.openings.proofs.OpenLaws.{Opening}
use Rattle.openings.proofs.opening.read_streams.Given as goal

abbrev pub invariant-loop : goal.invariant-loop
invariant-loop l =
    Octets l.request ×
    (Prepared l.request l.dictionary l.initial.below l.initial.at →
    Opening l.opener l.request l.dictionary l.initial.contexts l.initial.below l.initial.at l.n l.contexts l.below l.at (l.n - l.counter))
