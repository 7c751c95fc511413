-- `inputs::noted::note_fields` meets its contract. Assumes nothing.
use Rattle.inputs.specs.Noted.{StaysNoted}
use Rattle.inputs.proofs.noted.note_fields.Given as goal

abbrev pub invariant-loop-p : goal.invariant-loop-p
invariant-loop-p l = StaysNoted l.d l.initial.fields l.fields
