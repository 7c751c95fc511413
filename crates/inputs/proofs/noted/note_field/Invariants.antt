-- `inputs::noted::note_field` meets its contract. Assumes nothing.
use Rattle.inputs.specs.Noted.{StaysNoted}
use Rattle.inputs.proofs.noted.note_field.Given as goal

abbrev pub invariant-loop-row : goal.invariant-loop-row
invariant-loop-row l = StaysNoted l.d l.initial.fields l.fields
