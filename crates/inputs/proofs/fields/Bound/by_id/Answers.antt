-- `inputs::fields::Bound::by_id` meets its contract. Assumes nothing.
use mathlib.Core.Path.{sym, ◌∙◌}
use Rattle.dictionary.specs.Naming.{numbered}
use Rattle.surroundings.specs.Bindings.{cell, bytes_bound}
use Rattle.inputs.proofs.FieldLaws.{field-numbered, row-bound, by_row, no_row}
use Rattle.inputs.proofs.fields.Bound.by_id.Goals as goal

pub field_at-requires : goal.field_at-requires
field_at-requires c = row-bound c.args.self.bindings.now c.args.context.0 c.in-Some.row (sym c.in-Some.is ∙ c.binding_of.ensures)

pub returns : goal.returns
returns c m e f =
    let t = c.args.self.bindings.now in
    let row = c.in-Some.row in
    c.field_at.ensures m e f ∙
    field-numbered c.args.self.dictionary.now (cell t row 2) (bytes_bound t row c.args.self.records.now c.args.self.runs.now) (cell t row 3) c.args.id ∙
    by_row c.args.self.dictionary.now t c.args.self.records.now c.args.self.runs.now c.args.context.0 (numbered c.args.id) row
    (sym c.in-Some.is ∙ c.binding_of.ensures)

pub returns-in_default : goal.returns-in_default
returns-in_default c m e f = no_row c.args.self.dictionary.now c.args.self.bindings.now c.args.self.records.now c.args.self.runs.now c.args.context.0 (numbered c.args.id)
    (sym c.in_default.is ∙ c.binding_of.ensures)
