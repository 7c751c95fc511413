-- `inputs::fields::Bound::by_name` meets its contract. Assumes nothing.
use mathlib.Core.Path.{sym, ◌∙◌}
use Rattle.dictionary.specs.Naming.{named}
use Rattle.inputs.proofs.FieldLaws.{row-bound, by_row, no_row}
use Rattle.inputs.proofs.fields.Bound.by_name.Goals as goal

pub named_at-requires : goal.named_at-requires
named_at-requires c = row-bound c.args.self.bindings.now c.args.context.0 c.in-Some.row (sym c.in-Some.is ∙ c.binding_of.ensures)

pub returns : goal.returns
returns c m e f = c.named_at.ensures m e f ∙
    by_row c.args.self.dictionary.now c.args.self.bindings.now c.args.self.records.now c.args.self.runs.now c.args.context.0 (named c.args.name.now)
    c.in-Some.row (sym c.in-Some.is ∙ c.binding_of.ensures)

pub returns-in_default : goal.returns-in_default
returns-in_default c m e f = no_row c.args.self.dictionary.now c.args.self.bindings.now c.args.self.records.now c.args.self.runs.now c.args.context.0 (named c.args.name.now)
    (sym c.in_default.is ∙ c.binding_of.ensures)
