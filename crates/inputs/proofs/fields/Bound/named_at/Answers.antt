-- `inputs::fields::Bound::named_at` meets its contract. Assumes nothing.
use Prim.Native.Nat.{ℕ}
use mathlib.Core.Path.{sym, ap, ◌∙◌}
use Rattle.wire.specs.Options.{option_of}
use Rattle.dictionary.specs.Internal.Walk.{relation_at}
use Rattle.dictionary.specs.Naming.{named, field_of}
use Rattle.surroundings.specs.Bindings.{cell}
use Rattle.inputs.specs.Answers.{row_field}
use Rattle.inputs.proofs.FieldLaws.{field_found, field-unknown}
use Rattle.inputs.proofs.fields.Bound.named_at.Goals as goal

pub returns : goal.returns
returns c m e f =
    let d = c.args.self.dictionary.now in
    let t = c.args.self.bindings.now in
    let name = named c.args.name.now in
    let found = c.field_named.ensures ∙ ap (λ (z : ℕ). option_of (field_of (relation_at d z) name)) c.number_at-relation.ensures in
    c.field_at.ensures m e f ∙
    field_found (field_of (relation_at d (cell t c.args.row 2)) name) (row_field d t c.args.self.records.now c.args.self.runs.now c.args.row)
    c.in-Some.i (sym c.in-Some.is ∙ found)

pub returns-in_default : goal.returns-in_default
returns-in_default c m e f =
    let d = c.args.self.dictionary.now in
    let t = c.args.self.bindings.now in
    let name = named c.args.name.now in
    let found = c.field_named.ensures ∙ ap (λ (z : ℕ). option_of (field_of (relation_at d z) name)) c.number_at-relation.ensures in
    field-unknown (field_of (relation_at d (cell t c.args.row 2)) name) (row_field d t c.args.self.records.now c.args.self.runs.now c.args.row)
    (sym c.in_default.is ∙ found)
