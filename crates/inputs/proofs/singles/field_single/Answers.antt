-- `inputs::singles::field_single` meets its contract. Assumes nothing.
use mathlib.Core.Path.{◌∙◌}
use Rattle.dictionary.specs.Naming.{numbered}
use Rattle.surroundings.specs.Bindings.{cell, bytes_bound}
use Rattle.inputs.proofs.FieldLaws.{field-numbered, row-bound, by_row}
use Rattle.inputs.proofs.SingleLaws.{same-fetched}
use Rattle.inputs.proofs.singles.field_single.Goals as goal

pub field_at-requires : goal.field_at-requires
field_at-requires c = row-bound c.args.x.bindings.now c.args.context.0 c.in_ok-row.row c.in_ok-row.ensures

pub returns : goal.returns
returns c n =
    let d = c.args.x.dictionary.now in
    let t = c.args.x.bindings.now in
    let records = c.args.x.records.now in
    let runs = c.args.x.runs.now in
    let row = c.in_ok-row.row in
    let i = c.args.id in
    same-fetched c.field_at.result c.args.after
    (field-numbered d (cell t row 2) (bytes_bound t row records runs) (cell t row 3) i ∙
    by_row d t records runs c.args.context.0 (numbered i) row c.in_ok-row.ensures)
    (c.field_at.ensures n)
