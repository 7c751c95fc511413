use native.Mathlib.Omega.{arith}
use mathlib.Core.Path.{sym, ap, ◌∙◌}
use Rattle.records.specs.Internal.Locations.{located_of}
use Rattle.records.proofs.Locations.{located-none, located_here, located-past, reached-few, reached-small}
use Rattle.records.proofs.lengths.locate.Goals as goal

pub returns-in_err-field : goal.returns-in_err-field
returns-in_err-field c = ap located_of c.from_residual.ensures ∙
    located-none c.args.d.now c.args.relation c.args.i c.next_place.ensures (ap located_of (sym c.in_err-field.was) ∙ c.reached.ensures)

pub overflow_add-fields : goal.overflow_add-fields
overflow_add-fields c =
    let few = reached-few c.args.d.now c.args.relation c.args.i c.next_place.ensures c.in_ok-field.field (ap located_of (sym c.in_ok-field.was) ∙ c.reached.ensures) in
    omega (arith, few, c.count_from.ensures)

pub overflow_add-offset-2 : goal.overflow_add-offset-2
overflow_add-offset-2 c =
    let is = ap located_of (sym c.in_ok-field.was) ∙ c.reached.ensures in
    let few = reached-few c.args.d.now c.args.relation c.args.i c.next_place.ensures c.in_ok-field.field is in
    let small = reached-small c.args.d.now c.args.relation c.args.i c.next_place.ensures c.in_ok-field.field is in
    omega (arith, few, small, c.count_from.ensures, c.missing_bytes.ensures)

pub returns-then-offset-gt-MAX_RECORD_BYTES : goal.returns-then-offset-gt-MAX_RECORD_BYTES
returns-then-offset-gt-MAX_RECORD_BYTES c =
    located-past c.args.d.now c.args.relation c.args.i c.next_place.ensures c.in_ok-field.field (ap located_of (sym c.in_ok-field.was) ∙ c.reached.ensures)
    c.count_from.ensures c.missing_bytes.ensures c.if-offset-gt-MAX_RECORD_BYTES.true

pub returns : goal.returns
returns c =
    located_here c.args.d.now c.args.relation c.args.i c.next_place.ensures c.in_ok-field.field (ap located_of (sym c.in_ok-field.was) ∙ c.reached.ensures)
    c.count_from.ensures c.missing_bytes.ensures c.if-offset-gt-MAX_RECORD_BYTES.false
