use Rattle.dictionary.proofs.Fields.{inside, further}
use Rattle.store.proofs.Layouts.{lay-begin, lay-inside, lay-next, lay-end, type_is}
use Rattle.store.specs.Internal.Layouts.{reading_place}
use lib.ListN.{length-set}
use mathlib.Core.Path.{refl, sym, ap, ◌∙◌}
use native.Mathlib.Omega.{arith}
use Rattle.store.proofs.layout.lay_out.Goals as goal

pub overflow_add-at : goal.overflow_add-at
overflow_add-at c = omega (arith, c.missing_bytes-at.ensures)

pub loop-table-init : goal.loop-table-init
loop-table-init c = (
  refl,
  lay-begin c.args.d.now c.args.relation c.args.table.now c.next_place-q.result c.field_count.result c.missing_bytes-at.result c.next_place-q.ensures
      c.field_count.ensures c.missing_bytes-at.ensures,
)

pub overflow_cast-at : goal.overflow_cast-at
overflow_cast-at c = omega (arith, c.loop-table.invariant.1.all-long, c.requires)

pub overflow_add-at-in-loop-table : goal.overflow_add-at-in-loop-table
overflow_add-at-in-loop-table c = let e = sym c.is_field.ensures ∙ c.loop-table-test.true in
    omega (arith, lay-inside c.args.d.now c.args.relation c.args.table.now c.loop-table.table c.loop-table.q c.loop-table.at c.loop-table.i c.loop-table.invariant.1 c.held_bytes-at.result e c.held_bytes-at.ensures, c.requires)

pub overflow_add-i : goal.overflow_add-i
overflow_add-i c = let e = sym c.is_field.ensures ∙ c.loop-table-test.true in
    omega (arith, c.loop-table.invariant.1.few, inside c.args.d.now c.loop-table.q e)

pub loop-table-smaller : goal.loop-table-smaller
loop-table-smaller c = let e = sym c.is_field.ensures ∙ c.loop-table-test.true in
    omega (arith, further c.args.d.now c.loop-table.q e, inside c.args.d.now c.loop-table.q e, c.next_place-q-in-loop-table.ensures)

pub loop-table-preserved : goal.loop-table-preserved
loop-table-preserved c = let e = sym c.is_field.ensures ∙ c.loop-table-test.true in
    let place = c.reading_place.ensures ∙ ap (λ z. reading_place z c.loop-table.at) (c.type_at.ensures ∙ type_is c.args.d.now c.loop-table.q) in
    rw (c.next_place-q-in-loop-table.ensures, c.put.ensures) (
      length-set c.loop-table.table c.loop-table.i c.reading_place.result ∙ c.loop-table.invariant.0,
      lay-next c.args.d.now c.args.relation c.args.table.now c.loop-table.table c.loop-table.q c.loop-table.at c.loop-table.i c.loop-table.invariant.1 c.reading_place.result c.held_bytes-at.result e place c.held_bytes-at.ensures,
    )

pub shape_of-table : goal.shape_of-table
shape_of-table c = c.loop-table.invariant.0

pub returns : goal.returns
returns c = lay-end c.args.d.now c.args.relation c.args.table.now c.loop-table.table c.loop-table.q c.loop-table.at c.loop-table.i c.loop-table.invariant.1 (sym c.is_field.ensures ∙ c.loop-table-test.false)
