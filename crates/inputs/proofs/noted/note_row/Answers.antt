-- `inputs::noted::note_row` meets its contract. Assumes nothing.
use native.Mathlib.Omega.{arith}
use Rattle.records.proofs.Locations.{located-small}
use Rattle.inputs.proofs.NotedLaws.{row_small, noted-by}
use Rattle.inputs.proofs.noted.note_row.Goals as goal

pub overflow_cast-l-then-l-le-MAX_DICTIONARY_BYTES : goal.overflow_cast-l-then-l-le-MAX_DICTIONARY_BYTES
overflow_cast-l-then-l-le-MAX_DICTIONARY_BYTES c =
    let located = rw c.in-Some.is at c.locate.ensures in
    omega (arith, located-small c.args.d.now c.args.relation c.args.i c.in-Some.l located)

pub put_row-requires : goal.put_row-requires
put_row-requires c = omega (arith, c.row_place-row.ensures, row_small c.args.relation c.args.i)

pub returns-then-l-le-MAX_DICTIONARY_BYTES : goal.returns-then-l-le-MAX_DICTIONARY_BYTES
returns-then-l-le-MAX_DICTIONARY_BYTES c =
    let located = rw c.in-Some.is at c.locate.ensures in
    noted-by c.args.d.now c.args.fields.now c.put_row.new.fields c.args.relation c.args.i c.row_place-row.result
    c.in-Some.l located c.row_place-row.ensures c.put_row.ensures
