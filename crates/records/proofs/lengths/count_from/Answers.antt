use Rattle.dictionary.proofs.Fields.{inside, further}
use Rattle.records.proofs.Offsets.{count-end, count_next}
use native.Mathlib.Omega.{arith}
use mathlib.Core.Path.{◌≡◌, sym, ap, ◌∙◌}
use lib.ListN.{length}
use mathlib.Core.Bool.{true, false}
use Rattle.dictionary.specs.Internal.Walk.{is_field, fields_from}
use Rattle.records.proofs.lengths.count_from.Goals as goal

pub loop-n-init : goal.loop-n-init
loop-n-init c = (omega arith, omega arith)

pub overflow_add-n : goal.overflow_add-n
overflow_add-n c = omega (arith, inside c.args.d.now c.loop-n.q (sym c.is_field.ensures ∙ c.loop-n-test.true))

pub loop-n-smaller : goal.loop-n-smaller
loop-n-smaller c = let d = c.args.d.now in
    let q = c.loop-n.q in
    let e : is_field d q ≡ true = sym c.is_field.ensures ∙ c.loop-n-test.true in
    omega (arith, inside d q e, further d q e, c.next_place-q.ensures)

pub loop-n-preserved : goal.loop-n-preserved
loop-n-preserved c = let d = c.args.d.now in
    let q = c.loop-n.q in
    let e : is_field d q ≡ true = sym c.is_field.ensures ∙ c.loop-n-test.true in (
      omega (arith, further d q e, c.next_place-q.ensures, c.loop-n.invariant.0),
      omega (arith, count_next d q e, ap (λ x. length (fields_from d x)) c.next_place-q.ensures, c.loop-n.invariant.1),
    )

pub returns : goal.returns
returns c = let d = c.args.d.now in
    let e : is_field d c.loop-n.q ≡ false = sym c.is_field.ensures ∙ c.loop-n-test.false in
    omega (arith, count-end d c.loop-n.q e, c.loop-n.invariant.1)
