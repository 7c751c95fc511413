use mathlib.Core.Path.{◌≡◌, sym, ap, ◌∙◌}
use mathlib.Core.Bool.{true}
use native.Mathlib.Omega.{arith}
use Rattle.dictionary.specs.Internal.Walk.{is_field}
use Rattle.wire.specs.Options.{option_of}
use Rattle.dictionary.proofs.Fields.{inside, further}
use Rattle.dictionary.proofs.FieldSearches.{less-left, named_start, named_end, named_here, named-next}
use Rattle.dictionary.proofs.field.field_named.Goals as goal

pub loop-relation-init : goal.loop-relation-init
loop-relation-init c = (omega arith, named_start c.args.d.now c.args.name.now c.args.relation c.next_place-q.ensures)

pub has_name-requires : goal.has_name-requires
has_name-requires c = inside c.args.d.now c.loop-relation.q (sym c.is_field.ensures ∙ c.loop-relation-test.true)

pub returns-then-has_name : goal.returns-then-has_name
returns-then-has_name c = named_here c.args.d.now c.args.name.now c.loop-relation.q c.loop-relation.i (sym c.is_field.ensures ∙ c.loop-relation-test.true)
    (sym c.has_name.ensures ∙ c.if-has_name.true) ∙
    ap option_of (sym c.loop-relation.invariant.1)

pub overflow_add-i : goal.overflow_add-i
overflow_add-i c = omega (arith, inside c.args.d.now c.loop-relation.q (sym c.is_field.ensures ∙ c.loop-relation-test.true), c.loop-relation.invariant.0)

pub loop-relation-smaller : goal.loop-relation-smaller
loop-relation-smaller c = less-left c.args.d.now c.loop-relation.q c.next_place-q-in-loop-relation.ensures (sym c.is_field.ensures ∙ c.loop-relation-test.true)

pub loop-relation-preserved : goal.loop-relation-preserved
loop-relation-preserved c = let e : is_field c.args.d.now c.loop-relation.q ≡ true = sym c.is_field.ensures ∙ c.loop-relation-test.true in (
  omega (arith, further c.args.d.now c.loop-relation.q e, c.next_place-q-in-loop-relation.ensures, c.loop-relation.invariant.0),
  c.loop-relation.invariant.1 ∙
      named-next c.args.d.now c.args.name.now c.loop-relation.q c.loop-relation.i c.next_place-q-in-loop-relation.ensures e
      (sym c.has_name.ensures ∙ c.if-has_name.false),
)

pub returns : goal.returns
returns c = named_end c.args.d.now c.args.name.now c.loop-relation.q c.loop-relation.i (sym c.is_field.ensures ∙ c.loop-relation-test.false) ∙
    ap option_of (sym c.loop-relation.invariant.1)
