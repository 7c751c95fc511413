use mathlib.Core.Path.{sym, ap, ◌∙◌}
use Rattle.wire.specs.Lists.{find}
use Rattle.dictionary.specs.Internal.Walk.{has_name}
use Rattle.wire.specs.Options.{option_of}
use Rattle.dictionary.proofs.Fields.{inside}
use Rattle.dictionary.proofs.FieldSearches.{fields-after, less-left, found-end, found_here, found-next}
use Rattle.dictionary.proofs.field.named_entry.Goals as goal

pub loop-relation-init : goal.loop-relation-init
loop-relation-init c = ap (find (has_name c.args.d.now c.args.name.now)) (fields-after c.args.d.now c.args.relation c.next_place-q.ensures)

pub has_name-requires : goal.has_name-requires
has_name-requires c = inside c.args.d.now c.loop-relation.q (sym c.is_field.ensures ∙ c.loop-relation-test.true)

pub returns-then-has_name : goal.returns-then-has_name
returns-then-has_name c = found_here c.args.d.now c.args.name.now c.loop-relation.q (sym c.is_field.ensures ∙ c.loop-relation-test.true)
    (sym c.has_name.ensures ∙ c.if-has_name.true) ∙
    ap option_of (sym c.loop-relation.invariant)

pub loop-relation-smaller : goal.loop-relation-smaller
loop-relation-smaller c = less-left c.args.d.now c.loop-relation.q c.next_place-q-in-loop-relation.ensures (sym c.is_field.ensures ∙ c.loop-relation-test.true)

pub loop-relation-preserved : goal.loop-relation-preserved
loop-relation-preserved c = c.loop-relation.invariant ∙
    found-next c.args.d.now c.args.name.now c.loop-relation.q c.next_place-q-in-loop-relation.ensures (sym c.is_field.ensures ∙ c.loop-relation-test.true)
    (sym c.has_name.ensures ∙ c.if-has_name.false)

pub returns : goal.returns
returns c = found-end c.args.d.now c.args.name.now c.loop-relation.q (sym c.is_field.ensures ∙ c.loop-relation-test.false) ∙ ap option_of (sym c.loop-relation.invariant)
