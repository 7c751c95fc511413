use mathlib.Core.Path.{sym, ap, ◌∙◌}
use lib.ListN.{get_elem?}
use Rattle.wire.specs.Options.{option_of}
use Rattle.dictionary.proofs.FieldSearches.{fields-after, less-left, entry-end, entry_here, entry_next}
use Rattle.dictionary.proofs.field.field_entry.Goals as goal

pub loop-relation-init : goal.loop-relation-init
loop-relation-init c = ap (λ l. get_elem? l c.args.id) (fields-after c.args.d.now c.args.relation c.next_place-q.ensures)

pub returns-then-left-eq0 : goal.returns-then-left-eq0
returns-then-left-eq0 c = entry_here c.args.d.now c.loop-relation.q c.loop-relation.left (sym c.is_field.ensures ∙ c.loop-relation-test.true) c.if-left-eq0.true ∙
    ap option_of (sym c.loop-relation.invariant)

pub loop-relation-smaller : goal.loop-relation-smaller
loop-relation-smaller c = less-left c.args.d.now c.loop-relation.q c.next_place-q-in-loop-relation.ensures (sym c.is_field.ensures ∙ c.loop-relation-test.true)

pub loop-relation-preserved : goal.loop-relation-preserved
loop-relation-preserved c = c.loop-relation.invariant ∙
    entry_next c.args.d.now c.loop-relation.q c.loop-relation.left c.next_place-q-in-loop-relation.ensures (sym c.is_field.ensures ∙ c.loop-relation-test.true) c.if-left-eq0.false

pub returns : goal.returns
returns c = entry-end c.args.d.now c.loop-relation.q c.loop-relation.left (sym c.is_field.ensures ∙ c.loop-relation-test.false) ∙ ap option_of (sym c.loop-relation.invariant)
