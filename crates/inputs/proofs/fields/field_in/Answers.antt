-- `inputs::fields::field_in` meets its contract. Its entry says its format, and its bytes stand at its place or nowhere. Assumes nothing.
use mathlib.Core.Path.{sym, ap, ◌∙◌}
use lib.ListN.{get_elem?}
use Rattle.dictionary.specs.Internal.Walk.{fields_of}
use Rattle.dictionary.specs.Internal.FieldAnswers.{format_is}
use Rattle.meaning.specs.declared.Kind.{Kind}
use Rattle.meaning.specs.Data.{absent}
use Rattle.meaning.specs.Inputs.{value}
use Rattle.surroundings.proofs.BindingLoops.{bound_some, bound-none}
use Rattle.inputs.proofs.FieldLaws.{no_field, field-missing, field-there}
use Rattle.inputs.proofs.fields.field_in.Goals as goal

pub returns-in_default : goal.returns-in_default
returns-in_default c m e = no_field c.args.d.now c.args.relation c.args.s.now c.args.p c.args.i
    (bound-none (get_elem? (fields_of c.args.d.now c.args.relation) c.args.i) (sym c.in_default.is ∙ c.field_entry.ensures))

pub returns-in-Some-presence : goal.returns-in-Some-presence
returns-in-Some-presence c m e =
    let place = bound_some (get_elem? (fields_of c.args.d.now c.args.relation) c.args.i) c.in-Some.q (sym c.in-Some.is ∙ c.field_entry.ensures) in
    ap (λ (k : Kind). value (absent k c.in-Some-presence.w)) c.kind_held.ensures ∙
    field-missing c.args.d.now c.args.relation c.args.s.now c.args.p c.args.i c.in-Some.q place
    (format_is c.described-x.result) c.described-x.ensures c.field_place-at.result c.field_place-at.ensures
    c.in-Some-presence.w (sym c.in-Some-presence.is ∙ c.presence.ensures)

pub returns-in-None : goal.returns-in-None
returns-in-None c m e =
    let place = bound_some (get_elem? (fields_of c.args.d.now c.args.relation) c.args.i) c.in-Some.q (sym c.in-Some.is ∙ c.field_entry.ensures) in
    c.value_at.ensures m e ∙
    field-there c.args.d.now c.args.relation c.args.s.now c.args.p c.args.i c.in-Some.q place
    (format_is c.described-x.result) c.described-x.ensures c.field_place-at.result c.field_place-at.ensures
    (sym c.in-None.is ∙ c.presence.ensures)
