-- `inputs::stored::text_at` meets its contract. The part that `text_part` gives is that of the bytes held. Assumes nothing.
use mathlib.Core.Path.{sym, ap, ◌∙◌}
use Rattle.text.specs.Value.{text_part}
use Rattle.inputs.proofs.TextLaws.{text-there}
use Rattle.inputs.proofs.stored.text_at.Goals as goal

pub returns-in-Some : goal.returns-in-Some
returns-in-Some c m e =
    let part = sym (ap (text_part c.args.t) c.held_at-held.ensures.bytes) ∙ sym c.text_part.ensures ∙ c.in-Some.is in
    text-there c.args.source c.args.t c.args.n c.args.s.now c.args.p c.held_at-held.result c.held_at-held.ensures m e _ _ part
