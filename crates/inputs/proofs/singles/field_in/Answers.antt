-- `inputs::singles::field_in` meets its contract. Assumes nothing.
use mathlib.Core.Path.{refl, sym, ◌∙◌}
use Prim.Native.Nat.{◌+◌}
use Rattle.inputs.proofs.SingleLaws.{field-held, described-held}
use Rattle.inputs.proofs.singles.field_in.Goals as goal

pub returns : goal.returns
returns c n =
    let l = c.in_ok-l.l in
    field-held c.args.d.now c.args.relation c.args.s.now c.args.p c.args.i l (c.in_ok-l.ensures.so n)
    _ refl (sym c.missing_bit.ensures ∙ c.if-missing_bit.false) c.held.result c.args.after
    (described-held c.args.d.now l.entry c.args.s.now (c.args.p + l.offset) c.type_at.result
    c.byte_on-scale.result c.type_at.ensures c.byte_on-scale.ensures c.held.result c.args.after c.held.ensures)
