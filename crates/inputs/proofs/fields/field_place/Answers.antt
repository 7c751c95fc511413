-- `inputs::fields::field_place` meets its contract. Assumes nothing.
use Prim.Native.Nat.{◌+◌, ◌-◌}
use mathlib.Core.Path.{sym, ap, ◌∙◌}
use native.Mathlib.Omega.{arith}
use lib.ListN.{length}
use Rattle.dictionary.specs.Internal.Walk.{relation_at}
use Rattle.records.specs.Record.{offset_of}
use Rattle.records.proofs.Offsets.{found, above}
use Rattle.inputs.proofs.PastEnd.{past_end, up-to-end}
use Rattle.inputs.proofs.fields.field_place.Goals as goal

pub returns-then-s-p : goal.returns-then-s-p
returns-then-s-p c = past_end c.args.s.now (c.args.p + offset_of (relation_at c.args.d.now c.args.relation) c.args.i) (omega arith)

pub overflow_add-result : goal.overflow_add-result
overflow_add-result c = let o = offset_of (relation_at c.args.d.now c.args.relation) c.args.i in
    omega (arith, (found (length c.args.s.now - c.args.p) o c.in-Some.n (sym c.in-Some.is ∙ c.offset_within.ensures)).1)

pub returns-in-Some : goal.returns-in-Some
returns-in-Some c = let o = offset_of (relation_at c.args.d.now c.args.relation) c.args.i in
    let f = found (length c.args.s.now - c.args.p) o c.in-Some.n (sym c.in-Some.is ∙ c.offset_within.ensures) in
    let a = f.0 in
    let b = f.1 in
    ap (λ n. c.args.p + n) a ∙ up-to-end c.args.s.now (c.args.p + o) (omega (arith, a, b))

pub returns-in-None : goal.returns-in-None
returns-in-None c = let o = offset_of (relation_at c.args.d.now c.args.relation) c.args.i in
    let f = above (length c.args.s.now - c.args.p) o (sym c.in-None.is ∙ c.offset_within.ensures) in
    past_end c.args.s.now (c.args.p + o) (omega (arith, f))
