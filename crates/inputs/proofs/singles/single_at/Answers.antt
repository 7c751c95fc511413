-- `inputs::singles::single_at` meets its contract. Assumes nothing.
use Prim.Native.Nat.{ℕ, ◌+◌}
use mathlib.Core.Path.{ap₂}
use Rattle.dictionary.specs.Naming.{numbered}
use Rattle.surroundings.specs.Bindings.{bound_value}
use Rattle.inputs.proofs.SingleLaws.{same-fetched, field-walked, literal-walked}
use Rattle.inputs.proofs.singles.single_at.Goals as goal

pub returns-in-24 : goal.returns-in-24
returns-in-24 c n =
    let s = c.args.request.now in
    let d = c.args.d.now in
    let t = c.args.bindings.now in
    let records = c.args.records.now in
    let runs = c.args.runs.now in
    field-walked s d t records runs c.args.at c.field_single.result c.in-24.is
    (same-fetched c.field_single.result (c.args.at + 4)
    (ap₂ (λ (k i : ℕ). bound_value d t records runs k (numbered i)) c.byte_at.ensures c.word_at-id.ensures.0)
    (c.field_single.ensures n))

pub returns-in-21 : goal.returns-in-21
returns-in-21 c n = literal-walked c.args.request.now c.args.d.now c.args.bindings.now c.args.records.now c.args.runs.now c.args.at
    c.literal_single.result c.in-21.is c.literal_single.ensures
