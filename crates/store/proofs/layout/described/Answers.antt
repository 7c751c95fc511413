-- `store::layout::described` meets its contract. By its callees. Assumes nothing.
use Prim.Native.Nat.{◌+◌, ◌/◌}
use Rattle.records.proofs.Records.{id-is}
use mathlib.Core.Path.{ap, ◌∙◌}
use Rattle.store.proofs.layout.described.Goals as goal

pub returns : goal.returns
returns c = let id' = c.word_on.ensures.0 ∙ id-is c.args.d.now c.args.relation in
    let bits' = c.missing_bytes.ensures ∙ ap (λ n. (n + 7) / 8) c.field_count-fields.ensures in
    λ i. record { id = id' i; size = c.args.size; fields = c.field_count-fields.ensures i; bits = bits' i }
