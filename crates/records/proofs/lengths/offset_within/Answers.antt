use Rattle.records.proofs.Offsets.{offset-is, too_long}
use native.Mathlib.Omega.{arith}
use Prim.Native.Nat.{◌+◌}
use mathlib.Core.Path.{refl, ap, ◌∙◌}
use lib.ListN.{take}
use Rattle.records.specs.Record.{offset_of}
use Rattle.dictionary.specs.Internal.Walk.{next_place, fields_from, relation_at}
use Rattle.records.specs.Internal.Answers.{all_held, within}
use Rattle.records.proofs.lengths.offset_within.Goals as goal

pub returns-then-limit-start : goal.returns-then-limit-start
returns-then-limit-start c = let d = c.args.d.now in
    let r = c.args.relation in
    let i = c.args.i in
    let o = offset-is d r i c.field_count.result (next_place d r) c.field_count.ensures refl in
    too_long c.args.limit (offset_of (relation_at d r) i) (omega (arith, o, c.missing_bytes-start.ensures, c.if-limit-start.true))

pub returns : goal.returns
returns c = let d = c.args.d.now in
    let r = c.args.relation in
    let i = c.args.i in
    let q = c.next_place.result in
    c.packed_within.ensures ∙ ap (within c.args.limit) (ap (λ m. 6 + m + all_held d (take i (fields_from d q))) c.missing_bytes-start.ensures ∙
    offset-is d r i c.field_count.result q c.field_count.ensures c.next_place.ensures)
