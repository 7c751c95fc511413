-- `store::changes::add_to` meets its contract. By its tests; then the record and the counts. Assumes nothing.
use Prim.Native.Nat.{◌+◌, ◌≤◌}
use Rattle.store.proofs.Written.{is-refused, is-done, add-wrong, add-full, add-fits, one-long, few-records, more-missing, added_is}
use Rattle.store.specs.Internal.Changes.{place_of}
use borrow.Author.Rules.{rules}
use borrow.Author.Tests.{not-true, not-false}
use lib.ListN.{length}
use mathlib.Core.Path.{refl, sym, ◌∙◌}
use native.Mathlib.Omega.{arith}
use Rattle.store.proofs.changes.add_to.Goals as goal

pub returns-then-not-is_one : goal.returns-then-not-is_one
returns-then-not-is_one c = is-refused c.args.b.now _ _ _ _ c.refused.ensures (add-wrong c.args.s c.args.b.now c.args.x.now (sym c.is_one.ensures ∙ not-true c.is_one.result c.if-not-is_one.true-raw))

pub returns-then-b-end : goal.returns-then-b-end
returns-then-b-end c = is-refused c.args.b.now _ _ _ _ c.refused-then-b-end.ensures (add-full c.args.s c.args.b.now c.args.x.now (sym c.is_one.ensures ∙ not-false c.is_one.result c.if-not-is_one.false-raw) (omega (arith, c.if-b-end.true, c.requires.inside)))

pub write-ones-requires : goal.write-ones-requires
write-ones-requires c = let long = one-long c.args.s.layout c.args.x.now (sym c.is_one.ensures ∙ not-false c.is_one.result c.if-not-is_one.false-raw) in
    let room : place_of c.args.s c.args.s.count + length c.args.x.now ≤ length c.args.b.now = omega (arith, c.if-b-end.false, c.requires.inside) in
    (c.requires.fair, (long, (omega (arith, long, room), c.requires.short)))

pub overflow_add-s : goal.overflow_add-s
overflow_add-s c = omega (arith, few-records c.args.s c.args.b.now c.requires, c.requires.short)

pub overflow_add-s-2 : goal.overflow_add-s-2
overflow_add-s-2 c = let long = one-long c.args.s.layout c.args.x.now (sym c.is_one.ensures ∙ not-false c.is_one.result c.if-not-is_one.false-raw) in
    let room : place_of c.args.s c.args.s.count + length c.args.x.now ≤ length c.args.b.now = omega (arith, c.if-b-end.false, c.requires.inside) in
    omega (arith, more-missing c.args.s c.args.b.now c.requires (place_of c.args.s c.args.s.count) c.write-ones.result refl (omega (arith, room, long)) c.write-ones.ensures.ones_few)

pub put_counts-requires : goal.put_counts-requires
put_counts-requires c = let long = one-long c.args.s.layout c.args.x.now (sym c.is_one.ensures ∙ not-false c.is_one.result c.if-not-is_one.false-raw) in
    let room : place_of c.args.s c.args.s.count + length c.args.x.now ≤ length c.args.b.now = omega (arith, c.if-b-end.false, c.requires.inside) in
    (search rules, (omega (arith, few-records c.args.s c.args.b.now (c.requires), c.requires.short), more-missing c.args.s c.args.b.now (c.requires) (place_of c.args.s c.args.s.count) c.write-ones.result refl (omega (arith, room, long)) c.write-ones.ensures.ones_few))

pub returns : goal.returns
returns c = let long = one-long c.args.s.layout c.args.x.now (sym c.is_one.ensures ∙ not-false c.is_one.result c.if-not-is_one.false-raw) in
    let room : place_of c.args.s c.args.s.count + length c.args.x.now ≤ length c.args.b.now = omega (arith, c.if-b-end.false, c.requires.inside) in
    is-done c.args.b.now _ _ _ (add-fits c.args.s c.args.b.now c.args.x.now (sym c.is_one.ensures ∙ not-false c.is_one.result c.if-not-is_one.false-raw) room)
    (added_is c.args.s c.args.table.now c.args.b.now c.args.x.now _ _ _ c.write-ones.ensures c.put_counts.ensures)
