-- `store::changes::replace_at` meets its contract. By its tests; then the record and the count. Assumes nothing.
use Prim.Native.Nat.{◌<◌}
use Rattle.store.proofs.Written.{is-refused, is-done, replace-none, replace-wrong, replace-there, place-before, few-records, one-long, replaced-is}
use borrow.Author.Rules.{rules}
use borrow.Author.Tests.{not-true, not-false}
use mathlib.Core.Path.{sym, ◌∙◌}
use native.Mathlib.Omega.{arith}
use Rattle.store.proofs.changes.replace_at.Goals as goal

pub returns-then-s-k : goal.returns-then-s-k
returns-then-s-k c = is-refused c.args.b.now _ _ _ _ c.refused.ensures (replace-none c.args.s c.args.k c.args.x.now c.if-s-k.true)

pub returns-then-not-is_one : goal.returns-then-not-is_one
returns-then-not-is_one c = let there : c.args.k < c.args.s.count = omega (arith, c.if-s-k.false) in
    let inside = place-before c.args.s c.args.k there in
    is-refused c.args.b.now _ _ _ _ c.refused-then-not-is_one.ensures (replace-wrong c.args.s c.args.k c.args.x.now there (sym c.is_one.ensures ∙ not-true c.is_one.result c.if-not-is_one.true-raw))

pub overflow_mul-at : goal.overflow_mul-at
overflow_mul-at c = let there : c.args.k < c.args.s.count = omega (arith, c.if-s-k.false) in
    let inside = place-before c.args.s c.args.k there in
    omega (arith, inside, c.requires.inside, c.requires.short, c.requires.fair.bits_inside)

pub overflow_add-at : goal.overflow_add-at
overflow_add-at c = let there : c.args.k < c.args.s.count = omega (arith, c.if-s-k.false) in
    let inside = place-before c.args.s c.args.k there in
    omega (arith, inside, c.requires.inside, c.requires.short, c.requires.fair.bits_inside)

pub overflow_add-at-2 : goal.overflow_add-at-2
overflow_add-at-2 c = let there : c.args.k < c.args.s.count = omega (arith, c.if-s-k.false) in
    let inside = place-before c.args.s c.args.k there in
    omega (arith, inside, c.requires.inside, c.requires.short, c.requires.fair.bits_inside)

pub count_ones-old-requires : goal.count_ones-old-requires
count_ones-old-requires c = let there : c.args.k < c.args.s.count = omega (arith, c.if-s-k.false) in
    let inside = place-before c.args.s c.args.k there in
    (omega (arith, inside, c.requires.inside, c.requires.short, c.requires.fair.bits_inside), c.requires.short)

pub write-new-requires : goal.write-new-requires
write-new-requires c = let there : c.args.k < c.args.s.count = omega (arith, c.if-s-k.false) in
    let inside = place-before c.args.s c.args.k there in
    let long = one-long c.args.s.layout c.args.x.now (sym c.is_one.ensures ∙ not-false c.is_one.result c.if-not-is_one.false-raw) in
    (c.requires.fair, (long, (omega (arith, inside, c.requires.inside, c.requires.short, c.requires.fair.bits_inside), c.requires.short)))

pub overflow_sub-s : goal.overflow_sub-s
overflow_sub-s c = let there : c.args.k < c.args.s.count = omega (arith, c.if-s-k.false) in
    let inside = place-before c.args.s c.args.k there in
    omega (arith, c.count_ones-old.ensures.0, c.requires.missing-of c.args.k there)

pub overflow_add-s : goal.overflow_add-s
overflow_add-s c = let there : c.args.k < c.args.s.count = omega (arith, c.if-s-k.false) in
    let inside = place-before c.args.s c.args.k there in
    omega (arith, c.count_ones-old.ensures.0, c.requires.missing-of c.args.k there, c.requires.missing_else c.args.k there, c.write-new.ensures.ones_few, c.requires.fair.bits_fewer, c.requires.inside, c.requires.short)

pub put_counts-requires : goal.put_counts-requires
put_counts-requires c = let there : c.args.k < c.args.s.count = omega (arith, c.if-s-k.false) in
    let inside = place-before c.args.s c.args.k there in
    (search rules, (omega (arith, few-records c.args.s c.args.b.now c.requires, c.requires.short), omega (arith, c.count_ones-old.ensures.0, c.requires.missing-of c.args.k there, c.requires.missing_else c.args.k there, c.write-new.ensures.ones_few, c.requires.fair.bits_fewer, c.requires.inside, c.requires.short)))

pub returns : goal.returns
returns c = let there : c.args.k < c.args.s.count = omega (arith, c.if-s-k.false) in
    let inside = place-before c.args.s c.args.k there in
    is-done c.args.b.now _ _ _ (replace-there c.args.s c.args.k c.args.x.now there (sym c.is_one.ensures ∙ not-false c.is_one.result c.if-not-is_one.false-raw))
    (replaced-is c.args.s c.args.table.now c.args.b.now c.args.x.now c.args.k _ _ _ _ c.count_ones-old.ensures.0 c.write-new.ensures c.put_counts.ensures)
