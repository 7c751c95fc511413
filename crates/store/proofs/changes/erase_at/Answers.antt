-- `store::changes::erase_at` meets its contract. By its test; then the gap is closed. Assumes nothing.
use Prim.Native.Nat.{◌<◌}
use Rattle.store.proofs.Written.{is-refused, is-done, erase-none, erase-there, place-before, few-records, erased-is}
use borrow.Author.Rules.{rules}
use native.Mathlib.Omega.{arith}
use Rattle.store.proofs.changes.erase_at.Goals as goal

pub returns-then-s-k : goal.returns-then-s-k
returns-then-s-k c = is-refused c.args.b.now _ _ _ _ c.refused.ensures (erase-none c.args.s c.args.k c.if-s-k.true)

pub overflow_mul-at : goal.overflow_mul-at
overflow_mul-at c = let there : c.args.k < c.args.s.count = omega (arith, c.if-s-k.false) in
    let inside = place-before c.args.s c.args.k there in
    omega (arith, inside, c.requires.inside, c.requires.short, c.requires.fair.bits_inside)

pub overflow_add-at : goal.overflow_add-at
overflow_add-at c = let there : c.args.k < c.args.s.count = omega (arith, c.if-s-k.false) in
    let inside = place-before c.args.s c.args.k there in
    omega (arith, inside, c.requires.inside, c.requires.short, c.requires.fair.bits_inside)

pub overflow_add-at-2 : goal.overflow_add-at-2
overflow_add-at-2 c = let there : c.args.k < c.args.s.count = omega (arith, c.if-s-k.false) in
    let inside = place-before c.args.s c.args.k there in
    omega (arith, inside, c.requires.inside, c.requires.short, c.requires.fair.bits_inside)

pub count_ones-ones-requires : goal.count_ones-ones-requires
count_ones-ones-requires c = let there : c.args.k < c.args.s.count = omega (arith, c.if-s-k.false) in
    let inside = place-before c.args.s c.args.k there in
    (omega (arith, inside, c.requires.inside, c.requires.short, c.requires.fair.bits_inside), c.requires.short)

pub close_gap-requires : goal.close_gap-requires
close_gap-requires c = let there : c.args.k < c.args.s.count = omega (arith, c.if-s-k.false) in
    let inside = place-before c.args.s c.args.k there in
    omega (arith, inside, c.requires.inside, c.requires.short, c.requires.fair.bits_inside)

pub overflow_sub-s-2 : goal.overflow_sub-s-2
overflow_sub-s-2 c = let there : c.args.k < c.args.s.count = omega (arith, c.if-s-k.false) in
    let inside = place-before c.args.s c.args.k there in
    omega (arith, c.count_ones-ones.ensures.0, c.requires.missing-of c.args.k there)

pub put_counts-requires : goal.put_counts-requires
put_counts-requires c = let there : c.args.k < c.args.s.count = omega (arith, c.if-s-k.false) in
    let inside = place-before c.args.s c.args.k there in
    (search rules, (omega (arith, few-records c.args.s c.args.b.now c.requires, c.requires.short), omega (arith, c.requires.few_missing, c.requires.inside, c.requires.short)))

pub returns : goal.returns
returns c = let there : c.args.k < c.args.s.count = omega (arith, c.if-s-k.false) in
    let inside = place-before c.args.s c.args.k there in
    is-done c.args.b.now _ _ _ (erase-there c.args.s c.args.k there)
    (erased-is c.args.s c.args.b.now c.args.k _ _ _ c.count_ones-ones.ensures.0 c.close_gap.ensures c.put_counts.ensures)
