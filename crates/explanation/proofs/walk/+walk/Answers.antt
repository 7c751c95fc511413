use mathlib.Core.Path.{◌≡◌, sym, ◌∙◌}
use native.Mathlib.Omega.{arith}
use lib.ListN.{length}
use borrow.Author.Rules.{rules}
use Rattle.std.specs.Prelude.{Err}
use Rattle.evaluator.specs.Slices.{slices_in}
use Rattle.evaluator.proofs.OutsideLaws.{tested-there}
use Rattle.explanation.specs.Internal.Walk.{explain_under}
use Rattle.explanation.specs.Internal.Noting.{explains}
use Rattle.explanation.proofs.NotingLaws.{stop-noted, no-level-noted, undue-noted, due-inside, due-noted, single-noted, turned-noted, second-stops, sides-noted}
use Rattle.explanation.proofs.walk.+walk.Goals as goal

pub both_sides-explain_at-requires : goal.both_sides-explain_at-requires
both_sides-explain_at-requires t c = (omega (arith, c.decreases), c.requires)

pub both_sides-returns-in_err-first : goal.both_sides-returns-in_err-first
both_sides-returns-in_err-first t c =
    let end : c.from_residual.result ≡ Err c.in_err-first.field-0.0 = search rules in
    rw end (stop-noted _ _ c.in_err-first.ensures)

pub both_sides-explain_at-requires-2 : goal.both_sides-explain_at-requires-2
both_sides-explain_at-requires-2 t c =
    let h = c.in_ok-first.ensures in
    let l = h.lays in
    (omega (arith, c.decreases), record { fits = c.requires.fits; short = c.requires.short; rows = omega (arith, l.within, h.same) })

pub both_sides-returns-in_err-second : goal.both_sides-returns-in_err-second
both_sides-returns-in_err-second t c =
    let g = slices_in c.args.x.now in
    let end : c.from_residual-in_err-second.result ≡ Err c.in_err-second.field-0.0 = search rules in
    rw end
    (second-stops c.args.code (λ rows m q. explains g rows c.args.levels m q) c.requires.rows c.in_ok-first.ensures _ c.in_err-second.ensures)

pub both_sides-keep_needed-rows-requires : goal.both_sides-keep_needed-rows-requires
both_sides-keep_needed-rows-requires t c =
    let h = c.in_ok-first.ensures in
    let k = c.in_ok-second.ensures in
    let l = h.lays in
    let m = k.lays in
    (l.no_fewer, m.no_fewer, omega (arith, m.within, k.same))

pub both_sides-returns : goal.both_sides-returns
both_sides-returns t c =
    let g = slices_in c.args.x.now in
    sides-noted c.args.code (λ rows m q. explains g rows c.args.levels m q) c.requires.rows
    c.in_ok-first.ensures c.in_ok-second.ensures
    c.settles.ensures c.settles-2.ensures c.keep_needed-rows.ensures c.connection.ensures

pub explain_at-returns-then-levels-eq0 : goal.explain_at-returns-then-levels-eq0
explain_at-returns-then-levels-eq0 t c =
    no-level-noted (slices_in c.args.x.now) (length c.args.noted.now) c.args.levels c.args.n c.args.at c.args.noted.now c.if-levels-eq0.true

pub explain_at-explain_under-requires : goal.explain_at-explain_under-requires
explain_at-explain_under-requires t c =
    let inside =
    due-inside (slices_in c.args.x.now) (length c.args.noted.now) c.args.levels c.args.n c.args.at c.args.noted.now c.if-levels-eq0.false
    c.byte_at.ensures (sym c.in-Ok.is ∙ c.of.ensures) in
    (omega (arith, c.decreases), (c.requires, omega (arith, c.if-levels-eq0.false), inside))

pub explain_at-returns-in-Ok : goal.explain_at-returns-in-Ok
explain_at-returns-in-Ok t c =
    due-noted (slices_in c.args.x.now) (length c.args.noted.now) c.args.levels c.args.n c.args.at c.args.noted.now c.if-levels-eq0.false
    c.byte_at.ensures (sym c.in-Ok.is ∙ c.of.ensures) c.explain_under.ensures

pub explain_at-returns-in-Err : goal.explain_at-returns-in-Err
explain_at-returns-in-Err t c =
    undue-noted (slices_in c.args.x.now) (length c.args.noted.now) c.args.levels c.args.n c.args.at c.args.noted.now c.if-levels-eq0.false
    c.byte_at.ensures (sym c.in-Err.is ∙ c.of.ensures)

pub explain_under-both_sides-requires : goal.explain_under-both_sides-requires
explain_under-both_sides-requires t c = let level = c.requires.1 in
    (omega (arith, c.decreases, level), c.requires.0)

pub explain_under-explain_at-requires : goal.explain_under-explain_at-requires
explain_under-explain_at-requires t c = let level = c.requires.1 in
    (omega (arith, c.decreases, level), c.requires.0)

pub explain_under-note_test-requires : goal.explain_under-note_test-requires
explain_under-note_test-requires t c = let inside = c.requires.2 in
    let short = c.requires.0.short in
    (omega (arith, inside, short), c.requires.0.rows)

pub explain_under-returns-in_err-inner-in-Not : goal.explain_under-returns-in_err-inner-in-Not
unfolding explain_under
explain_under-returns-in_err-inner-in-Not t c =
    let end : c.from_residual.result ≡ Err c.in_err-inner-in-Not.field-0.0 = search rules in
    rw (c.in-Not.is, end) (stop-noted _ _ c.in_err-inner-in-Not.ensures)

pub explain_under-returns-in-Connect : goal.explain_under-returns-in-Connect
unfolding explain_under
explain_under-returns-in-Connect t c = rw c.in-Connect.is c.both_sides.ensures

pub explain_under-returns-in_ok-inner-in-Not : goal.explain_under-returns-in_ok-inner-in-Not
unfolding explain_under
explain_under-returns-in_ok-inner-in-Not t c = rw c.in-Not.is (turned-noted c.in_ok-inner-in-Not.ensures c.reversed.ensures)

pub explain_under-returns-in-Compare : goal.explain_under-returns-in-Compare
explain_under-returns-in-Compare t c =
    let g = slices_in c.args.x.now in
    let walk = c.tested_at.result in
    single-noted g (length c.args.noted.now) c.args.levels c.args.n c.args.at c.args.code walk c.in-Compare.is
    (tested-there g c.args.levels c.args.at walk c.requires.0.fits c.tested_at.ensures) c.note_test.ensures
