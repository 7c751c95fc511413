-- `store::opening::open_of` meets its contract. By its callees: a law for each way. Assumes nothing.
use Rattle.dictionary.specs.Internal.Walk.{relation_at}
use Rattle.store.proofs.Starts.{not-headed, head-short, size-most, laid_of, fair-few, wrong-with, right-with, opens-refused}
use Rattle.store.specs.Internal.Changes.{Fair}
use mathlib.Core.Path.{sym, subst, ◌∙◌}
use native.Mathlib.Omega.{arith}
use Rattle.store.proofs.opening.open_of.Goals as goal

pub returns-then-not-is_headed : goal.returns-then-not-is_headed
returns-then-not-is_headed c = let r = relation_at c.args.d.now c.args.relation in
    opens-refused _ _ _ (not-headed r c.args.b.now (sym c.is_headed.ensures ∙ c.if-not-is_headed.true)) c.refused.ensures

pub tally_of-requires : goal.tally_of-requires
tally_of-requires c = (head-short c.args.b.now (sym c.is_headed.ensures ∙ c.if-not-is_headed.false), subst Fair (sym c.lay_of-l.ensures.layout_is) c.requires.0)

pub settle-requires : goal.settle-requires
settle-requires c = (c.word_at-count.ensures.1, rw c.lay_of-l.ensures.layout_is (size-most (relation_at c.args.d.now c.args.relation)))

pub returns-in-None : goal.returns-in-None
returns-in-None c = let r = relation_at c.args.d.now c.args.relation in
    let b = c.args.b.now in
    let laid = laid_of r c.args.table.now _ c.lay_of-l.result c.lay_of-l.ensures (omega (arith, fair-few r c.requires.0, c.requires.1)) in
    opens-refused _ _ _
    (wrong-with r b _ laid c.word_at-count.result c.word_at-count.ensures.0 c.lay_of-l.result c.lay_of-l.ensures.layout_is (sym c.in-None.is ∙ c.tally_of.ensures)) c.refused-in-None.ensures

pub returns-in-Some : goal.returns-in-Some
returns-in-Some c = let r = relation_at c.args.d.now c.args.relation in
    let b = c.args.b.now in
    let headed-so = sym c.is_headed.ensures ∙ c.if-not-is_headed.false in
    let laid = laid_of r c.args.table.now _ c.lay_of-l.result c.lay_of-l.ensures (omega (arith, fair-few r c.requires.0, c.requires.1)) in
    right-with r b _ laid c.word_at-count.result c.word_at-count.ensures.0 c.lay_of-l.result c.lay_of-l.ensures.layout_is headed-so c.in-Some.missing
    (sym c.in-Some.is ∙ c.tally_of.ensures) c.settle.result c.settle.ensures
