use Prim.Native.Nat.{◌-◌}
use mathlib.Core.Path.{sym, ap, subst, ◌∙◌}
use Rattle.dictionary.specs.Naming.{numbered}
use Rattle.dictionary.specs.Internal.Walk.{relation_place}
use Rattle.surroundings.specs.Slots.{place_or, slots_from}
use Rattle.surroundings.specs.Tables.{Laid}
use Rattle.surroundings.proofs.ContextLoops.{fill_start, fill_end, fill-skip, fill-put}
use Rattle.surroundings.proofs.scope.in_scope.Goals as goal
use Rattle.surroundings.proofs.scope.in_scope.Goals.{then-row_holds, else-row_holds}

pub loop-row-init : goal.loop-row-init
loop-row-init c = fill_start c.args.dictionary.now c.args.contexts.now c.args.at c.min-rows.result c.args.numbers.now c.args.relations.now

pub loop-row-preserved : goal.loop-row-preserved
loop-row-preserved c = let d = c.args.dictionary.now in
    let here =
    fill-put c.args.dictionary.now c.args.contexts.now c.args.at c.min-rows.result c.args.numbers.now c.args.relations.now
    c.loop-row.numbers c.loop-row.relations c.loop-row.row c.loop-row.filled c.loop-row.invariant c.loop-row-test.true in
    let past =
    fill-skip c.args.dictionary.now c.args.contexts.now c.args.at c.min-rows.result c.args.numbers.now c.args.relations.now
    c.loop-row.numbers c.loop-row.relations c.loop-row.row c.loop-row.filled c.loop-row.invariant c.loop-row-test.true in
    elim c.if-row_holds.branch [
      | then-row_holds w ↦
          let entry = w.entry_of.ensures ∙ ap (λ z. place_or (relation_place d (numbered z))) w.number_at-then-row_holds.ensures in
          rw (w.numbers-is, w.relations-is, w.filled-is, w.put.ensures, w.put-then-row_holds.ensures)
          (here (sym c.row_holds.ensures ∙ w.if-row_holds.true) w.number_at.result w.entry_of.result w.number_at.ensures entry)
      | else-row_holds w ↦ rw (w.numbers-is, w.relations-is, w.filled-is) (past (sym c.row_holds.ensures ∙ w.if-row_holds.false))
    ]

pub returns : goal.returns
returns c = let all =
    fill_end c.args.dictionary.now c.args.contexts.now c.args.at c.min-rows.result c.args.numbers.now c.args.relations.now
    c.loop-row.numbers c.loop-row.relations c.loop-row.row c.loop-row.filled c.loop-row.invariant c.loop-row-test.false in
    subst
    (λ z.
    Laid (slots_from c.args.dictionary.now c.args.contexts.now c.args.at z 0) c.args.numbers.now c.args.relations.now
    c.loop-row.numbers c.loop-row.relations c.loop-row.filled)
    c.min-rows.ensures all
