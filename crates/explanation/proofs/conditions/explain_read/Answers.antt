use mathlib.Core.Path.{◌≡◌, sym, ap, ◌∙◌}
use native.Mathlib.Omega.{arith}
use lib.Seq.{length-take-le}
use borrow.Author.Rules.{rules}
use Rattle.std.specs.Prelude.{Err}
use Rattle.grammar.specs.declared.Refusal.TheVariants.{NoBoolean}
use Rattle.evaluator.proofs.Outcomes.{no-condition}
use Rattle.evaluator.proofs.Ready.{refused-there, few-there, walked-there}
use Rattle.explanation.specs.Internal.Noting.{settled_in, walk_over}
use Rattle.explanation.proofs.Questions.{ready, ready-walks, same_outcome, outcome-refused, evaluation-refused}
use Rattle.explanation.proofs.conditions.explain_read.Goals as goal

pub returns-then-at-eq0 : goal.returns-then-at-eq0
returns-then-at-eq0 c =
    let x = c.args.x in
    rw c.new.ensures
    (evaluation-refused c.requires.zeros x.request.now x.dictionary.now c.args.number x.images.now x.records.now x.runs.now NoBoolean 0
    (no-condition c.requires.read c.args.number x.images.now x.records.now x.runs.now (sym c.number_at-at.ensures ∙ c.if-at-eq0.true)))

pub returns-in_err-rows : goal.returns-in_err-rows
returns-in_err-rows c =
    let x = c.args.x in
    let end : c.from_residual.result ≡ Err c.in_err-rows.field-0.0 = search rules in
    let z = ready c.requires.read c.args.number x.images.now x.records.now x.runs.now c.number_at-at.ensures c.if-at-eq0.false c.prepare_in.ensures (omega arith) in
    rw end (outcome-refused c.requires.zeros (refused-there z _ c.in_err-rows.was))

pub overflow_mul-bindings : goal.overflow_mul-bindings
overflow_mul-bindings c =
    let x = c.args.x in
    let z = ready c.requires.read c.args.number x.images.now x.records.now x.runs.now c.number_at-at.ensures c.if-at-eq0.false c.prepare_in.ensures (omega arith) in
    let few = few-there z _ c.in_ok-rows.was in
    record { fits = omega (arith, few) }

pub slice_bounds-bindings-end : goal.slice_bounds-bindings-end
slice_bounds-bindings-end c =
    let x = c.args.x in
    let z = ready c.requires.read c.args.number x.images.now x.records.now x.runs.now c.number_at-at.ensures c.if-at-eq0.false c.prepare_in.ensures (omega arith) in
    let few = few-there z _ c.in_ok-rows.was in
    omega (arith, few)

pub slice_bounds-slices-end : goal.slice_bounds-slices-end
slice_bounds-slices-end c =
    let x = c.args.x in
    let z = ready c.requires.read c.args.number x.images.now x.records.now x.runs.now c.number_at-at.ensures c.if-at-eq0.false c.prepare_in.ensures (omega arith) in
    let few = few-there z _ c.in_ok-rows.was in
    sym (length-take-le _ _ (omega (arith, few)))

pub explain_there-requires : goal.explain_there-requires
explain_there-requires c =
    let x = c.args.x in
    rw c.slices.ensures
    (ready-walks c.requires.read c.args.number x.images.now x.records.now x.runs.now c.number_at-at.ensures c.if-at-eq0.false c.prepare_in.ensures (omega arith)
    c.in_ok-rows.rows c.in_ok-rows.was c.requires.bytes c.requires.zeros)

pub returns : goal.returns
returns c =
    let x = c.args.x in
    let z = ready c.requires.read c.args.number x.images.now x.records.now x.runs.now c.number_at-at.ensures c.if-at-eq0.false c.prepare_in.ensures (omega arith) in
    same_outcome (ap (λ g. settled_in (walk_over g c.number_at-at.result)) c.slices.ensures ∙ walked-there z _ c.in_ok-rows.was) c.explain_there.ensures
