use mathlib.Core.Path.{◌≡◌, sym, ap, subst, ◌∙◌}
use native.Mathlib.Omega.{arith}
use lib.Seq.{length-take-le}
use borrow.Author.Rules.{rules}
use Rattle.std.specs.Prelude.{Err}
use Rattle.wire.specs.Limits.{max_depth}
use Rattle.values.specs.Values.{valued}
use Rattle.inputs.proofs.NotedLaws.{none-noted}
use Rattle.evaluator.specs.Answers.{answer_in, settled_value}
use Rattle.evaluator.specs.Slices.{Fits, values_of, lent_of}
use Rattle.evaluator.proofs.Outcomes.{no_row, no_value, value-ready, place-told, no-place}
use Rattle.evaluator.proofs.Ready.{refused-there, few-there, fits-there, never-there, walked-there}
use Rattle.evaluator.proofs.conditions.evaluate_row.Goals as goal

pub returns-then-x-row : goal.returns-then-x-row
returns-then-x-row c =
    rw c.new.ensures (no_row c.requires.read c.args.row c.args.x.images.now c.args.x.records.now c.args.x.runs.now c.if-x-row.true)

pub returns-in_default : goal.returns-in_default
returns-in_default c =
    rw c.new-in_default.ensures
    (no_value c.requires.read c.args.row c.args.x.images.now c.args.x.records.now c.args.x.runs.now (omega (arith, c.if-x-row.false))
    (no-place _ c.from_value.result c.from_value.ensures c.in_default.not-Some))

pub returns-in_err-n : goal.returns-in_err-n
returns-in_err-n c =
    let end : c.from_residual.result ≡ Err c.in_err-n.field-0.0 = search rules in
    rw end (refused-there (value-ready c.requires.read _ _ _ _ (omega (arith, c.if-x-row.false)) _ (place-told _ _ (sym c.from_value.ensures ∙ c.in-Some.is)) c.prepare.ensures) _ c.in_err-n.was)

pub overflow_mul-bindings : goal.overflow_mul-bindings
overflow_mul-bindings c =
    let few = few-there (value-ready c.requires.read _ _ _ _ (omega (arith, c.if-x-row.false)) _ (place-told _ _ (sym c.from_value.ensures ∙ c.in-Some.is)) c.prepare.ensures) _ c.in_ok-n.was in
    record { fits = omega (arith, few) }

pub slice_bounds-bindings-end : goal.slice_bounds-bindings-end
slice_bounds-bindings-end c =
    let few = few-there (value-ready c.requires.read _ _ _ _ (omega (arith, c.if-x-row.false)) _ (place-told _ _ (sym c.from_value.ensures ∙ c.in-Some.is)) c.prepare.ensures) _ c.in_ok-n.was in
    omega (arith, few)

pub slice_bounds-slices-end : goal.slice_bounds-slices-end
slice_bounds-slices-end c =
    let few = few-there (value-ready c.requires.read _ _ _ _ (omega (arith, c.if-x-row.false)) _ (place-told _ _ (sym c.from_value.ensures ∙ c.in-Some.is)) c.prepare.ensures) _ c.in_ok-n.was in
    sym (length-take-le _ _ (omega (arith, few)))

pub invariant_of-walk : goal.invariant_of-walk
invariant_of-walk c =
    let k = fits-there (value-ready c.requires.read _ _ _ _ (omega (arith, c.if-x-row.false)) _ (place-told _ _ (sym c.from_value.ensures ∙ c.in-Some.is)) c.prepare.ensures) _ c.in_ok-n.was in
    record { fits = subst (λ g. Fits g.bindings g.runs) (sym c.slices-slices.ensures) (k c.requires.bytes); noted = c.note.ensures (none-noted c.slices-slices.result.dictionary.now 256) }

pub value_answer-requires : goal.value_answer-requires
value_answer-requires c =
    let walk = ap (λ m. valued m c.value_at.result) c.lent.ensures ∙ c.value_at.ensures ∙ ap (λ g. values_of g max_depth c.in-Some.at) c.slices-slices.ensures in
    λ e. never-there (value-ready c.requires.read _ _ _ _ (omega (arith, c.if-x-row.false)) _ (place-told _ _ (sym c.from_value.ensures ∙ c.in-Some.is)) c.prepare.ensures) _ c.in_ok-n.was (sym walk ∙ e)

pub returns : goal.returns
returns c =
    let walk = ap (λ m. valued m c.value_at.result) c.lent.ensures ∙ c.value_at.ensures ∙ ap (λ g. values_of g max_depth c.in-Some.at) c.slices-slices.ensures in
    sym (ap (λ m. answer_in m c.value_answer.result) (c.lent.ensures ∙ ap lent_of c.slices-slices.ensures))
    ∙ c.value_answer.ensures ∙ ap settled_value walk
    ∙ walked-there (value-ready c.requires.read _ _ _ _ (omega (arith, c.if-x-row.false)) _ (place-told _ _ (sym c.from_value.ensures ∙ c.in-Some.is)) c.prepare.ensures) _ c.in_ok-n.was
