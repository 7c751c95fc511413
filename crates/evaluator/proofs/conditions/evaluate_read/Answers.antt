use mathlib.Core.Path.{◌≡◌, sym, ap, subst, ◌∙◌}
use native.Mathlib.Omega.{arith}
use lib.Seq.{length-take-le}
use borrow.Author.Rules.{rules}
use Rattle.std.specs.Prelude.{Err}
use Rattle.wire.specs.Limits.{max_depth}
use Rattle.inputs.proofs.NotedLaws.{none-noted}
use Rattle.evaluator.specs.AfterReading.{settled}
use Rattle.evaluator.specs.Slices.{Fits, booleans_of}
use Rattle.evaluator.proofs.Outcomes.{no-condition, condition-ready}
use Rattle.evaluator.proofs.Ready.{refused-there, few-there, fits-there, never-there, walked-there}
use Rattle.evaluator.proofs.conditions.evaluate_read.Goals as goal

pub returns-then-at-eq0 : goal.returns-then-at-eq0
returns-then-at-eq0 c =
    rw c.new.ensures (no-condition c.requires.read c.args.number c.args.x.images.now c.args.x.records.now c.args.x.runs.now (sym c.number_at-at.ensures ∙ c.if-at-eq0.true))

pub returns-in_err-n : goal.returns-in_err-n
returns-in_err-n c =
    let end : c.from_residual.result ≡ Err c.in_err-n.field-0.0 = search rules in
    rw end (refused-there (condition-ready c.requires.read _ _ _ _ c.number_at-at.ensures c.if-at-eq0.false c.prepare.ensures) _ c.in_err-n.was)

pub overflow_mul-bindings : goal.overflow_mul-bindings
overflow_mul-bindings c =
    let few = few-there (condition-ready c.requires.read _ _ _ _ c.number_at-at.ensures c.if-at-eq0.false c.prepare.ensures) _ c.in_ok-n.was in
    record { fits = omega (arith, few) }

pub slice_bounds-bindings-end : goal.slice_bounds-bindings-end
slice_bounds-bindings-end c =
    let few = few-there (condition-ready c.requires.read _ _ _ _ c.number_at-at.ensures c.if-at-eq0.false c.prepare.ensures) _ c.in_ok-n.was in
    omega (arith, few)

pub slice_bounds-slices-end : goal.slice_bounds-slices-end
slice_bounds-slices-end c =
    let few = few-there (condition-ready c.requires.read _ _ _ _ c.number_at-at.ensures c.if-at-eq0.false c.prepare.ensures) _ c.in_ok-n.was in
    sym (length-take-le _ _ (omega (arith, few)))

pub invariant_of-walk : goal.invariant_of-walk
invariant_of-walk c =
    let k = fits-there (condition-ready c.requires.read _ _ _ _ c.number_at-at.ensures c.if-at-eq0.false c.prepare.ensures) _ c.in_ok-n.was in
    record { fits = subst (λ g. Fits g.bindings g.runs) (sym c.slices-slices.ensures) (k c.requires.bytes); noted = c.note.ensures (none-noted c.slices-slices.result.dictionary.now 256) }

pub answer_of-requires : goal.answer_of-requires
answer_of-requires c =
    let walk = c.bool_at.ensures ∙ ap (λ g. booleans_of g max_depth c.number_at-at.result) c.slices-slices.ensures in
    λ e. never-there (condition-ready c.requires.read _ _ _ _ c.number_at-at.ensures c.if-at-eq0.false c.prepare.ensures) _ c.in_ok-n.was (sym walk ∙ e)

pub returns : goal.returns
returns c =
    let walk = c.bool_at.ensures ∙ ap (λ g. booleans_of g max_depth c.number_at-at.result) c.slices-slices.ensures in
    c.answer_of.ensures ∙ ap settled walk
    ∙ walked-there (condition-ready c.requires.read _ _ _ _ c.number_at-at.ensures c.if-at-eq0.false c.prepare.ensures) _ c.in_ok-n.was
