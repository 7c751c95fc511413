-- `explanation::explain` meets its contract. Assumes nothing.
use mathlib.Core.Path.{◌≡◌}
use native.Mathlib.Omega.{arith}
use borrow.Author.Rules.{rules}
use Rattle.std.specs.Prelude.{Err}
use Rattle.evaluator.proofs.BoundLaws.{octets}
use Rattle.evaluator.proofs.Accepted.{after-reading, refuses}
use Rattle.explanation.proofs.Questions.{evaluation-refused, cleared-zeros, listed-so}
use Rattle.explanation.proofs.explain.Goals as goal

pub explain_read-requires-clause-read : goal.explain_read-requires-clause-read
explain_read-requires-clause-read c = after-reading c.read_noting.ensures (omega arith) (omega arith) (omega arith) (omega arith) _ c.in_ok-counts.was

pub explain_read-requires-clause-bytes : goal.explain_read-requires-clause-bytes
explain_read-requires-clause-bytes c = octets c.args.runs.now c.type_inv.runs

pub explain_read-requires-clause-zeros : goal.explain_read-requires-clause-zeros
explain_read-requires-clause-zeros c = cleared-zeros c.args.tests.now (c.fill.ensures.after (λ y e. e))

pub returns-in_err-counts : goal.returns-in_err-counts
returns-in_err-counts c =
    let end : c.from_residual.result ≡ Err c.in_err-counts.field-0.0 = search rules in
    rw end
    (listed-so c.args.tests.now (c.fill.ensures.after (λ y e. e)) c.args.request.now c.args.dictionary.now c.args.number c.args.images.now c.args.records.now c.args.runs.now
    (evaluation-refused (cleared-zeros c.args.tests.now (c.fill.ensures.after (λ y e. e))) c.args.request.now c.args.dictionary.now c.args.number
    c.args.images.now c.args.records.now c.args.runs.now _ _
    (refuses c.read_noting.ensures.answered (omega arith) (omega arith) (omega arith) _ c.in_err-counts.was c.args.number
    c.args.images.now c.args.records.now c.args.runs.now))
    c.read_noting.ensures.answered.request_octets)

pub returns : goal.returns
returns c =
    listed-so c.args.tests.now (c.fill.ensures.after (λ y e. e)) c.args.request.now c.args.dictionary.now c.args.number c.args.images.now c.args.records.now c.args.runs.now
    c.explain_read.ensures c.read_noting.ensures.answered.request_octets
