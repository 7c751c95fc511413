use borrow.Author.Rules.{rules}
use mathlib.Core.Path.{◌≡◌}
use native.Mathlib.Omega.{arith}
use Rattle.std.specs.Prelude.{Err}
use Rattle.evaluator.proofs.BoundLaws.{octets}
use Rattle.evaluator.proofs.Accepted.{after-reading, refuses}
use Rattle.evaluator.proofs.evaluate.Goals as goal

pub evaluate_read-requires-clause-read : goal.evaluate_read-requires-clause-read
evaluate_read-requires-clause-read c = after-reading c.read_noting.ensures (omega arith) (omega arith) (omega arith) (omega arith) _ c.in_ok-counts.was

pub evaluate_read-requires-clause-bytes : goal.evaluate_read-requires-clause-bytes
evaluate_read-requires-clause-bytes c = octets c.args.runs.now c.type_inv.runs

pub returns-in_err-counts : goal.returns-in_err-counts
returns-in_err-counts c =
    let end : c.from_residual.result ≡ Err c.in_err-counts.field-0.0 = search rules in
    rw end (record {
      answered = refuses c.read_noting.ensures.answered (omega arith) (omega arith) (omega arith) _ c.in_err-counts.was c.args.number
          c.args.images.now c.args.records.now c.args.runs.now;
      request_octets = c.read_noting.ensures.answered.request_octets;
    })
