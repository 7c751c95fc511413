use borrow.Author.Rules.{rules}
use mathlib.Core.Path.{◌≡◌}
use native.Mathlib.Omega.{arith}
use Rattle.std.specs.Prelude.{Err}
use Rattle.evaluator.proofs.BoundLaws.{octets}
use Rattle.evaluator.proofs.Accepted.{rows-read, refuses-value}
use Rattle.evaluator.proofs.evaluate_value.Goals as goal

pub evaluate_row-requires-clause-read : goal.evaluate_row-requires-clause-read
evaluate_row-requires-clause-read c = rows-read c.read.ensures (omega arith) (omega arith) (omega arith) _ c.in_ok-counts.was

pub evaluate_row-requires-clause-bytes : goal.evaluate_row-requires-clause-bytes
evaluate_row-requires-clause-bytes c = octets c.args.runs.now c.type_inv.runs

pub returns-in_err-counts : goal.returns-in_err-counts
returns-in_err-counts c =
    let end : c.from_residual.result ≡ Err c.in_err-counts.field-0.0 = search rules in
    rw end (record {
      answered = refuses-value c.read.ensures (omega arith) (omega arith) (omega arith) _ c.in_err-counts.was c.args.row
          c.args.images.now c.args.records.now c.args.runs.now;
      request_octets = c.read.ensures.request_octets;
    })
