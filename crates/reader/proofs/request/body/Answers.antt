use Rattle.std.proofs.Common.{◌≡◌, rules, arith, Err}
use Rattle.reader.proofs.Whole.{undeclared, given-after, unended, not-ended, whole-body}
use Rattle.reader.proofs.request.body.Goals as goal

pub returns-in_err-first-clause-read : goal.returns-in_err-first-clause-read
returns-in_err-first-clause-read c =
    let e : c.from_residual.result ≡ Err c.in_err-first.field-0.0 = search rules in
    rw e (undeclared c.args.v _ _ _ _ c.requires _ _ c.read_messages.ensures c.in_err-first.was)

pub read_statements-requires : goal.read_statements-requires
read_statements-requires c = (given-after c.args.v _ _ _ _ c.requires _ _ c.read_messages.ensures c.in_ok-first.was, omega arith)

pub returns-in_err-last-clause-read : goal.returns-in_err-last-clause-read
returns-in_err-last-clause-read c =
    let e : c.from_residual-in_err-last.result ≡ Err c.in_err-last.field-0.0 = search rules in
    rw e (unended c.args.v _ _ _ _ c.requires _ _ c.read_messages.ensures c.in_ok-first.was _ _ _ _ _ c.put_boolean.ensures
    c.read_statements.ensures.read c.in_err-last.was)

pub returns-in_err-after-clause-read : goal.returns-in_err-after-clause-read
returns-in_err-after-clause-read c =
    let e : c.from_residual-in_err-after.result ≡ Err c.in_err-after.field-0.0 = search rules in
    rw e (not-ended c.args.v _ _ _ _ c.requires _ _ c.read_messages.ensures c.in_ok-first.was _ _ _ _ _ c.put_boolean.ensures
    c.read_statements.ensures.read c.in_ok-last.was c.end.ensures c.in_err-after.was)

pub returns-clause-read : goal.returns-clause-read
returns-clause-read c =
    rw c.row_count.ensures (whole-body c.args.v _ _ _ _ c.requires _ _ c.read_messages.ensures c.in_ok-first.was _ _ _ _ _ c.put_boolean.ensures
    c.read_statements.ensures.read c.in_ok-last.was c.end.ensures c.in_ok-after.was c.put_statement.ensures)

pub invariant_of-beside : goal.invariant_of-beside
invariant_of-beside c = record { octets = λ p. omega (arith, c.type_inv.request p) }
