use Rattle.std.proofs.Common.{◌≡◌, ap, ◌∙◌, rules, Err}
use Rattle.expressions.specs.Promises.{test_answer}
use Rattle.reader.proofs.Branches.{assignment-stopped, target-stopped, assignment-wrote}
use Rattle.reader.proofs.statements.read_assignment.Goals as goal

pub returns-in_err-a : goal.returns-in_err-a
returns-in_err-a c =
    let e : c.from_residual.result ≡ Err c.in_err-a.field-0.0 = search rules in
    rw e (assignment-stopped _ _ _ _ c.args.x (c.read_value.ensures c.requires.0) c.in_err-a.was)

pub returns-in_err-b : goal.returns-in_err-b
returns-in_err-b c =
    let e : c.from_residual-in_err-b.result ≡ Err c.in_err-b.field-0.0 = search rules in
    rw e (target-stopped _ _ _ _ c.args.x (c.read_value.ensures c.requires.0) c.in_ok-a.was c.read_target.ensures c.in_err-b.was)

pub returns-in_err-last : goal.returns-in_err-last
returns-in_err-last c =
    let e : c.from_residual-in_err-last.result ≡ Err c.in_err-last.field-0.0 = search rules in
    let w = assignment-wrote _ _ _ _ c.args.x (c.read_value.ensures c.requires.0) c.in_ok-a.was c.read_target.ensures c.requires.1 c.in_ok-b.was
    (c.tested.ensures ∙ ap (λ b. test_answer b c.args.x.at c.in_ok-b.after) c.one_kind.ensures) in
    rw e (rw c.in_err-last.was at w)

pub returns : goal.returns
returns c =
    let w = assignment-wrote _ _ _ _ c.args.x (c.read_value.ensures c.requires.0) c.in_ok-a.was c.read_target.ensures c.requires.1 c.in_ok-b.was
    (c.tested.ensures ∙ ap (λ b. test_answer b c.args.x.at c.in_ok-b.after) c.one_kind.ensures) in
    rw c.in_ok-last.was at w
