-- `inputs::literals::literal` meets its contract. Assumes nothing.
use mathlib.Core.Path.{sym, ◌∙◌}
use native.Mathlib.Omega.{arith}
use Rattle.wire.specs.Classes.{literal_class}
use Rattle.inputs.proofs.LiteralLaws.{class-due, no-literal, literal-due, literal-not}
use Rattle.inputs.proofs.literals.literal.Goals as goal

pub returns-then-request-at : goal.returns-then-request-at
returns-then-request-at c m e = no-literal c.args.request.now c.args.at (omega arith)

pub returns-in-Ok : goal.returns-in-Ok
returns-in-Ok c m e =
    c.literal_of.ensures m e ∙
    literal-due c.args.request.now c.args.at c.in-Ok.t c.byte_at.result
    (class-due (literal_class c.byte_at.result) c.in-Ok.t (sym c.in-Ok.is ∙ c.of.ensures)) c.byte_at.ensures

pub returns-in-Err : goal.returns-in-Err
returns-in-Err c m e = literal-not c.args.request.now c.args.at c.in-Err.field-0 c.byte_at.result (sym c.in-Err.is ∙ c.of.ensures) c.byte_at.ensures
