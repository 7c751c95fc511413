-- `surroundings::images::described` meets its contract. By the class of the code, if it is a byte. Assumes nothing.
use Prim.Native.Nat.{◌%◌}
use mathlib.Core.Path.{ap, ◌∙◌}
use Rattle.surroundings.specs.Tables.{parameter_is}
use Rattle.surroundings.proofs.ParameterLoops.{far-code, due-code, undue-code}
use Rattle.surroundings.proofs.images.described.Goals as goal

pub returns-in_err-code : goal.returns-in_err-code
returns-in_err-code c = ap parameter_is c.from_residual.ensures
    ∙ far-code c.args.code (c.args.scale % 256) c.args.held c.args.p c.try_from.result c.try_from.ensures c.in_err-code.ensures.value

pub returns-in_err-t : goal.returns-in_err-t
returns-in_err-t c = ap parameter_is c.from_residual-in_err-t.ensures
    ∙ undue-code c.args.code (c.args.scale % 256) c.args.held c.args.p c.try_from.result c.try_from.ensures c.in_ok-code.code
    c.in_ok-code.ensures.value c.of.result c.of.ensures c.in_err-t.ensures.value

pub returns : goal.returns
returns c = due-code c.args.code (c.args.scale % 256) c.args.held c.args.p c.try_from.result c.try_from.ensures c.in_ok-code.code
    c.in_ok-code.ensures.value c.of.result c.of.ensures c.in_ok-t.t c.size_held.result c.in_ok-t.ensures.value c.size_held.ensures
