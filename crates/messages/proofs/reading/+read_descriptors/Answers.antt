-- `messages::reading::read_descriptors` meets its contract. A law for each way through it. Assumes nothing.
use Prim.Native.Nat.{◌-◌, ◌<◌}
use mathlib.Core.Path.{◌≡◌, sym, ◌∙◌}
use native.Mathlib.Omega.{arith}
use lib.ListN.{length-set}
use Rattle.std.proofs.Common.{rules}
use Rattle.std.specs.Prelude.{Err}
use Rattle.grammar.specs.Messages.{descriptor}
use Rattle.grammar.proofs.StepLaws.{answer-refused}
use Rattle.messages.specs.Declaring.{stored}
use Rattle.messages.proofs.Descriptors.{none-described, descriptors-refused, descriptors-read, descriptor-held}
use Rattle.messages.proofs.reading.+read_descriptors.Goals as goal

pub returns-then-left-eq0 : goal.returns-then-left-eq0
returns-then-left-eq0 t c = none-described c.args.v c.args.x c.args.request.now c.args.c c.args.table.now c.args.around.now c.args.left c.if-left-eq0.true

pub returns-in_err-d : goal.returns-in_err-d
returns-in_err-d t c =
    let f : c.from_residual.result ≡ Err c.in_err-d.field-0.0 = search rules in
    rw f (descriptors-refused c.args.v c.args.x c.args.request.now c.args.c c.args.table.now c.args.around.now c.args.left c.if-left-eq0.false
    (answer-refused stored (descriptor c.args.v c.args.x.offset c.args.request.now c.args.c) (sym c.in_err-d.was ∙ c.read_descriptor.ensures)))

pub put_row-requires : goal.put_row-requires
put_row-requires t c =
    let d = descriptor-held c.args.v c.args.x.offset c.args.request.now c.args.c (sym c.in_ok-d.was ∙ c.read_descriptor.ensures) in
    (omega arith, (omega arith, (omega arith, omega (arith, d.3))))

pub put_descriptor-requires : goal.put_descriptor-requires
put_descriptor-requires t c =
    let d = descriptor-held c.args.v c.args.x.offset c.args.request.now c.args.c (sym c.in_ok-d.was ∙ c.read_descriptor.ensures) in
    (omega arith, omega (arith, d.3))

pub parameter_after-next-requires : goal.parameter_after-next-requires
parameter_after-next-requires t c =
    let d = descriptor-held c.args.v c.args.x.offset c.args.request.now c.args.c (sym c.in_ok-d.was ∙ c.read_descriptor.ensures) in
    (omega arith, (omega arith, (omega arith, omega (arith, d.3))))

pub read_descriptors-requires : goal.read_descriptors-requires
read_descriptors-requires t c =
    let d = descriptor-held c.args.v c.args.x.offset c.args.request.now c.args.c (sym c.in_ok-d.was ∙ c.read_descriptor.ensures) in
    let some = c.if-left-eq0.false in
    let less : c.args.left - 1 < t = omega (arith, c.decreases) in
    rw (c.parameter_after-next.ensures, c.put_descriptor.ensures)
    (less, (omega arith, (omega arith, (d.3, length-set c.args.around.now _ _ ∙ c.requires.1.1.1))))

pub returns : goal.returns
returns t c =
    descriptors-read c.args.v c.args.x c.args.request.now c.args.c c.args.table.now c.args.around.now c.args.left c.if-left-eq0.false
    (sym c.in_ok-d.was ∙ c.read_descriptor.ensures) (omega arith) (omega arith) c.requires.1.1.1
    c.put_row.ensures c.put_descriptor.ensures c.parameter_after-next.ensures c.read_descriptors.ensures
