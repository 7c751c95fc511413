-- `messages::descriptor::read_descriptor` meets its contract. By the code, and by the bytes of the message. Assumes nothing.
use mathlib.Core.Path.{◌≡◌, sym, ap, ◌∙◌}
use native.Mathlib.Omega.{arith}
use Rattle.std.proofs.Common.{rules}
use Rattle.std.specs.Prelude.{Err}
use Rattle.wire.specs.Classes.{descriptor_class}
use Rattle.dictionary.specs.Format.{held}
use Rattle.grammar.specs.Environment.{descriptor_format}
use Rattle.grammar.specs.Reader.{byte, coded}
use Rattle.grammar.specs.Messages.{descriptor_under}
use Rattle.grammar.specs.Internal.Steps.{same}
use Rattle.grammar.proofs.StepLaws.{answer-read, answer-refused, same-read}
use Rattle.messages.specs.Declaring.{scale_held}
use Rattle.messages.proofs.Descriptors.{under-few, stored-code, descriptor-ended, descriptor-whole, descriptor-answer}
use Rattle.messages.proofs.descriptor.read_descriptor.Goals as goal

pub returns-in_err-code : goal.returns-in_err-code
returns-in_err-code c =
    let f : c.from_residual.result ≡ Err c.in_err-code.field-0.0 = search rules in
    rw (
      f,
      descriptor-ended c.args.v c.args.size c.args.request.now c.args.c
          (answer-refused same (byte c.args.request.now c.args.c) (sym c.in_err-code.was ∙ c.next_byte.ensures)),
    )

pub overflow_add-size : goal.overflow_add-size
overflow_add-size c =
    let f = answer-read scale_held (descriptor_under c.in_ok-t.t c.args.request.now c.in_ok-t.first) (sym c.in_ok-scale.was ∙ c.format.ensures) in
    let e : c.in_ok-scale.held ≡ held (descriptor_format f.0) = ap (λ x. x.1) f.2 in
    omega (arith, e, under-few c.args.request.now c.in_ok-t.first f.0 c.in_ok-scale.after c.in_ok-t.t f.1)

pub returns : goal.returns
returns c =
    let k = same-read (coded descriptor_class c.args.request.now c.args.c) (sym c.in_ok-t.was ∙ c.next_code.ensures) in
    let f = answer-read scale_held (descriptor_under c.in_ok-t.t c.args.request.now c.in_ok-t.first) (sym c.in_ok-scale.was ∙ c.format.ensures) in
    let scale : c.in_ok-scale.scale ≡ (descriptor_format f.0).scale = ap (λ x. x.0) f.2 in
    let size : c.in_ok-scale.held ≡ held (descriptor_format f.0) = ap (λ x. x.1) f.2 in
    let code = stored-code c.args.request.now c.args.c (same-read (byte c.args.request.now c.args.c) (sym c.in_ok-code.was ∙ c.next_byte.ensures)) k f.1 in
    let whole = descriptor-whole c.args.v c.args.size c.args.request.now c.args.c k (sym c.type_due.ensures ∙ c.if-not-type_due.false) f.1 (omega (arith, size, c.if-size-held-gt-MAX_MESSAGE_BYTES.false)) in
    descriptor-answer c.args.v c.args.size c.args.request.now c.args.c whole code scale size
