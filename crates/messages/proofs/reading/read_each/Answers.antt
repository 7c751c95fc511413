use Prim.Native.Nat.{◌+◌, ◌-◌}
use mathlib.Core.Path.{◌≡◌, sym, ◌∙◌}
use native.Mathlib.Omega.{arith}
use Rattle.std.proofs.Common.{rules}
use Rattle.std.specs.Prelude.{Err}
use Rattle.wire.specs.Limits.{max_messages}
use Rattle.grammar.specs.Reader.{peek}
use Rattle.grammar.specs.Internal.Steps.{same}
use Rattle.grammar.proofs.StepLaws.{same-read, answer-refused}
use Rattle.messages.proofs.Readings.{none-reached, reached-more, peek-within}
use Rattle.messages.proofs.Readings.{each-ended, each_all, each-untold, each_last}
use Rattle.messages.proofs.reading.read_each.Goals as goal

pub loop-init : goal.loop-init
loop-init c = none-reached c.args.v c.args.request.now c.args.c c.args.table.now c.args.around.now c.told-around (c.fill.ensures.after (λ y e. e))

pub returns-in_err-x : goal.returns-in_err-x
returns-in_err-x c =
    let f : c.from_residual.result ≡ Err c.in_err-x.field-0.0 = search rules in
    rw f (each-ended c.loop.invariant (answer-refused same (peek c.args.request.now c.loop.at) (sym c.in_err-x.was ∙ c.peek_byte.ensures)))

pub returns-then-x-ne-MESSAGE : goal.returns-then-x-ne-MESSAGE
returns-then-x-ne-MESSAGE c =
    each_all c.loop.invariant (same-read (peek c.args.request.now c.loop.at) (sym c.in_ok-x.was ∙ c.peek_byte.ensures)) c.if-x-ne-MESSAGE.true

pub overflow_add-after : goal.overflow_add-after
overflow_add-after c =
    omega (arith, peek-within c.args.request.now c.loop.at (same-read (peek c.args.request.now c.loop.at) (sym c.in_ok-x.was ∙ c.peek_byte.ensures)))

pub read_message-requires : goal.read_message-requires
read_message-requires c = (c.loop.invariant.holds, omega (arith, c.loop.invariant.counted))

pub returns-in_err-at : goal.returns-in_err-at
returns-in_err-at c =
    let f : c.from_residual-in_err-at.result ≡ Err c.in_err-at.field-0.0 = search rules in
    rw f (each-untold c.loop.invariant (same-read (peek c.args.request.now c.loop.at) (sym c.in_ok-x.was ∙ c.peek_byte.ensures))
    c.if-x-ne-MESSAGE.false (omega arith) c.read_message.ensures c.in_err-at.was)

pub loop-preserved : goal.loop-preserved
loop-preserved c =
    let e : max_messages - (c.loop.counter + 1) ≡ max_messages - c.loop.counter - 1 = omega arith in
    rw e (reached-more c.loop.invariant (same-read (peek c.args.request.now c.loop.at) (sym c.in_ok-x.was ∙ c.peek_byte.ensures))
    c.if-x-ne-MESSAGE.false (omega arith) c.read_message.ensures c.in_ok-at.was)

pub returns : goal.returns
returns c = each_last c.loop.invariant (omega arith) c.no_more.ensures
