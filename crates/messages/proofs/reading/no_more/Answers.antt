-- `messages::reading::no_more` meets its contract. By the next byte. Assumes nothing.
use mathlib.Core.Path.{◌≡◌, sym, ◌∙◌}
use mathlib.Core.List.{[]}
use Rattle.std.proofs.Common.{rules}
use Rattle.std.specs.Prelude.{Err}
use Rattle.grammar.specs.Reader.{peek}
use Rattle.grammar.proofs.StepLaws.{same-read, answer-refused}
use Rattle.grammar.specs.Internal.Steps.{same}
use Rattle.messages.proofs.Readings.{messages-ended, messages-over, messages-full}
use Rattle.messages.proofs.reading.no_more.Goals as goal

pub returns-in_err-x : goal.returns-in_err-x
returns-in_err-x c v =
    let f : c.from_residual.result ≡ Err c.in_err-x.field-0.0 = search rules in
    let e = answer-refused same (peek c.args.request.now c.args.c) (sym c.in_err-x.was ∙ c.peek_byte.ensures) in
    rw (f, messages-ended v c.args.request.now c.args.c [] 0 e)

pub returns-then-x-eq-MESSAGE : goal.returns-then-x-eq-MESSAGE
returns-then-x-eq-MESSAGE c v = let e = same-read (peek c.args.request.now c.args.c) (sym c.in_ok-x.was ∙ c.peek_byte.ensures) in
    rw (c.new.ensures, messages-full v c.args.request.now c.args.c [] e c.if-x-eq-MESSAGE.true)

pub returns : goal.returns
returns c v = let e = same-read (peek c.args.request.now c.args.c) (sym c.in_ok-x.was ∙ c.peek_byte.ensures) in
    rw (messages-over v c.args.request.now c.args.c [] 0 e c.if-x-eq-MESSAGE.false)
