-- `messages::reading::read_message` meets its contract. A law for each way through it. Assumes nothing.
use mathlib.Core.Path.{◌≡◌, sym, ap, ◌∙◌}
use Rattle.std.proofs.Common.{rules}
use Rattle.std.specs.Prelude.{Err, is_some}
use Rattle.grammar.specs.Reader.{byte, word}
use Rattle.grammar.specs.Internal.Steps.{same}
use Rattle.grammar.proofs.StepLaws.{answer-refused, message-read, same-read}
use Rattle.messages.proofs.Found.{found-some}
use Rattle.messages.proofs.Readings.{Opened, Begun, told-ended, told-again, told-cut, told-great, told_over, told-read, told-untold}
use Rattle.messages.proofs.reading.read_message.Goals as goal
use Rattle.messages.proofs.reading.read_message.Goals.{then-parameters-gt-MAX_MESSAGE_PARAMETERS-via-then-parameters-gt-MAX_MESSAGE_PARAMETERS}
use Rattle.messages.proofs.reading.read_message.Goals.{then-parameters-gt-MAX_MESSAGE_PARAMETERS-via-else-parameters-gt-MAX_MESSAGE_PARAMETERS+then-rows-parameters-gt-MAX_PARAMETERS}

pub returns-in_err-m : goal.returns-in_err-m
returns-in_err-m c =
    let f : c.from_residual.result ≡ Err c.in_err-m.field-0.0 = search rules in
    rw f (told-ended c.args.v c.requires.0 c.args.request.now c.args.c
    (answer-refused _ (byte c.args.request.now c.args.c) (sym c.in_err-m.was ∙ c.next_number.ensures)))

pub returns-then-is_some : goal.returns-then-is_some
returns-then-is_some c =
    rw c.new.ensures (told-again c.args.v c.requires.0 c.args.request.now c.args.c
    (message-read (byte c.args.request.now c.args.c) (sym c.in_ok-m.was ∙ c.next_number.ensures))
    (sym (found-some c.args.around.now c.in_ok-m.m.0) ∙ sym (ap is_some c.find.ensures) ∙ sym c.is_some.ensures ∙ c.if-is_some.true))

pub returns-in_err-n : goal.returns-in_err-n
returns-in_err-n c =
    let f : c.from_residual-in_err-n.result ≡ Err c.in_err-n.field-0.0 = search rules in
    rw f (told-cut c.args.v c.requires.0 c.args.request.now c.args.c
    (message-read (byte c.args.request.now c.args.c) (sym c.in_ok-m.was ∙ c.next_number.ensures))
    (sym (found-some c.args.around.now c.in_ok-m.m.0) ∙ sym (ap is_some c.find.ensures) ∙ sym c.is_some.ensures ∙ c.if-is_some.false)
    (answer-refused same (word c.args.request.now c.in_ok-m.first) (sym c.in_err-n.was ∙ c.next_word.ensures)))

pub returns-then-parameters-gt-MAX_MESSAGE_PARAMETERS : goal.returns-then-parameters-gt-MAX_MESSAGE_PARAMETERS
returns-then-parameters-gt-MAX_MESSAGE_PARAMETERS c =
    let opened : Opened c.args.request.now c.args.c c.args.around.now c.in_ok-m.m.0 c.in_ok-m.first c.in_ok-n.n c.in_ok-n.second =
    record {
      holds = c.requires.0;
      number = message-read (byte c.args.request.now c.args.c) (sym c.in_ok-m.was ∙ c.next_number.ensures);
      new = sym (found-some c.args.around.now c.in_ok-m.m.0) ∙ sym (ap is_some c.find.ensures) ∙ sym c.is_some.ensures ∙ c.if-is_some.false;
      count = same-read (word c.args.request.now c.in_ok-m.first) (sym c.in_ok-n.was ∙ c.next_word.ensures);
    } in
    elim c.then-parameters-gt-MAX_MESSAGE_PARAMETERS.branch [
      | then-parameters-gt-MAX_MESSAGE_PARAMETERS-via-then-parameters-gt-MAX_MESSAGE_PARAMETERS w ↦
          rw c.new-then-parameters-gt-MAX_MESSAGE_PARAMETERS.ensures (told-great _ (opened) w.if-parameters-gt-MAX_MESSAGE_PARAMETERS.true)
      | then-parameters-gt-MAX_MESSAGE_PARAMETERS-via-else-parameters-gt-MAX_MESSAGE_PARAMETERS+then-rows-parameters-gt-MAX_PARAMETERS w ↦
          rw c.new-then-parameters-gt-MAX_MESSAGE_PARAMETERS.ensures (told_over _ (opened) w.if-parameters-gt-MAX_MESSAGE_PARAMETERS.false
          (rw c.row_count-rows.ensures at w.if-rows-parameters-gt-MAX_PARAMETERS.true))
    ]

pub returns-in_err-after : goal.returns-in_err-after
returns-in_err-after c =
    let f : c.from_residual-in_err-after.result ≡ Err c.in_err-after.field-0.0 = search rules in
    let begun : Begun c.args.v c.args.request.now c.args.c c.args.table.now c.args.around.now c.in_ok-m.m.0 c.in_ok-m.first
    c.in_ok-n.n c.in_ok-n.second c.read_descriptors.new.table c.read_descriptors.new.around c.read_descriptors.result =
    let x = rw c.row_count-rows.ensures at c.first_parameter-x.ensures in
    record {
      opened = record {
        holds = c.requires.0;
        number = message-read (byte c.args.request.now c.args.c) (sym c.in_ok-m.was ∙ c.next_number.ensures);
        new = sym (found-some c.args.around.now c.in_ok-m.m.0) ∙ sym (ap is_some c.find.ensures) ∙ sym c.is_some.ensures ∙ c.if-is_some.false;
        count = same-read (word c.args.request.now c.in_ok-m.first) (sym c.in_ok-n.was ∙ c.next_word.ensures);
      };
      left = c.requires.1;
      few = c.if-parameters-gt-MAX_MESSAGE_PARAMETERS.false;
      room = rw c.row_count-rows.ensures at c.if-rows-parameters-gt-MAX_PARAMETERS.false;
      described = rw x at c.read_descriptors.ensures;
    } in
    rw f (told-untold (begun) c.in_err-after.was)

pub returns : goal.returns
returns c =
    let begun : Begun c.args.v c.args.request.now c.args.c c.args.table.now c.args.around.now c.in_ok-m.m.0 c.in_ok-m.first
    c.in_ok-n.n c.in_ok-n.second c.read_descriptors.new.table c.read_descriptors.new.around c.read_descriptors.result =
    let x = rw c.row_count-rows.ensures at c.first_parameter-x.ensures in
    record {
      opened = record {
        holds = c.requires.0;
        number = message-read (byte c.args.request.now c.args.c) (sym c.in_ok-m.was ∙ c.next_number.ensures);
        new = sym (found-some c.args.around.now c.in_ok-m.m.0) ∙ sym (ap is_some c.find.ensures) ∙ sym c.is_some.ensures ∙ c.if-is_some.false;
        count = same-read (word c.args.request.now c.in_ok-m.first) (sym c.in_ok-n.was ∙ c.next_word.ensures);
      };
      left = c.requires.1;
      few = c.if-parameters-gt-MAX_MESSAGE_PARAMETERS.false;
      room = rw c.row_count-rows.ensures at c.if-rows-parameters-gt-MAX_PARAMETERS.false;
      described = rw x at c.read_descriptors.ensures;
    } in
    told-read (begun) c.in_ok-after.was c.add_message.ensures
