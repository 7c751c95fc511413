-- `messages::declared::parameter_fit` meets its contract. A law for each way through it. Assumes nothing.
use mathlib.Core.Path.{ap, ◌∙◌}
use Rattle.std.specs.Prelude.{Some}
use Rattle.messages.proofs.Parameters.{no-message, no-parameter, parameter-past, parameter-row}
use Rattle.messages.proofs.declared.parameter_fit.Goals as goal
use Rattle.messages.proofs.declared.parameter_fit.Goals.{then-message-ge-MAX_MESSAGES-via-then-message-ge-MAX_MESSAGES, then-message-ge-MAX_MESSAGES-via-else-message-ge-MAX_MESSAGES+then-around-message}

pub returns-then-message-ge-MAX_MESSAGES : goal.returns-then-message-ge-MAX_MESSAGES
returns-then-message-ge-MAX_MESSAGES c = elim c.then-message-ge-MAX_MESSAGES.branch [
  | then-message-ge-MAX_MESSAGES-via-then-message-ge-MAX_MESSAGES w ↦ no-message c.args.around.now c.args.message c.args.i w.if-message-ge-MAX_MESSAGES.true
  | then-message-ge-MAX_MESSAGES-via-else-message-ge-MAX_MESSAGES+then-around-message w ↦ no-parameter c.args.around.now c.args.message c.args.i w.if-message-ge-MAX_MESSAGES.false w.if-around-message.true
]

pub returns-then-row-ge-MAX_PARAMETERS : goal.returns-then-row-ge-MAX_PARAMETERS
returns-then-row-ge-MAX_PARAMETERS c =
    parameter-past c.args.around.now c.args.message c.args.i c.if-message-ge-MAX_MESSAGES.false c.if-around-message.false c.if-row-ge-MAX_PARAMETERS.true

pub returns : goal.returns
returns c = ap Some c.descriptor_fit.ensures ∙
    parameter-row c.args.around.now c.args.message c.args.i c.if-message-ge-MAX_MESSAGES.false c.if-around-message.false c.if-row-ge-MAX_PARAMETERS.false
