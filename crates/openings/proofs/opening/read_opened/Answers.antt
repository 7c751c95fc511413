use native.Mathlib.Omega.{arith}
use Rattle.grammar.proofs.StepLaws.{absurd-eq}
use Rattle.references.specs.Promises.{environment_of}
use Rattle.openings.proofs.OpenLaws.{opens-nothing}
use Rattle.openings.proofs.OpenHeadings.{opens-modify, opens-store, opening-none, heading-coded}
use Rattle.openings.proofs.opening.read_opened.Goals as goal

pub returns-in-For : goal.returns-in-For
unfolding environment_of
returns-in-For c = λ e ready. record { for_opens = λ k. c.read_head.ensures ready; heading_opens = λ n. absurd (n c.in-For.is) }

pub returns-in-Modify : goal.returns-in-Modify
returns-in-Modify c = λ e ready. rw c.in-Modify.is (heading-coded (λ k. absurd-eq (cc))
    (opens-modify ready c.modify_context-declared.result c.modify_context-declared.ensures c.update.ensures (omega (arith, e))))

pub returns-in-Send : goal.returns-in-Send
returns-in-Send c = λ e ready. rw c.in-Send.is (heading-coded (λ k. absurd-eq (cc)) (c.read_send.ensures _ _ ready))

pub returns-in-Store : goal.returns-in-Store
unfolding environment_of
returns-in-Store c = λ e ready. rw c.in-Store.is (heading-coded (λ k. absurd-eq (cc))
    (opens-store ready c.args.beside.now.octets c.read_stream-declared.result (c.read_stream-declared.ensures ready.is-proper) c.update-in-Store.ensures e))

pub returns-in-Label : goal.returns-in-Label
returns-in-Label c = λ e ready. rw c.in-Label.is (heading-coded (λ k. absurd-eq (cc)) (c.read_label.ensures _ _ _ ready))

pub returns-in_default : goal.returns-in_default
returns-in_default c = λ e ready. rw c.new.ensures (heading-coded c.in_default.not-For (opens-nothing ready.scope_whole
    (opening-none _ _ _ _ _ c.args.x.code c.in_default.not-Modify c.in_default.not-Send c.in_default.not-Store c.in_default.not-Label)))
