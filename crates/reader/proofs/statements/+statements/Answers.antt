use Rattle.std.proofs.Common.{◌≡◌, ℕ, ◌-◌, ◌+◌, refl, ap, ◌∙◌, rules, arith, Ok, Err}
use Rattle.wire.specs.Limits.{max_statements}
use Rattle.reader.specs.Readers.{level_below}
use Rattle.reader.specs.Lent.{environment_in, scope_in}
use Rattle.reader.proofs.Branches.{condition-part, if-coded, if-stopped, first-stopped, if-cut, if-done, if-goes}
use Rattle.reader.proofs.Headings.{plain-stopped, plain-given, plain-wrote, opened-stopped, opened-wrote}
use Rattle.reader.proofs.Matches.{plain-has}
use Rattle.reader.proofs.Ready.{statement-given, boolean-given, given-ready, coded-inside}
use Rattle.reader.proofs.Selects.{select-coded}
use Rattle.reader.proofs.SelectSteps.{receives-start, turns-over, turn-refused, turn-way, turn-given, turn_stopped, turn-cut, turn-done, turn-goes}
use Rattle.reader.proofs.StatementLaws.{statement-part, statement-wrote, statement-refused, many-ends, many-over, many-stops, many-stopped, many-step, assignment-coded, erase-coded, leave-coded, begin-coded}
use Rattle.reader.proofs.statements.+statements.Goals as goal

pub read_coded-returns-in_err-first-in-Loop-clause-read : goal.read_coded-returns-in_err-first-in-Loop-clause-read
read_coded-returns-in_err-first-in-Loop-clause-read t c =
    let e : c.from_residual.result ≡ Err c.in_err-first-in-Loop.field-0.0 = search rules in
    let p = plain-has c.args.x.code c.in-Loop.is in
    rw e (plain-stopped _ c.requires.given.octets _ _ (level_below c.args.x.after c.args.level) _ c.requires.here refl p.0 p.1
    (c.read_plain.ensures c.args.beside.now.dictionary.now) c.in_err-first-in-Loop.was)

pub read_coded-read_statement-requires : goal.read_coded-read_statement-requires
read_coded-read_statement-requires t c =
    let p = plain-has c.args.x.code c.in-Loop.is in
    rw c.below-inner.ensures (
      omega (arith, c.decreases, c.requires.deep),
      (
        plain-given _ c.requires.given.octets (environment_in c.args.beside.now) (scope_in c.args.beside.now c.args.scope.now)
            (level_below c.args.x.after c.args.level) _ c.requires.here refl p.0 p.1
            (c.read_plain.ensures c.args.beside.now.dictionary.now) c.in_ok-first-in-Loop.was c.requires.given (omega arith),
        c.requires.given.statements_few,
      ),
    )

pub read_coded-returns-in-Assignment-clause-read : goal.read_coded-returns-in-Assignment-clause-read
read_coded-returns-in-Assignment-clause-read t c = assignment-coded _ _ _ _ _ c.in-Assignment.is (rw c.below-inner.ensures at c.read_assignment.ensures)

pub read_coded-returns-in-Erase-clause-read : goal.read_coded-returns-in-Erase-clause-read
read_coded-returns-in-Erase-clause-read t c = erase-coded _ _ _ _ _ c.in-Erase.is (c.erase.ensures c.args.beside.now.dictionary.now)

pub read_coded-returns-in-Leave-clause-read : goal.read_coded-returns-in-Leave-clause-read
read_coded-returns-in-Leave-clause-read t c = leave-coded _ _ _ _ _ c.in-Leave.is (c.leave.ensures c.args.beside.now.dictionary.now)

pub read_coded-returns-in-Begin-clause-read : goal.read_coded-returns-in-Begin-clause-read
read_coded-returns-in-Begin-clause-read t c =
    begin-coded _ _ _ _ _ c.args.level refl c.in-Begin.is c.requires.here c.below-inner.ensures c.read_statements.ensures.read

pub read_coded-returns-in-If-clause-read : goal.read_coded-returns-in-If-clause-read
read_coded-returns-in-If-clause-read t c =
    if-coded _ _ _ _ _ c.in-If.is (rw c.below-inner.ensures at (c.read_if.ensures.read c.args.x.at c.requires.here))

pub read_coded-returns-in-Select-clause-read : goal.read_coded-returns-in-Select-clause-read
read_coded-returns-in-Select-clause-read t c =
    select-coded _ _ _ (level_below c.args.x.after c.args.level) _ c.in-Select.is c.requires.here refl
    (rw c.below-inner.ensures at c.read_select.ensures.read)

pub read_coded-returns-in_ok-first-in-Loop-clause-read : goal.read_coded-returns-in_ok-first-in-Loop-clause-read
read_coded-returns-in_ok-first-in-Loop-clause-read t c =
    let p = plain-has c.args.x.code c.in-Loop.is in
    plain-wrote _ c.requires.given.octets _ _ (level_below c.args.x.after c.args.level) _ c.requires.here refl p.0 p.1
    (c.read_plain.ensures c.args.beside.now.dictionary.now) c.in_ok-first-in-Loop.was (rw c.below-inner.ensures at c.read_statement.ensures.read)

pub read_if-returns-in_err-first-clause-read : goal.read_if-returns-in_err-first-clause-read
read_if-returns-in_err-first-clause-read t c =
    let e : c.from_residual.result ≡ Err c.in_err-first.field-0.0 = search rules in
    λ p h. rw e (if-stopped _ _ _ c.args.level p _ (c.read_boolean.ensures (given-ready c.requires.0)) c.in_err-first.was)

pub read_if-read_statement-requires : goal.read_if-read_statement-requires
read_if-read_statement-requires t c = (
  omega (arith, c.decreases),
  (
    boolean-given c.requires.0 _ _ _ c.requires.1.1 (c.read_boolean.ensures (given-ready c.requires.0)) c.in_ok-first.was c.note-noted.ensures.0,
    omega (arith, c.requires.0.statements_few, c.requires.1.0),
  ),
)

pub read_if-returns-in_err-second-clause-read : goal.read_if-returns-in_err-second-clause-read
read_if-returns-in_err-second-clause-read t c =
    let e : c.from_residual-in_err-second.result ≡ Err c.in_err-second.field-0.0 = search rules in
    λ p h. rw e (first-stopped _ _ _ c.args.level p _ (condition-part c.requires.0 c.requires.1.1 _ _ _ (c.read_boolean.ensures (given-ready c.requires.0))
    c.in_ok-first.was c.note-noted.ensures.0 c.note-noted.ensures.1.0 c.note-noted.ensures.1.1) c.read_statement.ensures.read c.in_err-second.was)

pub read_if-returns-in_err-after-clause-read : goal.read_if-returns-in_err-after-clause-read
read_if-returns-in_err-after-clause-read t c =
    let e : c.from_residual-in_err-after.result ≡ Err c.in_err-after.field-0.0 = search rules in
    λ p h. rw e (if-cut _ _ _ c.args.level p _ (condition-part c.requires.0 c.requires.1.1 _ _ _ (c.read_boolean.ensures (given-ready c.requires.0))
    c.in_ok-first.was c.note-noted.ensures.0 c.note-noted.ensures.1.0 c.note-noted.ensures.1.1) h c.requires.1.0
    (statement-part _ _ _ c.args.level _ c.requires.0.octets c.read_statement.ensures.read c.in_ok-second.was) c.ending_at.ensures c.in_err-after.was)

pub read_if-read_statement-requires-in-None : goal.read_if-read_statement-requires-in-None
read_if-read_statement-requires-in-None t c = (
  omega (arith, c.decreases),
  (
    statement-given (boolean-given c.requires.0 _ _ _ c.requires.1.1 (c.read_boolean.ensures (given-ready c.requires.0)) c.in_ok-first.was
        c.note-noted.ensures.0) _ _ c.args.level c.read_statement.ensures.read c.in_ok-second.was,
    omega (arith, c.requires.0.statements_few, c.requires.1.0),
  ),
)

pub read_if-returns-in-Some-clause-read : goal.read_if-returns-in-Some-clause-read
read_if-returns-in-Some-clause-read t c =
    λ p h. if-done _ _ _ c.args.level p _ (condition-part c.requires.0 c.requires.1.1 _ _ _ (c.read_boolean.ensures (given-ready c.requires.0))
    c.in_ok-first.was c.note-noted.ensures.0 c.note-noted.ensures.1.0 c.note-noted.ensures.1.1) h c.requires.1.0
    (statement-part _ _ _ c.args.level _ c.requires.0.octets c.read_statement.ensures.read c.in_ok-second.was) c.ending_at.ensures
    (c.in_ok-after.was ∙ ap Ok c.in-Some.is)

pub read_if-returns-in-None-clause-read : goal.read_if-returns-in-None-clause-read
read_if-returns-in-None-clause-read t c =
    λ p h. if-goes _ _ _ c.args.level p _ (condition-part c.requires.0 c.requires.1.1 _ _ _ (c.read_boolean.ensures (given-ready c.requires.0))
    c.in_ok-first.was c.note-noted.ensures.0 c.note-noted.ensures.1.0 c.note-noted.ensures.1.1) h c.requires.1.0
    (statement-part _ _ _ c.args.level _ c.requires.0.octets c.read_statement.ensures.read c.in_ok-second.was) c.ending_at.ensures
    c.requires.0.octets (c.in_ok-after.was ∙ ap Ok c.in-None.is) c.read_statement-in-None.ensures.read

pub read_opening-returns-clause-read : goal.read_opening-returns-clause-read
read_opening-returns-clause-read t c =
    opened-wrote c.args.level c.requires.0 c.read_heading.ensures.read c.in_ok-first.was c.read_statement-under.ensures.read c.close.ensures

pub read_select-loop-init : goal.read_select-loop-init
read_select-loop-init t c = record { kept = search rules; from = receives-start c.requires.0 }

pub read_select-returns-in_err-m-clause-read : goal.read_select-returns-in_err-m-clause-read
read_select-returns-in_err-m-clause-read t c =
    let e : c.from_residual.result ≡ Err c.in_err-m.field-0.0 = search rules in
    rw e (turn-refused c.loop.invariant.from (c.receive_at.ensures c.args.beside.now.dictionary.now) (omega (arith, c.loop-test.true)) c.in_err-m.was)

pub read_select-below-requires : goal.read_select-below-requires
read_select-below-requires t c = (turn-way c.loop.invariant.from (c.receive_at.ensures c.args.beside.now.dictionary.now) c.in_ok-m.was).deep

pub read_select-read_statement-one-requires : goal.read_select-read_statement-one-requires
read_select-read_statement-one-requires t c = rw c.below.ensures (
  omega (arith, c.decreases),
  (
    turn-given c.loop.invariant.from (c.receive_at.ensures c.args.beside.now.dictionary.now) c.in_ok-m.was,
    (turn-way c.loop.invariant.from (c.receive_at.ensures c.args.beside.now.dictionary.now) c.in_ok-m.was).few,
  ),
)

pub read_select-returns-in_err-at-clause-read : goal.read_select-returns-in_err-at-clause-read
read_select-returns-in_err-at-clause-read t c =
    let e : c.from_residual-in_err-at.result ≡ Err c.in_err-at.field-0.0 = search rules in
    rw e (turn_stopped c.loop.invariant.from (c.receive_at.ensures c.args.beside.now.dictionary.now) c.in_ok-m.was (omega (arith, c.loop-test.true)) c.below.ensures
    c.put_boolean.ensures c.read_statement-one.ensures.read c.in_err-at.was)

pub read_select-returns-in_err-after-clause-read : goal.read_select-returns-in_err-after-clause-read
read_select-returns-in_err-after-clause-read t c =
    let e : c.from_residual-in_err-after.result ≡ Err c.in_err-after.field-0.0 = search rules in
    rw e (turn-cut c.loop.invariant.from (c.receive_at.ensures c.args.beside.now.dictionary.now) c.in_ok-m.was (omega (arith, c.loop-test.true)) c.below.ensures
    c.put_boolean.ensures c.read_statement-one.ensures.read c.requires.1 c.finish.ensures c.in_ok-at.was c.ending_at.ensures c.in_err-after.was)

pub read_select-returns-in-Some-clause-read : goal.read_select-returns-in-Some-clause-read
read_select-returns-in-Some-clause-read t c =
    turn-done c.loop.invariant.from (c.receive_at.ensures c.args.beside.now.dictionary.now) c.in_ok-m.was (omega (arith, c.loop-test.true)) c.below.ensures
    c.put_boolean.ensures c.read_statement-one.ensures.read c.requires.1 c.finish.ensures c.in_ok-at.was c.ending_at.ensures
    (c.in_ok-after.was ∙ ap Ok c.in-Some.is)

pub read_select-loop-preserved : goal.read_select-loop-preserved
read_select-loop-preserved t c =
    let one : max_statements - (c.loop.counter + 1) ≡ max_statements - c.loop.counter - 1 = omega arith in
    record {
      kept = search rules;
      from = rw one (turn-goes c.loop.invariant.from (c.receive_at.ensures c.args.beside.now.dictionary.now) c.in_ok-m.was (omega (arith, c.loop-test.true))
          c.below.ensures c.put_boolean.ensures c.read_statement-one.ensures.read c.requires.1 c.finish.ensures c.in_ok-at.was c.ending_at.ensures
          (search rules) (c.in_ok-after.was ∙ ap Ok c.in_default.is));
    }

pub read_select-returns-clause-read : goal.read_select-returns-clause-read
read_select-returns-clause-read t c = rw c.new.ensures (turns-over c.loop.invariant.from (omega (arith, c.loop-test.false)))

pub read_statement-returns-in_err-x-clause-read : goal.read_statement-returns-in_err-x-clause-read
read_statement-returns-in_err-x-clause-read t c =
    let e : c.from_residual.result ≡ Err c.in_err-x.field-0.0 = search rules in
    rw e (statement-refused _ _ _ c.args.level _ c.statement_at.ensures c.in_err-x.was)

pub read_statement-read_coded-under-requires : goal.read_statement-read_coded-under-requires
read_statement-read_coded-under-requires t c = (omega (arith, c.decreases), coded-inside c.requires.0 c.statement_at.ensures c.in_ok-x.was)

pub read_statement-returns-clause-read : goal.read_statement-returns-clause-read
read_statement-returns-clause-read t c =
    statement-wrote _ _ _ c.args.level _ c.statement_at.ensures c.requires.0 c.requires.1 c.in_ok-x.was c.put_boolean.ensures
    c.read_coded-under.ensures.read c.finish.ensures

pub read_statements-returns-in_err-after-clause-read : goal.read_statements-returns-in_err-after-clause-read
read_statements-returns-in_err-after-clause-read t c =
    let e : c.from_residual.result ≡ Err c.in_err-after.field-0.0 = search rules in
    rw e (c.loop.invariant.from.rest (many-stops _ _ _ c.args.level _ _ c.ending_at.ensures c.in_err-after.was))

pub read_statements-returns-in-Some-clause-read : goal.read_statements-returns-in-Some-clause-read
read_statements-returns-in-Some-clause-read t c =
    c.loop.invariant.from.rest (many-ends _ _ _ c.args.level _ _ c.ending_at.ensures (c.in_ok-after.was ∙ ap Ok c.in-Some.is))

pub read_statements-returns-in_err-at-clause-read : goal.read_statements-returns-in_err-at-clause-read
read_statements-returns-in_err-at-clause-read t c =
    let e : c.from_residual-in_err-at.result ≡ Err c.in_err-at.field-0.0 = search rules in
    rw e (c.loop.invariant.from.rest (many-stopped _ _ _ c.args.level _ _ c.ending_at.ensures (c.in_ok-after.was ∙ ap Ok c.in_default.is)
    (λ z. omega (arith, z, c.loop-test.true)) c.read_statement.ensures.read c.in_err-at.was))

pub read_statements-loop-preserved : goal.read_statements-loop-preserved
read_statements-loop-preserved t c =
    let one : max_statements - (c.loop.counter + 1) ≡ max_statements - c.loop.counter - 1 = omega arith in
    record {
      kept = search rules;
      from = rw one (record {
        given = statement-given c.loop.invariant.from.given _ _ c.args.level c.read_statement.ensures.read c.in_ok-at.was;
        rest = λ w. c.loop.invariant.from.rest (many-step _ _ _ c.args.level _ _ c.ending_at.ensures (c.in_ok-after.was ∙ ap Ok c.in_default.is)
            (λ z. omega (arith, z, c.loop-test.true)) c.read_statement.ensures.read c.loop.invariant.from.given.octets c.in_ok-at.was w);
      });
    }

pub read_statements-returns-clause-read : goal.read_statements-returns-clause-read
read_statements-returns-clause-read t c =
    c.loop.invariant.from.rest (many-over _ _ _ c.args.level _ _ (omega (arith, c.loop-test.false)) c.due_code.ensures)
