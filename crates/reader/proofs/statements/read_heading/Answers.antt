use Rattle.std.proofs.Common.{◌≡◌, rules, Err}
use Rattle.expressions.proofs.ReadyLaws.{relations-known}
use Rattle.reader.specs.Lent.{environment_in}
use Rattle.reader.proofs.Ready.{prepared}
use Rattle.reader.proofs.Headings.{opening-read}
use Rattle.reader.proofs.Fors.{opened-refused, clauses-refused, for-read}
use Rattle.reader.proofs.statements.read_heading.Goals as goal

pub returns-in_err-first-clause-read : goal.returns-in_err-first-clause-read
returns-in_err-first-clause-read c =
    let e : c.from_residual.result ≡ Err c.in_err-first.field-0.0 = search rules in
    rw e (opened-refused _ _ _ _ (relations-known _ c.args.beside.now.around.now) c.args.levels _ c.requires.0 c.requires.1
    (c.read_opened.ensures c.requires.0.here (prepared c.requires.0.given)) c.in_err-first.was)

pub returns-in_default : goal.returns-in_default
returns-in_default c = record {
  kept = search rules;
  read = opening-read _ _ _ _ (relations-known _ c.args.beside.now.around.now) c.args.levels _ c.requires.0 c.requires.1 c.in_default.not-For
      ((c.read_opened.ensures c.requires.0.here (prepared c.requires.0.given)).heading_opens c.in_default.not-For) c.in_ok-first.was;
}

pub returns-in_err-such-clause-read : goal.returns-in_err-such-clause-read
returns-in_err-such-clause-read c =
    let e : c.from_residual-in_err-such.result ≡ Err c.in_err-such.field-0.0 = search rules in
    rw e (clauses-refused _ _ _ (environment_in c.args.beside.now) (relations-known _ c.args.beside.now.around.now) c.args.levels _ c.requires.0
    c.in-For.is ((c.read_opened.ensures c.requires.0.here (prepared c.requires.0.given)).for_opens c.in-For.is) c.in_ok-first.was
    c.read_clauses.ensures c.in_err-such.was)

pub returns-clause-read : goal.returns-clause-read
returns-clause-read c =
    for-read _ _ _ (environment_in c.args.beside.now) (relations-known _ c.args.beside.now.around.now) c.args.levels _ c.requires.0
    c.in-For.is ((c.read_opened.ensures c.requires.0.here (prepared c.requires.0.given)).for_opens c.in-For.is) c.in_ok-first.was
    c.read_clauses.ensures c.in_ok-such.was c.note-at.ensures.0 c.note-at.ensures.1.0 c.note-at.ensures.1.1
