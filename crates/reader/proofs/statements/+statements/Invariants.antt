use Rattle.std.proofs.Common.{◌+◌, ◌*◌, ◌-◌}
use Rattle.wire.specs.Limits.{max_statements}
use Rattle.reader.specs.Lent.{Kept, tables_in, environment_in, scope_in}
use Rattle.reader.proofs.Selects.{ReceivesFrom}
use Rattle.reader.proofs.StatementLaws.{ManyFrom}
use Rattle.reader.proofs.statements.+statements.Given as goal

abbrev pub decreases-read_coded : goal.decreases-read_coded
decreases-read_coded l = l.level.left * 4 + 2

abbrev pub decreases-read_if : goal.decreases-read_if
decreases-read_if l = l.level.left * 4 + 5

abbrev pub decreases-read_opening : goal.decreases-read_opening
decreases-read_opening l = l.level.left * 4 + 5

abbrev pub decreases-read_select : goal.decreases-read_select
decreases-read_select l = l.level.left * 4 + 5

abbrev pub decreases-read_statement : goal.decreases-read_statement
decreases-read_statement l = l.level.left * 4 + 3

abbrev pub decreases-read_statements : goal.decreases-read_statements
decreases-read_statements l = l.level.left * 4 + 5

abbrev pub invariant-read_select-loop : goal.invariant-read_select-loop
invariant-read_select-loop l = record {
  kept : Kept l.initial.rows l.rows;
  from : ReceivesFrom l.beside.request.now l.beside.dictionary.now l.scope (environment_in l.beside) (scope_in l.beside l.scope) l.level l.initial.at
      (tables_in l.initial.rows) (max_statements - l.counter) l.seen l.at (tables_in l.rows);
}

abbrev pub invariant-read_statements-loop : goal.invariant-read_statements-loop
invariant-read_statements-loop l = record {
  kept : Kept l.initial.rows l.rows;
  from : ManyFrom l.beside.request.now l.beside.dictionary.now l.scope (environment_in l.beside) (scope_in l.beside l.scope) l.level l.initial.at
      (tables_in l.initial.rows) (max_statements - l.counter) l.at (tables_in l.rows);
}
