use Prim.Native.Nat.{◌+◌, ◌-◌, ◌*◌}
use Rattle.expressions.proofs.+reading.Given as goal

abbrev pub decreases-booleans::read_boolean : goal.decreases-booleans::read_boolean
decreases-booleans::read_boolean l = l.levels * 1024

abbrev pub decreases-booleans::read_test : goal.decreases-booleans::read_test
decreases-booleans::read_test l = l.levels * 1024 + 1

abbrev pub decreases-clauses::read_clauses : goal.decreases-clauses::read_clauses
decreases-clauses::read_clauses l = l.levels * 1024 + 305

abbrev pub decreases-clauses::read_keys : goal.decreases-clauses::read_keys
decreases-clauses::read_keys l = l.levels * 1024 + (1 + l.left)

abbrev pub decreases-clauses::read_more : goal.decreases-clauses::read_more
decreases-clauses::read_more l = l.levels * 1024 + (301 + l.stood.most)

abbrev pub decreases-clauses::read_sort : goal.decreases-clauses::read_sort
decreases-clauses::read_sort l = l.levels * 1024 + 300

abbrev pub decreases-rses::read_rse : goal.decreases-rses::read_rse
decreases-rses::read_rse l = l.levels * 1024 + 306

abbrev pub decreases-values::read_statistic : goal.decreases-values::read_statistic
decreases-values::read_statistic l = l.levels * 1024 + 306

abbrev pub decreases-values::read_arithmetic : goal.decreases-values::read_arithmetic
decreases-values::read_arithmetic l = (l.levels - 1) * 1024 + 1

abbrev pub decreases-values::read_count : goal.decreases-values::read_count
decreases-values::read_count l = (l.levels - 1) * 1024 + 307

abbrev pub decreases-values::read_negation : goal.decreases-values::read_negation
decreases-values::read_negation l = (l.levels - 1) * 1024 + 1

abbrev pub decreases-values::read_value : goal.decreases-values::read_value
decreases-values::read_value l = l.levels * 1024
