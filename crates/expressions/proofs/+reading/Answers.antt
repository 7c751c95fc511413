use mathlib.Core.Path.{refl, sym, ap, ◌∙◌}
use native.Mathlib.Omega.{arith}
use borrow.Author.Rules.{rules}
use Rattle.std.proofs.lemmas.Result.{err_from_is_err_and}
use Rattle.expressions.proofs.ReadyLaws.{relations-known}
use Rattle.expressions.proofs.Codes.{leveled-stands, clause-stood}
use Rattle.expressions.proofs.BooleanLaws.{tests-values, boolean-refused}
use Rattle.expressions.proofs.ValueLaws.{literal-wrote, reference-wrote, value-refused}
use Rattle.expressions.proofs.ClauseLaws.{keys_none, direction-stopped, sort-stopped, more-refused, more-end}
use Rattle.expressions.proofs.RseLaws.{rse-stopped, rse-clauses-stopped, rse-read}
use Rattle.expressions.proofs.StatisticLaws.{statistic-head-stopped, statistic-clauses-stopped, statistic-number-stopped, statistic-unfit, statistic-read}
use Rattle.expressions.proofs.ValuesReady.{first_stops, missing-taken, second-stops, search-taken, compare-taken, third-stops, between-taken}
use Rattle.expressions.proofs.ValuesReady.{statistic-taken, count-taken, negate-stops, negate-taken, operand-stops, other-stops, arithmetic-taken}
use Rattle.expressions.proofs.ClausesReady.{connect-stopped, connect-read, not-read, quantify-read, test_read, test-stops, key-stops, keys-read, sort-read}
use Rattle.expressions.proofs.ClausesReady.{such-stops, such-read, sorted-stops, sorted-read}
use Rattle.expressions.proofs.+reading.Goals as goal
use Prim.Native.Nat.{◌+◌, ◌-◌, ◌*◌, ◌<◌}
use Rattle.references.specs.Promises.{environment_of}
use Rattle.wire.specs.Classes.{value_class, boolean_class, direction_class}
use Rattle.grammar.specs.Reader.{coded, read}
use Rattle.grammar.specs.Rses.{count_byte}
use Rattle.grammar.specs.Internal.Steps.{same}
use Rattle.grammar.proofs.StepLaws.{answer-refused, same-read, cursor-read, cursor-refused}
use Rattle.expressions.specs.Promises.{leveled, clause_coded}

pub booleans::read_boolean-returns-in_err-k : goal.booleans::read_boolean-returns-in_err-k
booleans::read_boolean-returns-in_err-k t c =
    let p = err_from_is_err_and c.from_residual.result c.from_residual.ensures.1 in
    rw (p.1, p.2) (λ g. boolean-refused _ _ _ _ _ (answer-refused same (leveled boolean_class _ _ _) (sym c.in_err-k.was ∙ c.code_at.ensures)))

pub booleans::read_boolean-overflow_sub-below : goal.booleans::read_boolean-overflow_sub-below
booleans::read_boolean-overflow_sub-below t c =
    let stands = leveled-stands boolean_class _ _ _ (same-read (leveled boolean_class _ _ _) (sym c.in_ok-k.was ∙ c.code_at.ensures)) in
    omega (arith, stands.some)

pub booleans::read_boolean-read_boolean-requires : goal.booleans::read_boolean-read_boolean-requires
booleans::read_boolean-read_boolean-requires t c =
    let stands = leveled-stands boolean_class _ _ _ (same-read (leveled boolean_class _ _ _) (sym c.in_ok-k.was ∙ c.code_at.ensures)) in
    let falls : (c.args.levels - 1) * 1024 < t = omega (arith, c.decreases, stands.some) in
    search (rules, falls)

pub booleans::read_boolean-returns-in_err-second-in-Connect : goal.booleans::read_boolean-returns-in_err-second-in-Connect
booleans::read_boolean-returns-in_err-second-in-Connect t c =
    let p = err_from_is_err_and c.from_residual-in_err-second-in-Connect.result c.from_residual-in_err-second-in-Connect.ensures.1 in
    rw (p.1, p.2) (connect-stopped _ _ _ _ _ _ (same-read (leveled boolean_class _ _ _) (sym c.in_ok-k.was ∙ c.code_at.ensures)) c.in-Connect.is
    c.read_boolean.ensures c.in_err-second-in-Connect.was)

pub booleans::read_boolean-read_boolean-requires-in-Connect : goal.booleans::read_boolean-read_boolean-requires-in-Connect
booleans::read_boolean-read_boolean-requires-in-Connect t c =
    let stands = leveled-stands boolean_class _ _ _ (same-read (leveled boolean_class _ _ _) (sym c.in_ok-k.was ∙ c.code_at.ensures)) in
    let falls : (c.args.levels - 1) * 1024 < t = omega (arith, c.decreases, stands.some) in
    search (rules, falls)

pub booleans::read_boolean-read_boolean-requires-in-Not : goal.booleans::read_boolean-read_boolean-requires-in-Not
booleans::read_boolean-read_boolean-requires-in-Not t c =
    let stands = leveled-stands boolean_class _ _ _ (same-read (leveled boolean_class _ _ _) (sym c.in_ok-k.was ∙ c.code_at.ensures)) in
    let falls : (c.args.levels - 1) * 1024 < t = omega (arith, c.decreases, stands.some) in
    search (rules, falls)

pub booleans::read_boolean-read_rse-requires : goal.booleans::read_boolean-read_rse-requires
booleans::read_boolean-read_rse-requires t c =
    let stands = leveled-stands boolean_class _ _ _ (same-read (leveled boolean_class _ _ _) (sym c.in_ok-k.was ∙ c.code_at.ensures)) in
    let falls : (c.args.levels - 1) * 1024 + 306 < t = omega (arith, c.decreases, stands.some) in
    search (rules, falls)

pub booleans::read_boolean-read_test-requires : goal.booleans::read_boolean-read_test-requires
booleans::read_boolean-read_test-requires t c =
    let stands = leveled-stands boolean_class _ _ _ (same-read (leveled boolean_class _ _ _) (sym c.in_ok-k.was ∙ c.code_at.ensures)) in
    let falls : (c.args.levels - 1) * 1024 + 1 < t = omega (arith, c.decreases, stands.some) in
    let tests = tests-values c.in_ok-k.k c.in_default.not-Connect c.in_default.not-Not c.in_default.not-Quantify in
    search (rules, falls, tests, stands.place)

pub booleans::read_boolean-returns-in_ok-second-in-Connect : goal.booleans::read_boolean-returns-in_ok-second-in-Connect
booleans::read_boolean-returns-in_ok-second-in-Connect t c =
    connect-read _ _ _ _ _ _ (same-read (leveled boolean_class _ _ _) (sym c.in_ok-k.was ∙ c.code_at.ensures)) c.in-Connect.is
    c.read_boolean.ensures c.args.beside.now.octets c.in_ok-second-in-Connect.was c.read_boolean-in-Connect.ensures

pub booleans::read_boolean-returns-in-Not : goal.booleans::read_boolean-returns-in-Not
booleans::read_boolean-returns-in-Not t c =
    not-read _ _ _ _ _ _ (same-read (leveled boolean_class _ _ _) (sym c.in_ok-k.was ∙ c.code_at.ensures)) c.in-Not.is c.read_boolean-in-Not.ensures

pub booleans::read_boolean-returns-in-Quantify : goal.booleans::read_boolean-returns-in-Quantify
booleans::read_boolean-returns-in-Quantify t c =
    quantify-read _ _ _ _ _ _ (same-read (leveled boolean_class _ _ _) (sym c.in_ok-k.was ∙ c.code_at.ensures)) c.in-Quantify.is
    c.quantifier_code.ensures c.read_rse.ensures

pub booleans::read_boolean-returns-in_err-after-in_default : goal.booleans::read_boolean-returns-in_err-after-in_default
booleans::read_boolean-returns-in_err-after-in_default t c =
    let p = err_from_is_err_and c.from_residual-in_err-after-in_default.result c.from_residual-in_err-after-in_default.ensures.1 in
    rw (p.1, p.2) (test-stops _ _ _ _ _ _ (same-read (leveled boolean_class _ _ _) (sym c.in_ok-k.was ∙ c.code_at.ensures))
    c.read_test.ensures c.in_err-after-in_default.was)

pub booleans::read_boolean-returns-in_ok-after-in_default : goal.booleans::read_boolean-returns-in_ok-after-in_default
booleans::read_boolean-returns-in_ok-after-in_default t c = test_read _ _ _ _ _ _
    (same-read (leveled boolean_class _ _ _) (sym c.in_ok-k.was ∙ c.code_at.ensures)) c.read_test.ensures c.in_ok-after-in_default.was

pub clauses::read_clauses-returns : goal.clauses::read_clauses-returns
clauses::read_clauses-returns t c = c.read_more.ensures

pub clauses::read_keys-returns-then-left-eq0 : goal.clauses::read_keys-returns-then-left-eq0
clauses::read_keys-returns-then-left-eq0 t c = λ g. keys_none _ _ _ _ c.if-left-eq0.true

pub clauses::read_keys-returns-in_err-first : goal.clauses::read_keys-returns-in_err-first
clauses::read_keys-returns-in_err-first t c =
    let p = err_from_is_err_and c.from_residual.result c.from_residual.ensures.1 in
    rw (p.1, p.2) (λ g. direction-stopped _ _ _ _ c.if-left-eq0.false
    (cursor-refused (coded direction_class _ _) (sym c.in_err-first.was ∙ c.direction_at.ensures)))

pub clauses::read_keys-returns-in_err-next : goal.clauses::read_keys-returns-in_err-next
clauses::read_keys-returns-in_err-next t c =
    let p = err_from_is_err_and c.from_residual-in_err-next.result c.from_residual-in_err-next.ensures.1 in
    rw (p.1, p.2) (key-stops _ _ _ _ _ _ _ c.if-left-eq0.false
    (cursor-read (coded direction_class _ _) (sym c.in_ok-first.was ∙ c.direction_at.ensures)).1 c.read_value.ensures c.in_err-next.was)

pub clauses::read_keys-returns : goal.clauses::read_keys-returns
clauses::read_keys-returns t c = keys-read _ _ _ _ _ _ _ c.if-left-eq0.false
    (cursor-read (coded direction_class _ _) (sym c.in_ok-first.was ∙ c.direction_at.ensures)).1 c.read_value.ensures
    c.args.beside.now.octets c.in_ok-next.was c.read_keys.ensures

pub clauses::read_sort-returns-in_err-n : goal.clauses::read_sort-returns-in_err-n
clauses::read_sort-returns-in_err-n t c =
    let p = err_from_is_err_and c.from_residual.result c.from_residual.ensures.1 in
    rw (p.1, p.2) (λ g. sort-stopped _ _ _ _ (answer-refused same (count_byte _ _) (sym c.in_err-n.was ∙ c.count_byte.ensures)))

pub clauses::read_sort-returns : goal.clauses::read_sort-returns
clauses::read_sort-returns t c =
    sort-read _ _ _ _ _ _ (same-read (count_byte _ _) (sym c.in_ok-n.was ∙ c.count_byte.ensures)) c.read_keys.ensures

pub rses::read_rse-returns-in_err-first : goal.rses::read_rse-returns-in_err-first
rses::read_rse-returns-in_err-first t c =
    let p = err_from_is_err_and c.from_residual.result c.from_residual.ensures.1 in
    rw (p.1, p.2) (rse-stopped _ _ _ (environment_of c.args.beside.now.dictionary.now c.args.beside.now.around.now)
    (relations-known _ c.args.beside.now.around.now) c.args.levels c.args.opener _ c.read_head.ensures c.in_err-first.was)

pub rses::read_rse-returns-in_err-end : goal.rses::read_rse-returns-in_err-end
rses::read_rse-returns-in_err-end t c =
    let p = err_from_is_err_and c.from_residual-in_err-end.result c.from_residual-in_err-end.ensures.1 in
    rw (p.1, p.2) (rse-clauses-stopped _ _ _ (environment_of c.args.beside.now.dictionary.now c.args.beside.now.around.now)
    (relations-known _ c.args.beside.now.around.now) c.args.levels c.args.opener _ c.read_head.ensures c.args.beside.now.octets
    c.in_ok-first.was c.read_clauses.ensures c.in_err-end.was)

pub rses::read_rse-returns : goal.rses::read_rse-returns
rses::read_rse-returns t c = rse-read _ _ _ (environment_of c.args.beside.now.dictionary.now c.args.beside.now.around.now)
    (relations-known _ c.args.beside.now.around.now) c.args.levels c.args.opener _ c.read_head.ensures c.args.beside.now.octets
    c.in_ok-first.was c.read_clauses.ensures c.in_ok-end.was c.close.ensures

pub clauses::read_more-returns-in_err-k : goal.clauses::read_more-returns-in_err-k
clauses::read_more-returns-in_err-k t c =
    let p = err_from_is_err_and c.from_residual.result c.from_residual.ensures.1 in
    rw (p.1, p.2) (λ g. more-refused _ _ _ _ _ _ _ _ (rw c.is_some.ensures at
    (answer-refused same (clause_coded _ _ _ _ _) (sym c.in_err-k.was ∙ c.clause_at.ensures))))

pub clauses::read_more-overflow_sub-more : goal.clauses::read_more-overflow_sub-more
clauses::read_more-overflow_sub-more t c =
    let stood = clause-stood _ _ _ _ _ (same-read (clause_coded _ _ _ _ _) (sym c.in_ok-k.was ∙ c.clause_at.ensures)) in
    omega (arith, stood.0.some)

pub clauses::read_more-returns-in_err-next-in-Boolean : goal.clauses::read_more-returns-in_err-next-in-Boolean
clauses::read_more-returns-in_err-next-in-Boolean t c =
    let p = err_from_is_err_and c.from_residual-in_err-next-in-Boolean.result c.from_residual-in_err-next-in-Boolean.ensures.1 in
    rw (p.1, p.2) (such-stops _ _ _ _ _ _ _ _ _ (rw c.is_some.ensures at
    (same-read (clause_coded _ _ _ _ _) (sym c.in_ok-k.was ∙ c.clause_at.ensures))) c.in-Boolean.is c.read_boolean.ensures c.in_err-next-in-Boolean.was)

pub clauses::read_more-read_more-requires : goal.clauses::read_more-read_more-requires
clauses::read_more-read_more-requires t c =
    let stood = clause-stood _ _ _ _ _ (same-read (clause_coded _ _ _ _ _) (sym c.in_ok-k.was ∙ c.clause_at.ensures)) in
    let falls : c.args.levels * 1024 + (301 + (c.args.stood.most - 1)) < t = omega (arith, c.decreases, stood.0.some) in
    search (rules, falls)

pub clauses::read_more-returns-in_err-next-in-Sort : goal.clauses::read_more-returns-in_err-next-in-Sort
clauses::read_more-returns-in_err-next-in-Sort t c =
    let p = err_from_is_err_and c.from_residual-in_err-next-in-Sort.result c.from_residual-in_err-next-in-Sort.ensures.1 in
    rw (p.1, p.2) (sorted-stops _ _ _ _ _ _ _ _ _ (rw c.is_some.ensures at
    (same-read (clause_coded _ _ _ _ _) (sym c.in_ok-k.was ∙ c.clause_at.ensures))) c.in-Sort.is c.read_sort.ensures c.in_err-next-in-Sort.was)

pub clauses::read_more-read_more-requires-in-Sort : goal.clauses::read_more-read_more-requires-in-Sort
clauses::read_more-read_more-requires-in-Sort t c =
    let stood = clause-stood _ _ _ _ _ (same-read (clause_coded _ _ _ _ _) (sym c.in_ok-k.was ∙ c.clause_at.ensures)) in
    let falls : c.args.levels * 1024 + (301 + (c.args.stood.most - 1)) < t = omega (arith, c.decreases, stood.0.some) in
    search (rules, falls)

pub clauses::read_more-returns-in_ok-next-in-Boolean : goal.clauses::read_more-returns-in_ok-next-in-Boolean
clauses::read_more-returns-in_ok-next-in-Boolean t c = such-read _ _ _ _ _ _ _ _ _ (rw c.is_some.ensures at
    (same-read (clause_coded _ _ _ _ _) (sym c.in_ok-k.was ∙ c.clause_at.ensures))) c.in-Boolean.is c.read_boolean.ensures
    c.args.beside.now.octets c.in_ok-next-in-Boolean.was c.read_more.ensures

pub clauses::read_more-returns-in_ok-next-in-Sort : goal.clauses::read_more-returns-in_ok-next-in-Sort
clauses::read_more-returns-in_ok-next-in-Sort t c = sorted-read _ _ _ _ _ _ _ _ _ (rw c.is_some.ensures at
    (same-read (clause_coded _ _ _ _ _) (sym c.in_ok-k.was ∙ c.clause_at.ensures))) c.in-Sort.is c.read_sort.ensures
    c.args.beside.now.octets c.in_ok-next-in-Sort.was c.read_more-in-Sort.ensures

pub clauses::read_more-returns-in-End : goal.clauses::read_more-returns-in-End
clauses::read_more-returns-in-End t c = λ g. more-end _ _ _ _ _ _ _ _ (rw c.is_some.ensures at
    (same-read (clause_coded _ _ _ _ _) (sym c.in_ok-k.was ∙ c.clause_at.ensures))) c.in-End.is

pub values::read_statistic-returns-in_err-first : goal.values::read_statistic-returns-in_err-first
values::read_statistic-returns-in_err-first t c =
    let p = err_from_is_err_and c.from_residual.result c.from_residual.ensures.1 in
    rw (p.1, p.2) (statistic-head-stopped _ _ _ (environment_of c.args.beside.now.dictionary.now c.args.beside.now.around.now)
    (relations-known _ c.args.beside.now.around.now) c.args.levels c.args.at c.args.k _ c.statistic_code.ensures c.read_head.ensures c.in_err-first.was)

pub values::read_statistic-returns-in_err-second : goal.values::read_statistic-returns-in_err-second
values::read_statistic-returns-in_err-second t c =
    let p = err_from_is_err_and c.from_residual-in_err-second.result c.from_residual-in_err-second.ensures.1 in
    rw (p.1, p.2) (statistic-clauses-stopped _ _ _ (environment_of c.args.beside.now.dictionary.now c.args.beside.now.around.now)
    (relations-known _ c.args.beside.now.around.now) c.args.levels c.args.at c.args.k _ c.statistic_code.ensures c.read_head.ensures
    c.args.beside.now.octets c.in_ok-first.was c.read_clauses.ensures c.in_err-second.was)

pub values::read_statistic-read_value-requires : goal.values::read_statistic-read_value-requires
values::read_statistic-read_value-requires t c = search (rules, c.decreases)

pub values::read_statistic-returns-in_err-x : goal.values::read_statistic-returns-in_err-x
values::read_statistic-returns-in_err-x t c =
    let p = err_from_is_err_and c.from_residual-in_err-x.result c.from_residual-in_err-x.ensures.1 in
    rw (p.1, p.2) (statistic-number-stopped _ _ _ (environment_of c.args.beside.now.dictionary.now c.args.beside.now.around.now)
    (relations-known _ c.args.beside.now.around.now) c.args.levels c.args.at c.args.k _ c.statistic_code.ensures c.read_head.ensures
    c.args.beside.now.octets c.in_ok-first.was c.read_clauses.ensures c.in_ok-second.was c.read_value.ensures c.in_err-x.was)

pub values::read_statistic-returns-in_err-number : goal.values::read_statistic-returns-in_err-number
values::read_statistic-returns-in_err-number t c =
    let p = err_from_is_err_and c.from_residual-in_err-number.result c.from_residual-in_err-number.ensures.1 in
    rw (p.1, p.2) (statistic-unfit _ _ _ (environment_of c.args.beside.now.dictionary.now c.args.beside.now.around.now)
    (relations-known _ c.args.beside.now.around.now) c.args.levels c.args.at c.args.k _ c.statistic_code.ensures c.read_head.ensures
    c.args.beside.now.octets c.in_ok-first.was c.read_clauses.ensures c.in_ok-second.was c.read_value.ensures c.requires c.in_ok-x.was
    c.negation.ensures c.in_err-number.was)

pub values::read_statistic-shape_of-contexts : goal.values::read_statistic-shape_of-contexts
values::read_statistic-shape_of-contexts t c = omega (arith, c.read_head.auto.contexts, c.read_clauses.auto.contexts, c.read_value.auto.contexts, c.close.auto.contexts)

pub values::read_statistic-returns : goal.values::read_statistic-returns
values::read_statistic-returns t c = statistic-read _ _ _ (environment_of c.args.beside.now.dictionary.now c.args.beside.now.around.now)
    (relations-known _ c.args.beside.now.around.now) c.args.levels c.args.at c.args.k _ c.statistic_code.ensures c.read_head.ensures
    c.args.beside.now.octets c.in_ok-first.was c.read_clauses.ensures c.in_ok-second.was c.read_value.ensures c.requires c.in_ok-x.was
    c.negation.ensures c.in_ok-number.was c.close.ensures

pub booleans::read_test-returns-in_err-x : goal.booleans::read_test-returns-in_err-x
booleans::read_test-returns-in_err-x t c =
    let p = err_from_is_err_and c.from_residual.result c.from_residual.ensures.1 in
    rw (p.1, p.2) (first_stops _ _ _ _ _ _ _ c.read_value.ensures _ c.requires.0 c.in_err-x.was)

pub booleans::read_test-returns-in-Missing : goal.booleans::read_test-returns-in-Missing
booleans::read_test-returns-in-Missing t c =
    missing-taken _ _ _ _ _ _ _ c.read_value.ensures c.args.beside.now.octets c.in_ok-x.was c.in-Missing.is c.requires.1

pub booleans::read_test-returns-in_err-y : goal.booleans::read_test-returns-in_err-y
booleans::read_test-returns-in_err-y t c =
    let p = err_from_is_err_and c.from_residual-in_err-y.result c.from_residual-in_err-y.ensures.1 in
    rw (p.1, p.2) (second-stops _ _ _ _ _ _ _ c.read_value.ensures c.args.beside.now.octets c.in_ok-x.was c.read_value-2.ensures _ c.requires.0
    c.in_default.not-Missing c.in_err-y.was)

pub booleans::read_test-read_value-requires-in-Between : goal.booleans::read_test-read_value-requires-in-Between
booleans::read_test-read_value-requires-in-Between t c = search (rules, c.decreases)

pub booleans::read_test-returns-in_err-z-in-Between : goal.booleans::read_test-returns-in_err-z-in-Between
booleans::read_test-returns-in_err-z-in-Between t c =
    let p = err_from_is_err_and c.from_residual-in_err-z-in-Between.result c.from_residual-in_err-z-in-Between.ensures.1 in
    rw (p.1, p.2) (third-stops _ _ _ _ _ _ _ c.read_value.ensures c.args.beside.now.octets c.in_ok-x.was c.read_value-2.ensures c.in_ok-y.was
    c.in-Between.is c.read_value-in-Between.ensures c.in_err-z-in-Between.was)

pub booleans::read_test-returns-in-Search : goal.booleans::read_test-returns-in-Search
booleans::read_test-returns-in-Search t c = search-taken _ _ _ _ _ _ _ c.read_value.ensures c.args.beside.now.octets c.in_ok-x.was c.read_value-2.ensures
    c.in_ok-y.was c.in-Search.is c.requires.1 c.both_text.ensures c.tested.ensures

pub booleans::read_test-returns-in_ok-z-in-Between : goal.booleans::read_test-returns-in_ok-z-in-Between
booleans::read_test-returns-in_ok-z-in-Between t c = between-taken _ _ _ _ _ _ _ c.read_value.ensures c.args.beside.now.octets c.in_ok-x.was
    c.read_value-2.ensures c.in_ok-y.was c.in-Between.is c.read_value-in-Between.ensures c.in_ok-z-in-Between.was c.requires.1
    c.all_one_kind.ensures c.tested-in-Between.ensures

pub booleans::read_test-returns-in_default-k : goal.booleans::read_test-returns-in_default-k
booleans::read_test-returns-in_default-k t c = compare-taken _ _ _ _ _ _ _ c.read_value.ensures c.args.beside.now.octets c.in_ok-x.was c.read_value-2.ensures
    c.in_ok-y.was _ c.requires.0 c.in_default.not-Missing c.in_default-k.not-Search c.in_default-k.not-Between c.requires.1
    c.one_kind.ensures c.tested-in_default-k.ensures

pub values::read_value-returns-in_err-k : goal.values::read_value-returns-in_err-k
values::read_value-returns-in_err-k t c =
    let p = err_from_is_err_and c.from_residual.result c.from_residual.ensures.1 in
    rw (p.1, p.2) (λ g. value-refused _ _ _ _ _ (answer-refused same (leveled value_class _ _ _) (sym c.in_err-k.was ∙ c.code_at.ensures)))

pub values::read_value-overflow_sub-levels : goal.values::read_value-overflow_sub-levels
values::read_value-overflow_sub-levels t c =
    let stands = leveled-stands value_class _ _ _ (same-read (leveled value_class _ _ _) (sym c.in_ok-k.was ∙ c.code_at.ensures)) in
    omega (arith, stands.some)

pub values::read_value-returns-in-Literal : goal.values::read_value-returns-in-Literal
unfolding environment_of
values::read_value-returns-in-Literal t c = λ g. literal-wrote _ _ _ _ _
    (same-read (leveled value_class _ _ _) (sym c.in_ok-k.was ∙ c.code_at.ensures)) c.version.ensures c.in-Literal.is c.read_literal.ensures

pub values::read_value-returns-in-Reference : goal.values::read_value-returns-in-Reference
values::read_value-returns-in-Reference t c = λ g. reference-wrote _ _ _ _ _
    (same-read (leveled value_class _ _ _) (sym c.in_ok-k.was ∙ c.code_at.ensures)) c.in-Reference.is c.read_reference.ensures

pub values::read_value-read_arithmetic-requires : goal.values::read_value-read_arithmetic-requires
values::read_value-read_arithmetic-requires t c =
    let stands = leveled-stands value_class _ _ _ (same-read (leveled value_class _ _ _) (sym c.in_ok-k.was ∙ c.code_at.ensures)) in
    let falls : (c.args.levels - 1) * 1024 + 1 < t = omega (arith, c.decreases, stands.some) in
    (falls, same-read (leveled value_class _ _ _) (sym c.in_ok-k.was ∙ c.code_at.ensures) ∙ ap (λ k. read k c.in_ok-k.first) c.in-Arithmetic.is)

pub values::read_value-returns-in-Arithmetic : goal.values::read_value-returns-in-Arithmetic
values::read_value-returns-in-Arithmetic t c = c.read_arithmetic.ensures

pub values::read_value-read_negation-requires : goal.values::read_value-read_negation-requires
values::read_value-read_negation-requires t c =
    let stands = leveled-stands value_class _ _ _ (same-read (leveled value_class _ _ _) (sym c.in_ok-k.was ∙ c.code_at.ensures)) in
    let falls : (c.args.levels - 1) * 1024 + 1 < t = omega (arith, c.decreases, stands.some) in
    (falls, same-read (leveled value_class _ _ _) (sym c.in_ok-k.was ∙ c.code_at.ensures) ∙ ap (λ k. read k c.in_ok-k.first) c.in-Negate.is)

pub values::read_value-returns-in-Negate : goal.values::read_value-returns-in-Negate
values::read_value-returns-in-Negate t c = c.read_negation.ensures

pub values::read_value-read_statistic-requires : goal.values::read_value-read_statistic-requires
values::read_value-read_statistic-requires t c =
    let stands = leveled-stands value_class _ _ _ (same-read (leveled value_class _ _ _) (sym c.in_ok-k.was ∙ c.code_at.ensures)) in
    let falls : (c.args.levels - 1) * 1024 + 306 < t = omega (arith, c.decreases, stands.some) in
    search (rules, falls, stands.place)

pub values::read_value-returns-in-Statistic : goal.values::read_value-returns-in-Statistic
values::read_value-returns-in-Statistic t c = statistic-taken _ _ _ _ _ _
    (same-read (leveled value_class _ _ _) (sym c.in_ok-k.was ∙ c.code_at.ensures)) c.in-Statistic.is c.read_statistic.ensures

pub values::read_value-read_count-requires : goal.values::read_value-read_count-requires
values::read_value-read_count-requires t c =
    let stands = leveled-stands value_class _ _ _ (same-read (leveled value_class _ _ _) (sym c.in_ok-k.was ∙ c.code_at.ensures)) in
    let falls : (c.args.levels - 1) * 1024 + 307 < t = omega (arith, c.decreases, stands.some) in
    (falls, same-read (leveled value_class _ _ _) (sym c.in_ok-k.was ∙ c.code_at.ensures) ∙ ap (λ k. read k c.in_ok-k.first) c.in-Count.is)

pub values::read_value-returns-in-Count : goal.values::read_value-returns-in-Count
values::read_value-returns-in-Count t c = c.read_count.ensures

-- ---- what stands under a value's code

pub values::read_arithmetic-overflow_sub-below : goal.values::read_arithmetic-overflow_sub-below
values::read_arithmetic-overflow_sub-below t c =
    let stands = leveled-stands value_class _ _ _ c.requires in
    omega (arith, stands.some)

pub values::read_arithmetic-returns-in_err-x : goal.values::read_arithmetic-returns-in_err-x
values::read_arithmetic-returns-in_err-x t c =
    let p = err_from_is_err_and c.from_residual.result c.from_residual.ensures.1 in
    rw (p.1, p.2) (operand-stops _ _ _ _ _ _ c.requires c.read_value.ensures refl c.in_err-x.was)

pub values::read_arithmetic-returns-in_err-y : goal.values::read_arithmetic-returns-in_err-y
values::read_arithmetic-returns-in_err-y t c =
    let p = err_from_is_err_and c.from_residual-in_err-y.result c.from_residual-in_err-y.ensures.1 in
    rw (p.1, p.2) (other-stops _ _ _ _ _ _ c.requires c.read_value.ensures c.args.beside.now.octets c.in_ok-x.was refl
    c.read_value-2.ensures c.in_err-y.was)

pub values::read_arithmetic-returns : goal.values::read_arithmetic-returns
unfolding environment_of
values::read_arithmetic-returns t c = arithmetic-taken _ _ _ _ _ _ c.requires c.read_value.ensures c.args.beside.now.octets
    c.in_ok-x.was refl c.read_value-2.ensures c.version.ensures c.in_ok-y.was c.arithmetic.ensures

pub values::read_negation-overflow_sub-levels : goal.values::read_negation-overflow_sub-levels
values::read_negation-overflow_sub-levels t c =
    let stands = leveled-stands value_class _ _ _ c.requires in
    omega (arith, stands.some)

pub values::read_negation-returns-in_err-x : goal.values::read_negation-returns-in_err-x
values::read_negation-returns-in_err-x t c =
    let p = err_from_is_err_and c.from_residual.result c.from_residual.ensures.1 in
    rw (p.1, p.2) (negate-stops _ _ _ _ _ _ c.requires c.read_value.ensures refl c.in_err-x.was)

pub values::read_negation-returns : goal.values::read_negation-returns
values::read_negation-returns t c = negate-taken _ _ _ _ _ _ c.requires c.read_value.ensures c.args.beside.now.octets
    c.in_ok-x.was refl c.negation.ensures

pub values::read_count-overflow_sub-levels : goal.values::read_count-overflow_sub-levels
values::read_count-overflow_sub-levels t c =
    let stands = leveled-stands value_class _ _ _ c.requires in
    omega (arith, stands.some)

pub values::read_count-returns : goal.values::read_count-returns
values::read_count-returns t c = count-taken _ _ _ _ _ _ c.requires refl c.read_rse.ensures c.counted.ensures
