use Rattle.std.proofs.Common.{◌≡◌, sym, ap, ◌∙◌, rules, arith, Err, length, replicate}
use Rattle.reader.proofs.Replies.{Cleared, beside-cleared, refuses, refuses-whole, accepts, stops}
use Rattle.reader.proofs.read_cleared.Goals as goal

pub returns-in_err-judge-clause-answered : goal.returns-in_err-judge-clause-answered
returns-in_err-judge-clause-answered c =
    let e : c.from_residual.result ≡ Err c.in_err-judge.field-0.0 = search rules in
    rw e (stops _ _ _ _ _ _ c.requires (λ p. omega (arith, c.type_inv.request p)) (λ p. omega (arith, c.type_inv.dictionary p))
    (sym c.judge.ensures ∙ c.in_err-judge.was))

pub read_whole-requires : goal.read_whole-requires
read_whole-requires c = beside-cleared _ _ _ _ _ _ (record {
  before_goes = sym c.judge.ensures ∙ c.in_ok-judge.was;
  request_octets = λ p. omega (arith, c.type_inv.request p);
  dictionary_octets = λ p. omega (arith, c.type_inv.dictionary p);
  zeros = c.requires;
})

pub returns-in-Ok-clause-answered : goal.returns-in-Ok-clause-answered
returns-in-Ok-clause-answered c = accepts _ _ _ _ _ _ (record {
  before_goes = sym c.judge.ensures ∙ c.in_ok-judge.was;
  request_octets = λ p. omega (arith, c.type_inv.request p);
  dictionary_octets = λ p. omega (arith, c.type_inv.dictionary p);
  zeros = c.requires;
}) c.read_whole.ensures.read c.in-Ok.is

pub returns-in-Err-clause-answered : goal.returns-in-Err-clause-answered
returns-in-Err-clause-answered c =
    let g : Cleared c.args.request.now c.args.dictionary.now c.args.rows.now.statements.now c.args.parameters.now c.args.rows.now.contexts.now
    c.args.rows.now.conditions.now = record {
      before_goes = sym c.judge.ensures ∙ c.in_ok-judge.was;
      request_octets = λ p. omega (arith, c.type_inv.request p);
      dictionary_octets = λ p. omega (arith, c.type_inv.dictionary p);
      zeros = c.requires;
    } in
    let filled : c.fill.new.self ≡ replicate (length c.read_whole.new.parameters) 0 = search rules in
    refuses _ _ _ _ _ _ g.request_octets g.dictionary_octets
    (refuses-whole _ _ _ _ _ _ g c.read_whole.ensures.read c.in-Err.is)
    (c.clear.ensures.statements ∙ ap (λ n. replicate n 0) c.read_whole.ensures.kept.statements_long)
    (filled ∙ ap (λ n. replicate n 0) c.read_whole.auto.parameters)
    (c.clear.ensures.contexts ∙ ap (λ n. replicate n 0) c.read_whole.ensures.kept.contexts_long)
    (c.clear.ensures.conditions ∙ ap (λ n. replicate n 0) c.read_whole.ensures.kept.conditions_long)
