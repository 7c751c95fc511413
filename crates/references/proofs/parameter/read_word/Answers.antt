-- `references::parameter::read_word` meets its contract. A law for each way through the definition. Assumes nothing.
use mathlib.Core.Path.{◌≡◌, sym, ap, ◌∙◌}
use Rattle.std.proofs.Common.{rules}
use Rattle.std.specs.Prelude.{Err, not}
use Rattle.grammar.specs.declared.Refusal.TheVariants.{NoParameter}
use Rattle.grammar.specs.Reader.{word}
use Rattle.grammar.specs.Internal.Steps.{same}
use Rattle.grammar.proofs.StepLaws.{same-read, answer-refused}
use Rattle.references.proofs.Known.{known_step, known-none, known-some}
use Rattle.references.proofs.References.{parameter-known, parameter-cut}
use Rattle.references.proofs.parameter.read_word.Goals as goal

pub returns-in_err-i : goal.returns-in_err-i
returns-in_err-i c =
    let f : c.from_residual.result ≡ Err c.in_err-i.field-0.0 = search rules in
    rw f (sym (parameter-cut c.args.around.now c.args.x c.args.request.now c.args.c
    (answer-refused same (word c.args.request.now c.args.c) (sym c.in_err-i.was ∙ c.next_word.ensures))))

pub returns-then-is_none : goal.returns-then-is_none
returns-then-is_none c = rw c.new.ensures
    (sym (parameter-known c.args.around.now c.args.x c.args.request.now c.args.c
    (same-read (word c.args.request.now c.args.c) (sym c.in_ok-i.was ∙ c.next_word.ensures)) ∙
    ap (λ o. known_step NoParameter o c.args.c.at c.in_ok-i.after) (sym c.parameter_fit-fit.ensures) ∙
    known-none NoParameter c.parameter_fit-fit.result c.args.c.at c.in_ok-i.after (c.is_none.ensures ∙ ap not c.if-is_none.true)))

pub returns : goal.returns
returns c =
    sym (parameter-known c.args.around.now c.args.x c.args.request.now c.args.c
    (same-read (word c.args.request.now c.args.c) (sym c.in_ok-i.was ∙ c.next_word.ensures)) ∙
    ap (λ o. known_step NoParameter o c.args.c.at c.in_ok-i.after) (sym c.parameter_fit-fit.ensures) ∙
    known-some NoParameter c.parameter_fit-fit.result c.args.c.at c.in_ok-i.after (c.is_none.ensures ∙ ap not c.if-is_none.false))
