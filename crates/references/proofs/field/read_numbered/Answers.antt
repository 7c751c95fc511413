-- `references::field::read_numbered` meets its contract. An id is its own index. Assumes nothing.
use mathlib.Core.Path.{◌≡◌, sym, ◌∙◌}
use Rattle.std.proofs.Common.{rules}
use Rattle.std.specs.Prelude.{Err}
use Rattle.dictionary.specs.Internal.Walk.{relation_at}
use Rattle.grammar.specs.Values.{by_number}
use Rattle.grammar.specs.Reader.{word}
use Rattle.grammar.specs.Internal.Steps.{same}
use Rattle.grammar.proofs.StepLaws.{same-read, answer-refused}
use Rattle.references.proofs.Known.{field-known, field-refused, numbered_step}
use Rattle.references.proofs.field.read_numbered.Goals as goal

pub returns-in_err-i : goal.returns-in_err-i
returns-in_err-i c =
    let f : c.from_residual.result ≡ Err c.in_err-i.field-0.0 = search rules in
    rw f (sym (field-refused c.args.v (relation_at c.args.dictionary.now c.args.relation) c.args.at c.args.request.now c.args.c by_number
    (rw (answer-refused same (word c.args.request.now c.args.c) (sym c.in_err-i.was ∙ c.next_word.ensures)))))

pub returns : goal.returns
returns c = rw (
  c.found_field.ensures,
  c.field_entry-found.ensures,
  numbered_step c.args.v c.args.dictionary.now c.args.c.at c.args.at c.in_ok-i.after c.args.relation c.in_ok-i.i,
)
    (sym (field-known c.args.v (relation_at c.args.dictionary.now c.args.relation) c.args.at c.args.request.now c.args.c by_number
    (rw (same-read (word c.args.request.now c.args.c) (sym c.in_ok-i.was ∙ c.next_word.ensures)))))
