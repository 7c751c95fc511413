-- `references::field::read_named` meets its contract. The name that was skipped is the one that stands there. Assumes nothing.
use mathlib.Core.Path.{◌≡◌, sym, ◌∙◌}
use Rattle.std.proofs.Common.{rules}
use Rattle.std.specs.Prelude.{Err}
use Rattle.dictionary.specs.Dictionary.{name_at}
use Rattle.dictionary.specs.Internal.Walk.{relation_at}
use Rattle.grammar.specs.Values.{by_name}
use Rattle.grammar.specs.Reader.{name}
use Rattle.grammar.proofs.StepLaws.{cursor-refused}
use Rattle.references.proofs.Known.{field-known, field-refused, named_step, name-read}
use Rattle.references.proofs.field.read_named.Goals as goal

pub returns-in_err-after : goal.returns-in_err-after
returns-in_err-after c =
    let f : c.from_residual.result ≡ Err c.in_err-after.field-0.0 = search rules in
    rw f (sym (field-refused c.args.v (relation_at c.args.dictionary.now c.args.relation) c.args.at c.args.request.now c.args.c by_name
    (rw (cursor-refused (name c.args.request.now c.args.c) (sym c.in_err-after.was ∙ c.skip_name.ensures)))))

pub returns : goal.returns
returns c = rw (
  c.found_field.ensures,
  c.named_entry-found.ensures,
  c.name_at.ensures,
  named_step c.args.v c.args.dictionary.now c.args.c.at c.args.at c.in_ok-after.after c.args.relation
      (name_at c.args.request.now c.args.c.at),
)
    (sym (field-known c.args.v (relation_at c.args.dictionary.now c.args.relation) c.args.at c.args.request.now c.args.c by_name
    (name-read c.args.request.now c.args.c (sym c.in_ok-after.was ∙ c.skip_name.ensures))))
