-- `references::literal::number_literal` meets its contract. The scale byte, then so many bytes as the width has. Assumes nothing.
use mathlib.Core.Path.{◌≡◌, sym, ap, ◌∙◌}
use Rattle.std.proofs.Common.{rules}
use Rattle.std.specs.Prelude.{Ok, Err, Some}
use mir.Syntax.{w8}
use mir.Facts.{to_z-of_z}
use Rattle.grammar.specs.declared.Kind.TheVariants.{Number}
use Rattle.grammar.specs.Messages.{scale_byte}
use Rattle.grammar.specs.Internal.Steps.{same}
use Rattle.grammar.proofs.StepLaws.{same-read, answer-refused}
use Rattle.references.proofs.Literals.{number-scale-refused, number_is, number_cut}
use Rattle.references.proofs.literal.number_literal.Goals as goal

pub returns-in_err-scale : goal.returns-in_err-scale
returns-in_err-scale c =
    let f : c.from_residual.result ≡ Err c.in_err-scale.field-0.0 = search rules in
    rw f (sym (number-scale-refused c.args.w c.args.request.now c.args.c
    (answer-refused same (scale_byte c.args.w c.args.request.now c.args.c) (sym c.in_err-scale.was ∙ c.scale_byte.ensures))))

pub returns-in_err-after : goal.returns-in_err-after
returns-in_err-after c =
    let f : c.from_residual-in_err-after.result ≡ Err c.in_err-after.field-0.0 = search rules in
    rw f (sym (number_cut c.args.w c.args.request.now c.args.c
    (same-read (scale_byte c.args.w c.args.request.now c.args.c) (sym c.in_ok-scale.was ∙ c.scale_byte.ensures))
    (sym c.in_err-after.was ∙ c.skip.ensures ∙ rw c.width_bytes.ensures)))

pub returns : goal.returns
returns c =
    ap (λ z. Ok (Some (Number z), c.in_ok-after.after)) (to_z-of_z {w = w8} (record { sfits = c.signed_byte.type_inv }) ∙ c.signed_byte.ensures) ∙
    sym (number_is c.args.w c.args.request.now c.args.c
    (same-read (scale_byte c.args.w c.args.request.now c.args.c) (sym c.in_ok-scale.was ∙ c.scale_byte.ensures))
    (sym c.in_ok-after.was ∙ c.skip.ensures ∙ rw c.width_bytes.ensures))
